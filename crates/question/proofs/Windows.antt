-- The window of a list of questions (specs/Steps): every legal minute lies in it, it starts at the smallest legal
-- minute, or past the calendar where there is none, and it is made wider by one question after the other.
-- Assumes nothing.
use mathlib.Core.Bool.{Bool, true, false}
use mathlib.Core.List.{List, [], ◌∷◌, map}
use mathlib.Core.Logic.{◌⊎◌, inl, inr}
use mathlib.Core.Path.{◌≡◌, refl, ◌∙◌, ap}
use Prim.Native.Nat.{ℕ, suc, ◌+◌, ◌≤◌, ◌<◌, min, max}
use native.Mathlib.Omega.{arith}
use lib.Dec.{leb}
use lib.ListN.{length, get_or, drop, drop_of_length-le}
use lib.Seq.{drop-cons}
use borrow.Author.Tests.{leb-true, le-leb}
use Rattle.lists.specs.Choice.{pick}
use Rattle.lists.specs.Members.{all}
use Rattle.lists.proofs.Choice.{bool_cases, and_left, and_both}
use Rattle.lists.proofs.Members.{all_keep}
use Rattle.interval.specs.Time.{calendar_end, span, contains}
use Rattle.interval.specs.declared.time.Interval.{Interval}
use Rattle.question.specs.Question.{legal_minutes, smallest}
use Rattle.question.specs.Steps.{no_window, widened_by, widened_all, window_of}
use Rattle.question.specs.declared.Question.{Question}

-- the question's minute is legal
abbrev pub in_calendar : Question → Bool
in_calendar q = leb q.minute.0 calendar_end

-- where it is, it lies in that window
unfoldable pub seen : Interval → Question → Bool
seen v q = pick (in_calendar q) (contains v q.minute) true

-- ---- a window made wider: what it was stays in it, and a legal minute comes into it

module _ (v : Interval) (q : Question) where
  wide : in_calendar q ≡ true
      → widened_by v q ≡ span (min v.first.0 q.minute.0) (max v.last.0 q.minute.0)
  unfolding widened_by
  wide e = rw e

  kept : in_calendar q ≡ false → widened_by v q ≡ v
  unfolding widened_by
  kept e = rw e

  widened-holds : ((widened_by v q).first.0 ≤ v.first.0) × (v.last.0 ≤ (widened_by v q).last.0)
  widened-holds = go (bool_cases (in_calendar q))
    where
      go : (in_calendar q ≡ true) ⊎ (in_calendar q ≡ false)
          → ((widened_by v q).first.0 ≤ v.first.0) × (v.last.0 ≤ (widened_by v q).last.0)
      go (inl e) = rw (wide e) (omega arith, omega arith)
      go (inr e) = rw (kept e) (omega arith, omega arith)

  widened-in : in_calendar q ≡ true
      → ((widened_by v q).first.0 ≤ q.minute.0) × (q.minute.0 ≤ (widened_by v q).last.0)
  widened-in e = rw (wide e) (omega arith, omega arith)

-- of a list
all_hold : (v : Interval) (qs : List Question)
    → ((widened_all v qs).first.0 ≤ v.first.0) × (v.last.0 ≤ (widened_all v qs).last.0)
all_hold v [] = (omega arith, omega arith)
all_hold v (q ∷ qs) =
    let one = widened-holds v q in
    let rest = all_hold (widened_by v q) qs in
    (omega arith, omega arith)

-- every legal minute of a list lies in its window
all_seen : (v : Interval) (qs : List Question) → all (seen (widened_all v qs)) qs ≡ true
unfolding seen contains
all_seen v [] = refl
all_seen v (q ∷ qs) = and_both _ _ (go (bool_cases (in_calendar q))) (all_seen (widened_by v q) qs)
  where
    w : Interval
    w = widened_all (widened_by v q) qs

    go : (in_calendar q ≡ true) ⊎ (in_calendar q ≡ false) → seen w q ≡ true
    go (inl e) =
        let rest = all_hold (widened_by v q) qs in
        let one = widened-in v q e in
        rw e
        (and_both (leb w.first.0 q.minute.0) (leb q.minute.0 w.last.0)
        (le-leb w.first.0 q.minute.0 (omega arith))
        (le-leb q.minute.0 w.last.0 (omega arith)))
    go (inr e) = rw e

pub window-seen : (qs : List Question) → all (seen (window_of qs)) qs ≡ true
unfolding window_of
window-seen qs = all_seen _ qs

-- ---- where it starts

-- the smaller of two numbers and a list's smallest
smallest-min : (a b : ℕ) (ks : List ℕ) → smallest (min a b) ks ≡ min a (smallest b ks)
smallest-min a b [] = refl
smallest-min a b (k ∷ ks) = omega arith

smallest-le : (m : ℕ) (ks : List ℕ) → smallest m ks ≤ m
smallest-le m [] = omega arith
smallest-le m (k ∷ ks) = omega arith

-- a window made wider by a list starts at the smallest of its own start and the legal minutes
all-starts : (v : Interval) (qs : List Question) → (widened_all v qs).first.0 ≡ smallest v.first.0 (legal_minutes qs)
unfolding legal_minutes
all-starts v [] = refl
all-starts v (q ∷ qs) = all-starts (widened_by v q) qs ∙ go (bool_cases (in_calendar q))
  where
    go : (in_calendar q ≡ true) ⊎ (in_calendar q ≡ false)
        → smallest (widened_by v q).first.0 (legal_minutes qs) ≡ smallest v.first.0 (legal_minutes (q ∷ qs))
    go (inl e) = rw (wide v q e, e) (smallest-min v.first.0 q.minute.0 (legal_minutes qs))
    go (inr e) = rw (kept v q e, e)

-- the legal minutes lie in the calendar
legal-minutes : (qs : List Question) → all (λ m. leb m calendar_end) (legal_minutes qs) ≡ true
unfolding legal_minutes
legal-minutes qs = all_keep (λ m. leb m calendar_end) (map (λ (q : Question). q.minute.0) qs)

-- the window of a list starts past the calendar where no minute is legal, else at the smallest that is
abbrev pub Starts : List ℕ → ℕ → Type 0
Starts [] first = first ≡ calendar_end + 1
Starts (m ∷ ms) first = first ≡ smallest m ms

pub window-starts : (qs : List Question) → Starts (legal_minutes qs) (window_of qs).first.0
unfolding window_of
window-starts qs = go (legal_minutes qs) (legal-minutes qs) (all-starts _ qs)
  where
    go : (ms : List ℕ) → all (λ m. leb m calendar_end) ms ≡ true
        → (window_of qs).first.0 ≡ smallest (calendar_end + 1) ms → Starts ms (window_of qs).first.0
    go [] h e = e
    go (m ∷ ms) h e =
        let low = leb-true m calendar_end (and_left (leb m calendar_end) (all (λ m. leb m calendar_end) ms) h) in
        let least = smallest-le m ms in
        e ∙ omega arith

-- ---- made wider by one question after the other

-- before the first question
pub window-first : (qs : List Question) → widened_all no_window qs ≡ window_of qs
unfolding window_of
window-first qs = refl

-- question i is next
pub window-next : (v : Interval) (qs : List Question) (i : ℕ) (d : Question) → i < length qs
    → widened_all v (drop i qs) ≡ widened_all (widened_by v (get_or qs i d)) (drop (suc i) qs)
window-next v qs i d less = ap (widened_all v) (drop-cons qs i d less)

-- after the last
pub window-last : (v : Interval) (qs : List Question) (i : ℕ) → length qs ≤ i → widened_all v (drop i qs) ≡ v
window-last v qs i over = ap (widened_all v) (drop_of_length-le qs over)
