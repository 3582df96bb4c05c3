-- What the answers say beyond the call (specs/Counted): enough is read; and the answers count the rows of any list that
-- has those of the store, each as often.
-- Assumes nothing.
use mathlib.Core.Bool.{true, false}
use mathlib.Core.List.{List, [], ◌∷◌}
use mathlib.Core.Logic.{◌⊎◌, inl, inr}
use mathlib.Core.Path.{◌≡◌, sym, ◌∙◌}
use Prim.Native.Nat.{ℕ, ◌≤◌, ◌<◌}
use native.Mathlib.Omega.{arith}
use lib.Dec.{eqb}
use borrow.Author.Tests.{leb-true}
use Rattle.lists.specs.Members.{tally}
use Rattle.lists.specs.Same.{Same}
use Rattle.lists.proofs.Choice.{bool_cases, and_right, pick_true}
use Rattle.lists.proofs.Tally.{total-agree, total-zero}
use Rattle.lists.proofs.Same.{tally-same}
use Rattle.label.specs.Label.{label_check}
use Rattle.interval.specs.Time.{calendar_end, contains}
use Rattle.interval.specs.Tuple.{same_row}
use Rattle.interval.specs.declared.tuple.Row.{Row}
use Rattle.interval.proofs.Overlap.{contains-is}
use Rattle.interval.proofs.Tuples.{same-row-is}
use Rattle.plan.specs.Plan.{home}
use Rattle.plan.specs.declared.Partitioning.{Partitioning}
use Rattle.part.specs.Part.{rows_in}
use Rattle.store.specs.Store.{row_part, row_at_home, stored_rows}
use Rattle.checks.specs.Stores.{rows_number}
use Rattle.question.specs.Question.{legal_question, row_meets, answer_in, legal_minutes, smallest}
use Rattle.question.specs.Steps.{window_of}
use Rattle.question.specs.Counted.{start_for, EnoughRead}
use Rattle.question.specs.declared.Question.{Question}
use Rattle.question.proofs.Windows.{in_calendar, seen, Starts, window-seen, window-starts}
use Rattle.question.proofs.Lanes.{tally-agree, tally-never, home-inside, resides, at_home, meets, meets-legal}
use Rattle.question.proofs.Lanes.{meets-from}

-- ---- enough is read

-- a lane below that where the reading starts, and a question whose legal minute would lie in the window
module _ (p : Partitioning) (rows : List ℕ) (known : rows_number p rows ≡ 0) (qs : List Question) (i : ℕ)
    (low : i < start_for p (legal_minutes qs)) where
  -- a legal minute in the window: the lane is below the minute's own
  below-minute : (q : Question) → in_calendar q ≡ true → contains (window_of qs) q.minute ≡ true
      → (m : ℕ) × (m ≤ q.minute.0) × (i < home p m)
  below-minute q legal inside =
      go (legal_minutes qs) (window-starts qs) low
    where
      go : (ms : List ℕ) → Starts ms (window_of qs).first.0 → i < start_for p ms
          → (m : ℕ) × (m ≤ q.minute.0) × (i < home p m)
      go [] e l =
          absurd (omega (
            arith,
            leb-true q.minute.0 calendar_end legal,
            e,
            (contains-is (window_of qs) q.minute inside).0,
          ))
      go (m ∷ ms) e l = (smallest m ms, omega (arith, e, (contains-is (window_of qs) q.minute inside).0), l)

  inside-plan : i < p.count
  inside-plan = go (legal_minutes qs) low
    where
      go : (ms : List ℕ) → i < start_for p ms → i < p.count
      go [] l = l
      go (m ∷ ms) l = omega (arith, l, home-inside p (smallest m ms))

  -- no row of the lane meets the question
  never : (q : Question) → seen (window_of qs) q ≡ true → (r : Row) → row_at_home p i r ≡ true → row_meets q r ≡ false
  unfolding seen legal_question
  never q s r h = go (bool_cases (row_meets q r))
    where
      go : (row_meets q r ≡ true) ⊎ (row_meets q r ≡ false) → row_meets q r ≡ false
      go (inr e) = e
      go (inl e) =
          let here = resides p i r h in
          let met = meets q r e in
          let legal = and_right (eqb (label_check q.label) 0) (in_calendar q) (meets-legal p i q r here met) in
          let inside = sym (pick_true (in_calendar q) (contains (window_of qs) q.minute) true legal) ∙ s in
          let b = below-minute q legal inside in
          absurd (omega (arith, b.2, meets-from p i q r here met b.0 b.1))

  none-met : (q : Question) → seen (window_of qs) q ≡ true → tally (row_meets q) (rows_in (row_part p rows i)) ≡ 0
  none-met q s =
      tally-agree (row_at_home p i) (row_meets q) (λ r. false) (rows_in (row_part p rows i))
      (at_home p rows known i inside-plan) (never q s)
      ∙ tally-never (rows_in (row_part p rows i))

pub enough-read : EnoughRead
enough-read p rows known qs i low =
    total-agree (seen (window_of qs)) (λ (q : Question). tally (row_meets q) (rows_in (row_part p rows i))) (λ q. 0) qs
    (window-seen qs) (none-met p rows known qs i low)
    ∙ total-zero qs

-- ---- the answers count the rows of any list with those of the store

pub counts_same : (p : Partitioning) (rows : List ℕ) (rs : List Row) → Same same_row (stored_rows p rows) rs
    → (q : Question) → answer_in (stored_rows p rows) q ≡ answer_in rs q
unfolding answer_in
counts_same p rows rs h q = rw (tally-same same_row same-row-is (row_meets q) (stored_rows p rows) rs h)
