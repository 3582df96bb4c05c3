-- The minutes of a tuple's gaps and its covered ones make up its span (specs/Longest).
-- In order: how long the stretches of a list are together; `LengthsAddUp`; which minutes lie in the stretches of a
-- list, and so in a tuple's gaps; `MinutesAddUp`.
-- Assumes nothing.
use mathlib.Core.Bool.{Bool, true, false, not, ◌&&◌, ◌||◌, and-false, or_assoc}
use mathlib.Core.List.{List, [], ◌∷◌}
use mathlib.Core.Logic.{⊎_elim}
use mathlib.Core.Path.{◌≡◌, refl, sym, ap, ◌∙◌}
use Prim.Native.Nat.{ℕ, suc, ◌+◌, ◌≤◌}
use native.Mathlib.Omega.{arith}
use lib.Dec.{eqb}
use lib.ListN.{length}
use borrow.Author.Tests.{eqb-true, eqb-false, eq-eqb}
use Rattle.lists.specs.Choice.{pick}
use Rattle.lists.specs.Members.{all, any, keep, tally, total}
use Rattle.lists.proofs.Choice.{bool_cases, and_both, or_left, or_right, same_test}
use Rattle.lists.proofs.Members.{all-imply, keep_all}
use Rattle.lists.proofs.Tally.{tally-cong, tally-keep, tally-not, length-keep}
use Rattle.lists.proofs.Below.{length_up}
use Rattle.interval.specs.Time.{span, contains}
use Rattle.interval.specs.Tuple.{from}
use Rattle.interval.specs.declared.time.Interval.{Interval}
use Rattle.interval.specs.declared.tuple.Tuple.{Tuple}
use Rattle.interval.specs.declared.tuple.Row.{Row}
use Rattle.interval.proofs.Overlap.{contains-is, is-contains}
use Rattle.coverage.specs.Gaps.{chronon, covered, minutes_in, minutes_of, before, stretches, gaps_of}
use Rattle.coverage.specs.Longest.{in_gap, LengthsAddUp, MinutesAddUp}

-- the first stretch of a list, if any, is not empty
abbrev Some : List Interval → Type 0
Some [] = Unit {0}
Some (v ∷ vs) = v.first.0 ≤ v.last.0

-- one more minute before a list of stretches: it makes them one minute longer
one-longer : (m : ℕ) (vs : List Interval) → Some vs
    → Some (before m vs) × (total minutes_in (before m vs) ≡ suc (total minutes_in vs))
one-longer m [] s = (omega arith, omega arith)
one-longer m (v ∷ vs) s = go (eqb (suc m) v.first.0) (eqb-true (suc m) v.first.0)
  where
    go : (t : Bool) → (t ≡ true → suc m ≡ v.first.0)
        → Some (pick t (span m v.last.0 ∷ vs) (span m m ∷ (v ∷ vs)))
        × (total minutes_in (pick t (span m v.last.0 ∷ vs) (span m m ∷ (v ∷ vs))) ≡ suc (total minutes_in (v ∷ vs)))
    go true e = let h = e refl in (omega arith, omega arith)
    go false e = (omega arith, omega arith)

-- so the stretches of a list are as long as the list
stretched : (ms : List ℕ) → Some (stretches ms) × (total minutes_in (stretches ms) ≡ length ms)
unfolding stretches
stretched [] = (tt, refl)
stretched (m ∷ ms) =
    let h = one-longer m (stretches ms) (stretched ms).0 in
    (h.0, h.1 ∙ ap suc (stretched ms).1)

module _ (d : Tuple) (rs : List Row) where
  free-and-covered : tally (λ m. not (covered rs m)) (minutes_of d) + tally (covered rs) (minutes_of d)
      ≡ minutes_in d.valid
  unfolding minutes_of
  free-and-covered = tally-not (covered rs) (minutes_of d) ∙ length_up (from d) (minutes_in d.valid)

pub lengths-add-up : LengthsAddUp
unfolding gaps_of
lengths-add-up d rs =
    rw ((stretched (keep (λ m. not (covered rs m)) (minutes_of d))).1, length-keep) (free-and-covered d rs)

-- a minute lies in an interval of one minute if it is that one; in one that starts a minute earlier than another, if it
-- is that minute or lies in the other
in_one : (m x : ℕ) → contains (span m m) (chronon x) ≡ eqb x m
in_one m x = same_test (contains (span m m) (chronon x)) (eqb x m) to back
  where
    to : contains (span m m) (chronon x) ≡ true → eqb x m ≡ true
    to e = eq-eqb x m (omega (arith, contains-is (span m m) (chronon x) e))

    back : eqb x m ≡ true → contains (span m m) (chronon x) ≡ true
    back e =
        let q = eqb-true x m e in
        is-contains (span m m) (chronon x) (omega arith) (omega arith)

in-longer : (m x : ℕ) (v : Interval) → suc m ≡ v.first.0 → v.first.0 ≤ v.last.0
    → contains (span m v.last.0) (chronon x) ≡ (eqb x m || contains v (chronon x))
in-longer m x v e s = same_test (contains (span m v.last.0) (chronon x)) (eqb x m || contains v (chronon x)) to back
  where
    to : contains (span m v.last.0) (chronon x) ≡ true → (eqb x m || contains v (chronon x)) ≡ true
    to h =
        let q = contains-is (span m v.last.0) (chronon x) h in
        ⊎_elim (or_left (eqb x m) (contains v (chronon x)))
        (λ n. or_right (eqb x m) (contains v (chronon x))
        (is-contains v (chronon x) (omega (arith, eqb-false x m n)) (omega arith)))
        (bool_cases (eqb x m))

    back : (eqb x m || contains v (chronon x)) ≡ true → contains (span m v.last.0) (chronon x) ≡ true
    back h =
        ⊎_elim (λ q. let i = eqb-true x m q in within (omega arith) (omega arith))
        (λ n. let i = contains-is v (chronon x) (rw n at h) in within (omega arith) (omega arith))
        (bool_cases (eqb x m))
      where
        within : m ≤ x → x ≤ v.last.0 → contains (span m v.last.0) (chronon x) ≡ true
        within lo hi = is-contains (span m v.last.0) (chronon x) lo hi

in-before : (m x : ℕ) (vs : List Interval) → Some vs → in_gap (before m vs) x ≡ (eqb x m || in_gap vs x)
unfolding in_gap
in-before m x [] s = rw (in_one m x)
in-before m x (v ∷ vs) s = go (eqb (suc m) v.first.0) (eqb-true (suc m) v.first.0)
  where
    go : (t : Bool) → (t ≡ true → suc m ≡ v.first.0)
        → in_gap (pick t (span m v.last.0 ∷ vs) (span m m ∷ (v ∷ vs))) x ≡ (eqb x m || in_gap (v ∷ vs) x)
    go true e = rw (in-longer m x v (e refl) s, or_assoc)
    go false e = rw (in_one m x)

-- so the minutes in the stretches of a list are its members
in-stretches : (x : ℕ) (ms : List ℕ) → in_gap (stretches ms) x ≡ any (eqb x) ms
unfolding in_gap stretches
in-stretches x [] = refl
in-stretches x (m ∷ ms) = in-before m x (stretches ms) (stretched ms).0 ∙ rw (in-stretches x ms)

-- a number is one of the members that pass a test if it is a member and passes
any-kept : (p : ℕ → Bool) (x : ℕ) (ms : List ℕ) → any (eqb x) (keep p ms) ≡ (any (eqb x) ms && p x)
any-kept p x [] = refl
any-kept p x (m ∷ ms) = go (eqb x m) (p m) refl (λ e. ap p (eqb-true x m e)) (any-kept p x ms)
  where
    kept : List ℕ
    kept = keep p ms

    go : (t b : Bool) → eqb x m ≡ t → (t ≡ true → p x ≡ b) → any (eqb x) kept ≡ (any (eqb x) ms && p x)
        → any (eqb x) (pick b (m ∷ kept) kept) ≡ ((t || any (eqb x) ms) && p x)
    go true true q e h = rw (q, e refl)
    go true false q e h = rw (h, e refl) (and-false (any (eqb x) ms))
    go false true q e h = rw q h
    go false false q e h = h

-- every member is a member
all-members : (ms : List ℕ) → all (λ x. any (eqb x) ms) ms ≡ true
all-members [] = refl
all-members (m ∷ ms) =
    and_both (any (eqb m) (m ∷ ms)) (all (λ x. any (eqb x) (m ∷ ms)) ms)
    (or_left (eqb m m) (any (eqb m) ms) (eq-eqb m m refl))
    (all-imply (λ x. any (eqb x) ms) (λ x. any (eqb x) (m ∷ ms)) ms (λ x. or_right (eqb x m) (any (eqb x) ms))
    (all-members ms))

-- so of the minutes of a tuple those in a gap are as many as the uncovered ones
tally-in-gaps : (d : Tuple) (rs : List Row)
    → tally (in_gap (gaps_of d rs)) (minutes_of d) ≡ tally (λ m. not (covered rs m)) (minutes_of d)
unfolding gaps_of
tally-in-gaps d rs =
    tally-cong (in_gap (gaps_of d rs)) (λ x. any (eqb x) ms && free x) ms
    (λ x. in-stretches x (keep free ms) ∙ any-kept free x ms)
    ∙ sym (tally-keep free (λ x. any (eqb x) ms) ms)
    ∙ ap (tally free) (keep_all (λ x. any (eqb x) ms) ms (all-members ms))
  where
    ms : List ℕ
    ms = minutes_of d

    free : ℕ → Bool
    free m = not (covered rs m)

pub minutes-add-up : MinutesAddUp
minutes-add-up d rs = rw (tally-in-gaps d rs) (free-and-covered d rs)
