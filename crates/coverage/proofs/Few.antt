-- A tuple has at most one gap more than rows (specs/Longest): behind each gap but the last a row ends.
-- In order: rows that end at a minute or later; where a covered stretch ends, a row ends; the stretches from a minute
-- on; `FewGaps`.
-- Assumes nothing.
use mathlib.Core.Bool.{Bool, true, false, not, false≢true}
use mathlib.Core.List.{List, [], ◌∷◌}
use mathlib.Core.Logic.{◌⊎◌, inl, inr, ⊎_elim}
use mathlib.Core.Path.{◌≡◌, refl, sym, ap, ◌∙◌}
use Prim.Native.Nat.{ℕ, zero, suc, ◌+◌, ◌≤◌, ◌<◌}
use native.Mathlib.Omega.{arith}
use lib.Dec.{eqb, leb}
use lib.ListN.{length}
use borrow.Author.Tests.{eq-eqb, le-leb, lt-leb}
use Rattle.lists.specs.Choice.{pick}
use Rattle.lists.specs.Members.{keep, tally, up_from}
use Rattle.lists.proofs.Choice.{bool_cases, or-neither-left, or-neither-right}
use Rattle.lists.proofs.Tally.{tally-le}
use Rattle.interval.specs.Time.{span, contains}
use Rattle.interval.specs.Tuple.{from, row_to}
use Rattle.interval.specs.declared.time.Interval.{Interval}
use Rattle.interval.specs.declared.tuple.Row.{Row}
use Rattle.interval.proofs.Overlap.{contains-is, is-contains}
use Rattle.plan.proofs.Homes.{le-or-lt}
use Rattle.coverage.specs.Gaps.{chronon, covered, minutes_in, minutes_of, before, stretches, gaps_of}
use Rattle.coverage.specs.Longest.{FewGaps}
use Rattle.coverage.proofs.Stretches.{before-length}

-- ---- how many rows end at minute m or later

abbrev ends_by : ℕ → List Row → ℕ
ends_by m rs = tally (λ r. leb m (row_to r)) rs

-- one row, by its last minute
one-ends : (m : ℕ) (r : Row) (rs : List Row) → m ≤ row_to r → ends_by m (r ∷ rs) ≡ suc (ends_by m rs)
one-ends m r rs l = rw (le-leb m (row_to r) l)

none-ends : (m : ℕ) (r : Row) (rs : List Row) → row_to r < m → ends_by m (r ∷ rs) ≡ ends_by m rs
none-ends m r rs l = rw (lt-leb m (row_to r) l)

-- no fewer than those that end later
ends-later : (m : ℕ) (rs : List Row) → ends_by (suc m) rs ≤ ends_by m rs
ends-later m [] = omega arith
ends-later m (r ∷ rs) =
    ⊎_elim
    (λ l. omega (arith, one-ends (suc m) r rs l, one-ends m r rs (omega arith), ends-later m rs))
    (λ l. ⊎_elim
    (λ k. omega (arith, none-ends (suc m) r rs l, one-ends m r rs k, ends-later m rs))
    (λ k. omega (arith, none-ends (suc m) r rs l, none-ends m r rs k, ends-later m rs))
    (le-or-lt m (row_to r)))
    (le-or-lt (suc m) (row_to r))

-- where a covered minute comes before an uncovered one, a row ends
one-more-ends : (m : ℕ) (rs : List Row) → covered rs m ≡ true → covered rs (suc m) ≡ false
    → suc (ends_by (suc m) rs) ≤ ends_by m rs
unfolding covered
one-more-ends m [] e f = absurd (false≢true e)
one-more-ends m (r ∷ rs) e f =
    ⊎_elim here (λ q. there (one-more-ends m rs (rw q at e) rest)) (bool_cases (contains r.valid (chronon m)))
  where
    after : contains r.valid (chronon (suc m)) ≡ false
    after = or-neither-left (contains r.valid (chronon (suc m))) (covered rs (suc m)) f

    rest : covered rs (suc m) ≡ false
    rest = or-neither-right (contains r.valid (chronon (suc m))) (covered rs (suc m)) f

    here : contains r.valid (chronon m) ≡ true → suc (ends_by (suc m) (r ∷ rs)) ≤ ends_by m (r ∷ rs)
    here q =
        let in-it = contains-is r.valid (chronon m) q in
        let ends : row_to r < suc m =
        ⊎_elim
        (λ l. absurd (false≢true (sym after ∙ is-contains r.valid (chronon (suc m)) (omega arith) l))) (λ l. l)
        (le-or-lt (suc m) (row_to r)) in
        omega (arith, none-ends (suc m) r rs ends, one-ends m r rs in-it.1, ends-later m rs)

    there : suc (ends_by (suc m) rs) ≤ ends_by m rs → suc (ends_by (suc m) (r ∷ rs)) ≤ ends_by m (r ∷ rs)
    there more =
        ⊎_elim
        (λ l. omega (arith, one-ends (suc m) r rs l, one-ends m r rs (omega arith), more))
        (λ l. ⊎_elim
        (λ k. omega (arith, none-ends (suc m) r rs l, one-ends m r rs k, more))
        (λ k. omega (arith, none-ends (suc m) r rs l, none-ends m r rs k, more))
        (le-or-lt m (row_to r)))
        (le-or-lt (suc m) (row_to r))

-- ---- the stretches of the uncovered minutes from m on

-- a minute before one that is the first lengthens its stretch
before-both : (m : ℕ) (vs : List Interval) → length (before m (before (suc m) vs)) ≡ length (before (suc m) vs)
before-both m [] = rw (eq-eqb (suc m) (suc m) refl)
before-both m (v ∷ vs) = go (eqb (suc (suc m)) v.first.0)
  where
    go : (b : Bool) → length (before m (pick b (span (suc m) v.last.0 ∷ vs) (span (suc m) (suc m) ∷ (v ∷ vs))))
        ≡ length (pick b (span (suc m) v.last.0 ∷ vs) (span (suc m) (suc m) ∷ (v ∷ vs)))
    go true = rw (eq-eqb (suc m) (suc m) refl)
    go false = rw (eq-eqb (suc m) (suc m) refl)

module _ (rs : List Row) where
  -- of n minutes from m on
  left : ℕ → ℕ → List Interval
  left m n = stretches (keep (λ m. not (covered rs m)) (up_from m n))

  left-none : (m : ℕ) → left m 0 ≡ []
  unfolding left stretches
  left-none m = refl

  left-covered : (m n : ℕ) → covered rs m ≡ true → left m (suc n) ≡ left (suc m) n
  unfolding left
  left-covered m n e = rw e

  left-free : (m n : ℕ) → covered rs m ≡ false → left m (suc n) ≡ before m (left (suc m) n)
  unfolding left stretches
  left-free m n e = rw e

  -- two uncovered minutes are in one stretch, unless the first is the last of all
  left_both : (m n : ℕ) → covered rs m ≡ false → covered rs (suc m) ≡ false
      → (length (left m (suc n)) ≡ 1) ⊎ (length (left m (suc n)) ≡ length (left (suc m) n))
  unfolding left stretches
  left_both m zero e f = inl (ap length (left-free m 0 e))
  left_both m (suc n) e f =
      let rest = left-free (suc m) n f in
      inr (ap length (left-free m (suc n) e ∙ ap (before m) rest) ∙ before-both m (left (suc (suc m)) n)
      ∙ ap length (sym rest))

  -- one stretch, where it starts with m, and one for each row that ends from there on
  few-left : (n m : ℕ) → length (left m n) ≤ pick (covered rs m) 0 1 + ends_by m rs
  few-left zero m = rw (left-none m) (omega arith)
  few-left (suc n) m =
      ⊎_elim
      (λ e. ⊎_elim (hung-hung e) (hung-free e) (bool_cases (covered rs (suc m))))
      (λ e. ⊎_elim (free-hung e) (free-free e) (bool_cases (covered rs (suc m)))) (bool_cases (covered rs m))
      (few-left n (suc m))
    where
      Few : Type 0
      Few = length (left m (suc n)) ≤ pick (covered rs m) 0 1 + ends_by m rs

      Rest : Type 0
      Rest = length (left (suc m) n) ≤ pick (covered rs (suc m)) 0 1 + ends_by (suc m) rs

      hung-hung : covered rs m ≡ true → covered rs (suc m) ≡ true → Rest → Few
      hung-hung e f h = rw (left-covered m n e, e) (omega (arith, ends-later m rs, rw f at h))

      hung-free : covered rs m ≡ true → covered rs (suc m) ≡ false → Rest → Few
      hung-free e f h = rw (left-covered m n e, e) (omega (arith, one-more-ends m rs e f, rw f at h))

      free-hung : covered rs m ≡ false → covered rs (suc m) ≡ true → Rest → Few
      free-hung e f h =
          rw (left-free m n e, e)
          (omega (arith, before-length m (left (suc m) n), ends-later m rs, rw f at h))

      free-free : covered rs m ≡ false → covered rs (suc m) ≡ false → Rest → Few
      free-free e f h =
          rw e
          (⊎_elim (λ q. omega (arith, q)) (λ q. omega (arith, q, ends-later m rs, rw f at h)) (left_both m n e f))

pub few-gaps : FewGaps
unfolding gaps_of minutes_of left
few-gaps d rs = most (covered rs (from d)) (few-left rs (minutes_in d.valid) (from d))
  where
    most : (b : Bool) → length (gaps_of d rs) ≤ pick b 0 1 + ends_by (from d) rs
        → length (gaps_of d rs) ≤ suc (length rs)
    most true h = omega (arith, tally-le (λ r. leb (from d) (row_to r)) rs)
    most false h = omega (arith, tally-le (λ r. leb (from d) (row_to r)) rs)
