-- The records of a drawing from a minute on, by the next covered stretch from there.
-- Assumes nothing.
use mathlib.Core.List.{List, [], ◌∷◌, ◌++◌, map}
use mathlib.Core.Path.{◌≡◌, ap}
use Prim.Native.Nat.{ℕ, ◌+◌, ◌-◌, ◌≤◌, ◌<◌}
use Rattle.interval.specs.Time.{span}
use Rattle.interval.specs.Tuple.{from, to, during}
use Rattle.interval.specs.declared.time.Interval.{Interval}
use Rattle.interval.specs.declared.tuple.Tuple.{Tuple}
use Rattle.plan.specs.declared.Partitioning.{Partitioning}
use Rattle.coverage.specs.Gaps.{rows_of}
use Rattle.coverage.specs.NextCovered.{next_covered}
use Rattle.coverage.proofs.Stretches.{gaps_from, gaps-whole, gaps-end}
use Rattle.coverage.proofs.Nearest.{no_gap, one-gap}
use Rattle.gaps.specs.Listed.{gaps_by}

module _ (p : Partitioning) (inner : List ℕ) (d : Tuple) where
  -- the records of a drawing from minute m on
  abbrev pub records_from : ℕ → List Tuple
  records_from m = map (during d) (gaps_from d (rows_of p inner d) m)

  pub records-whole : gaps_by p inner d ≡ records_from (from d)
  unfolding gaps_by
  records-whole = ap (map (during d)) (gaps-whole d (rows_of p inner d))

  pub records-end : (m : ℕ) → to d < m → records_from m ≡ []
  records-end m l = ap (map (during d)) (gaps-end d (rows_of p inner d) m l)

  -- by the next covered stretch: none before it, or one that ends where it starts
  module _ (m : ℕ) (v : Interval) (e : v ≡ next_covered d (rows_of p inner d) m) (l : m ≤ to d) where
    pub records-none : v.first.0 ≤ m → records_from m ≡ records_from (v.last.0 + 1)
    records-none h = ap (map (during d)) (no_gap p inner d m v e l h)

    pub records-one : m < v.first.0 → (t : Tuple) → t ≡ during d (span m (v.first.0 - 1))
        → records_from m ≡ (t ∷ []) ++ records_from (v.last.0 + 1)
    records-one h t q = rw q (ap (map (during d)) (one-gap p inner d m v e l h))
