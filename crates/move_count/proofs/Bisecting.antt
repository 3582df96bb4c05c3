-- The partition of a chronon by bisecting the cuts: `Between`, the invariant of `home_in`, with its laws.
-- Assumes nothing.
use mathlib.Core.Bool.{true}
use mathlib.Core.List.{List}
use mathlib.Core.Path.{◌≡◌}
use Prim.Native.Nat.{ℕ, ◌+◌, ◌-◌, ◌≤◌, ◌<◌}
use native.Mathlib.Omega.{arith}
use lib.ListN.{length, get_or}
use Rattle.plan.specs.Plan.{cover, home_of}
use Rattle.plan.proofs.Homes.{home-above, home_by}

-- the partition is one of `low` to `high`
pub record Between (cs : List ℕ) (m low high : ℕ) : Type 0 where
  pub covered : cover cs ≡ true
  pub within : high < length cs
  pub from : low ≤ home_of cs m
  pub upto : home_of cs m ≤ high

module _ (cs : List ℕ) (m : ℕ) where
  pub between-all : cover cs ≡ true → home_of cs m < length cs → Between cs m 0 (length cs - 1)
  between-all h l = record { covered = h; within = omega arith; from = omega arith; upto = omega arith }

  -- the chronon is past the cut in the middle; it is not
  pub between-above : (low high i : ℕ) → i < high → get_or cs i 0 < m → Between cs m low high
      → Between cs m (i + 1) high
  between-above low high i b g s = record {
    covered = s.covered;
    within = s.within;
    from = omega (arith, home-above cs s.covered i m (omega (arith, s.within)) g);
    upto = s.upto;
  }

  pub between-by : (low high i : ℕ) → i < high → m ≤ get_or cs i 0 → Between cs m low high → Between cs m low i
  between-by low high i b g s = record {
    covered = s.covered;
    within = omega (arith, s.within);
    from = s.from;
    upto = home_by cs s.covered i m (omega (arith, s.within)) g;
  }

  -- one partition is left
  pub between-one : (low high : ℕ) → high ≤ low → Between cs m low high → low ≡ home_of cs m
  between-one low high b s = omega (arith, s.from, s.upto)
