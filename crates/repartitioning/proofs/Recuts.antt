-- The plan with new cuts: its cuts are the new ones, it has 64 places, and it is legal where they cover; so it is a
-- `Recut` of the old one.
-- Assumes nothing.
use mathlib.Core.Bool.{true}
use mathlib.Core.List.{List, [], ◌∷◌, map-append}
use mathlib.Core.Path.{◌≡◌, refl, ◌∙◌, ap}
use Prim.Native.Nat.{ℕ, zero, suc, ◌≤◌}
use native.Mathlib.Omega.{arith}
use lib.ListN.{length, take, drop, length-append, length-drop, length-map}
use lib.Seq.{take_at, length-take-le}
use Rattle.interval.specs.declared.time.Chronon.{Chronon}
use Rattle.plan.specs.Plan.{most_partitions, numbers, cuts_of, cover, plan_number, with_cuts}
use Rattle.plan.specs.declared.Partitioning.{Partitioning}
use Rattle.plan.proofs.Homes.{legal-plan, plan-legal}
use Rattle.repartitioning.specs.Moving.{Recut}

numbers-take : (n : ℕ) (ms : List Chronon) → numbers (take n ms) ≡ take n (numbers ms)
numbers-take zero ms = refl
numbers-take (suc n) [] = refl
numbers-take (suc n) (m ∷ ms) = rw (numbers-take n ms)

module _ (p : Partitioning) (new : List Chronon) (long : length new ≡ most_partitions) (places : length
    p.lasts ≡ most_partitions)
    (legal : plan_number p ≡ 0) where
  few : p.count ≤ most_partitions
  few = (legal-plan p legal).most

  -- its cuts are the new ones
  with-cuts-cuts : cuts_of (with_cuts p new) ≡ take p.count (numbers new)
  unfolding cuts_of with_cuts
  with-cuts-cuts =
      ap (take p.count) (map-append (λ (m : Chronon). m.0) (take p.count new) (drop p.count p.lasts))
      ∙ take_at (numbers (take p.count new)) (numbers (drop p.count p.lasts)) p.count
      (length-map (take p.count new) (λ (m : Chronon). m.0)
      ∙ length-take-le p.count new (omega (arith, few)))
      ∙ numbers-take p.count new

  pub with-cuts-places : length (with_cuts p new).lasts ≡ most_partitions
  unfolding with_cuts
  with-cuts-places =
      omega (
        arith,
        few,
        length-append (take p.count new) (drop p.count p.lasts),
        length-take-le p.count new (omega (arith, few)),
        length-drop p.count p.lasts,
      )

  pub with-cuts-legal : cover (take p.count (numbers new)) ≡ true → plan_number (with_cuts p new) ≡ 0
  unfolding with_cuts
  with-cuts-legal e =
      let plan = legal-plan p legal in
      plan-legal (with_cuts p new)
      (record {
        least = plan.least;
        most = plan.most;
        covered = ap cover with-cuts-cuts ∙ e;
        tuples-least = plan.tuples-least;
        tuples-most = plan.tuples-most;
        rows-least = plan.rows-least;
        rows-most = plan.rows-most;
        minimum-least = plan.minimum-least;
        minimum-most = plan.minimum-most;
      })

  pub with-cuts-recut : cover (take p.count (numbers new)) ≡ true → Recut p (with_cuts p new)
  unfolding with_cuts
  with-cuts-recut e =
      record { old = legal; new = with-cuts-legal e; count = refl; tuples = refl; rows = refl; minimum = refl }
