-- `coverage::covered_in` meets its contract. The loop's invariant: the nearest of all is the nearest of what is found
-- and the rows made with the tuples that are left. Assumes nothing.
use mathlib.Core.Path.{◌≡◌}
use lib.ListN.{drop}
use Rattle.part.specs.Part.{tuples_in}
use Rattle.rows.specs.Join.{made_with}
use Rattle.rows.specs.declared.Side.TheVariants.{Outer}
use Rattle.coverage.specs.NextCovered.{nearest}
use Rattle.coverage.proofs.covered_in.Given as goal

abbrev pub invariant-loop-k : goal.invariant-loop-k
invariant-loop-k l = nearest l.m.0 l.initial.found (made_with l.minimum Outer l.d (tuples_in l.part))
    ≡ nearest l.m.0 l.found (made_with l.minimum Outer l.d (drop l.k (tuples_in l.part)))
