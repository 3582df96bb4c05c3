-- `coverage::covered_from` meets its contract. The loop's invariant: the nearest of all is the nearest of what is found
-- and the rows made with the partitions that are left. Assumes nothing.
use mathlib.Core.Path.{◌≡◌}
use Rattle.coverage.proofs.NextCovered.{left_from}
use Rattle.coverage.proofs.covered_from.Given as goal

abbrev pub invariant-loop-j : goal.invariant-loop-j
invariant-loop-j l =
    left_from l.minimum l.d l.room l.inner l.m.0 l.count l.initial.j l.initial.found
    ≡ left_from l.minimum l.d l.room l.inner l.m.0 l.count l.j l.found
