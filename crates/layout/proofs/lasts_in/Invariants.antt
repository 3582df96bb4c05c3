-- `layout::lasts_in` meets its contract. The loop's invariant is `Copied`: the first i places hold the last
-- minutes of the words from the given place on.
-- Assumes nothing.
use lib.ListN.{take, drop}
use Rattle.lists.proofs.Copies.{Copied}
use Rattle.plan.specs.Plan.{most_partitions}
use Rattle.layout.specs.Layout.{minutes}
use Rattle.layout.proofs.lasts_in.Given as goal

abbrev pub invariant-loop-i : goal.invariant-loop-i
invariant-loop-i l = Copied l.initial.lasts 0 (minutes (take most_partitions (drop l.from l.words))) l.i l.lasts
