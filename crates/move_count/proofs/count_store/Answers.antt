-- `move_count::count_store` meets its contract. The loop's invariant is `Summing`: the records of the first j
-- partitions are counted. Assumes nothing.
use mathlib.Core.Path.{sym, ◌∙◌}
use native.Mathlib.Omega.{arith}
use Rattle.move_count.proofs.Counting.{summing-none, summing-inside, summing-part, summing-more}
use Rattle.move_count.proofs.Counting.{summing-all}
use Rattle.move_count.proofs.count_store.Goals as goal

pub loop-j-init : goal.loop-j-init
loop-j-init c = summing-none _ _ _ _ _ c.requires

pub partition-requires : goal.partition-requires
partition-requires c = summing-inside _ _ _ _ _ c.requires c.loop-j.j c.loop-j-test.true

pub count_part-requires : goal.count_part-requires
count_part-requires c =
    summing-part _ _ _ _ c.loop-j.j c.loop-j.counts _ c.loop-j-test.true
    c.partition.ensures c.loop-j.invariant _ c.requires (omega arith)

pub loop-j-preserved : goal.loop-j-preserved
loop-j-preserved c =
    summing-more _ _ _ _ c.loop-j.j c.loop-j.counts _ c.loop-j-test.true c.partition.ensures
    c.loop-j.invariant _ c.count_part.ensures

pub shape_of-counts : goal.shape_of-counts
shape_of-counts c = c.loop-j.invariant.long ∙ sym c.requires.places

pub returns : goal.returns
returns c =
    let at = c.loop-j in
    summing-all _ _ _ _ at.j at.counts c.loop-j-test.false at.invariant
