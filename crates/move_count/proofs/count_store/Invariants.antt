-- `move_count::count_store` meets its contract. The loop's invariant is `Summing`: the records of the first j
-- partitions are counted. Assumes nothing.
use Rattle.move_count.proofs.Counting.{Summing}
use Rattle.move_count.proofs.count_store.Given as goal

abbrev pub invariant-loop-j : goal.invariant-loop-j
invariant-loop-j l = Summing l.width l.room l.store l.cuts l.j l.counts
