-- `move_count::count_part` meets its contract. The loop's invariant is `Counting`: the first k records are counted.
-- Assumes nothing.
use Rattle.move_count.proofs.Counting.{Counting}
use Rattle.move_count.proofs.count_part.Given as goal

abbrev pub invariant-loop-k : goal.invariant-loop-k
invariant-loop-k l = Counting l.width l.part l.cuts l.initial.counts l.k l.counts
