-- `records::swap` meets its contract. The loop's invariant is `Swapping`: so many words of each of the two records are
-- written over the other. Assumes nothing.
use Rattle.records.proofs.Movers.{Swapping}
use Rattle.records.proofs.swap.Given as goal

abbrev pub invariant-loop-j : goal.invariant-loop-j
invariant-loop-j l = Swapping l.width l.a l.b l.initial.part l.j l.part
