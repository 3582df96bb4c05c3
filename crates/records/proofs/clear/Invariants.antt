-- `records::clear` meets its contract. The loop's invariant is `Cleared`: the words before place i are 0, the
-- others as they were. Assumes nothing.
use Rattle.records.proofs.Clearing.{Cleared}
use Rattle.records.proofs.clear.Given as goal

abbrev pub invariant-loop-i : goal.invariant-loop-i
invariant-loop-i l = Cleared l.initial.words l.i l.words
