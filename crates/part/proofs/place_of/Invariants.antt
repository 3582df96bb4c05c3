-- `part::place_of` meets its contract. The loop's invariant is `Passed`: no record before this place equals the
-- one sought. Assumes nothing.
use Rattle.part.proofs.Loops.{Passed}
use Rattle.part.proofs.place_of.Given as goal

abbrev pub invariant-loop-place : goal.invariant-loop-place
invariant-loop-place g l = Passed (g.R.Held.same l.sought) (g.R.Held.records l.part) l.place
