-- `lines::read_number` meets its contract. The loop's invariant is `Digits`: i digits are read, and their value is n.
-- Assumes nothing.
use Rattle.lines.proofs.Loops.{Digits}
use Rattle.lines.proofs.read_number.Given as goal

abbrev pub invariant-loop-b : goal.invariant-loop-b
invariant-loop-b l = Digits l.field l.b-index l.n
