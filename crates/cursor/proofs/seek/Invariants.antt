-- `cursor::seek` meets its contract. The loop's invariant is `Looked`: no row from k on before this place touches the
-- window. Assumes nothing.
use Rattle.cursor.proofs.Cursors.{Looked}
use Rattle.cursor.proofs.seek.Given as goal

abbrev pub invariant-loop-place : goal.invariant-loop-place
invariant-loop-place l = Looked l.window l.part l.k l.place
