-- `cursor::reach` meets its contract. The loop's invariant is `Reaching`: at this row of partition j as much is left as
-- at row k of partition i. Assumes nothing.
use Rattle.cursor.proofs.Cursors.{Reaching}
use Rattle.cursor.proofs.reach.Given as goal

abbrev pub invariant-loop-j : goal.invariant-loop-j
invariant-loop-j l = Reaching l.scan l.rows l.fn.i.0 l.k l.j l.place
