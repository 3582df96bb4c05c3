-- `questions::count_rows` meets its contract. The loop's invariant is `Counting`: the rows that are left are still to
-- be counted. The measure is how many they are.
-- Assumes nothing.
use lib.ListN.{length}
use Rattle.cursor.specs.Cursor.{left}
use Rattle.question.proofs.Turns.{Counting}
use Rattle.questions.proofs.count_rows.Given as goal

abbrev pub invariant-loop-at : goal.invariant-loop-at
invariant-loop-at l = Counting l.scan l.rows l.fn.qs l.at l.qs

abbrev pub decreases-loop-at : goal.decreases-loop-at
decreases-loop-at l = length (left l.scan l.rows l.at)
