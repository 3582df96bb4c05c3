-- `question_words::count_rows` meets its contract. The loop's invariant is `CountingWords`: the rows that are left
-- are still to be counted. The measure is how many they are.
-- Assumes nothing.
use lib.ListN.{length}
use Rattle.cursor.specs.Cursor.{left}
use Rattle.question_words.proofs.Scans.{CountingWords}
use Rattle.question_words.proofs.count_rows.Given as goal

abbrev pub invariant-loop-at : goal.invariant-loop-at
invariant-loop-at l = CountingWords l.scan l.rows l.initial.ws l.at l.ws

abbrev pub decreases-loop-at : goal.decreases-loop-at
decreases-loop-at l = length (left l.scan l.rows l.at)
