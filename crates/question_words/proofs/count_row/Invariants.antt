-- `question_words::count_row` meets its contract. The loop's invariant: the row was counted for the first i questions.
-- Assumes nothing.
use Rattle.question.specs.Steps.{with_row}
use Rattle.question_words.proofs.Loops.{Changed}
use Rattle.question_words.proofs.count_row.Given as goal

abbrev pub invariant-loop-i : goal.invariant-loop-i
invariant-loop-i l = Changed (with_row l.r) l.initial.ws l.i l.ws
