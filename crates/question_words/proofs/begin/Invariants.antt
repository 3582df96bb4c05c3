-- `question_words::begin` meets its contract. The loop's invariant: the answers of the first i questions were cleared,
-- and the window, widened by the questions that are left, is that of all.
-- Assumes nothing.
use Rattle.question.specs.Question.{with_answer}
use Rattle.question_words.proofs.Loops.{Changed}
use Rattle.question_words.proofs.Loops.{Window}
use Rattle.question_words.proofs.begin.Given as goal

abbrev pub invariant-loop-i : goal.invariant-loop-i
invariant-loop-i l = Changed (with_answer 0) l.initial.ws l.i l.ws × Window l.initial.ws l.i l.window
