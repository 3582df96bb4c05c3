-- `questions::begin` meets its contract. The loop's invariant: the questions passed were cleared, and the window,
-- widened by the questions that are left, is that of all.
-- Assumes nothing.
use Rattle.question.specs.Question.{with_answer}
use Rattle.questions.proofs.Loops.{Changed, Window}
use Rattle.questions.proofs.begin.Given as goal

abbrev pub invariant-loop-q : goal.invariant-loop-q
invariant-loop-q l = Changed (with_answer 0) l.fn.qs l.q-index l.qs × Window l.fn.qs l.q-index l.window
