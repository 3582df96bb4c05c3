-- `questions::count_row` meets its contract. The loop's invariant: the row was counted for the questions passed.
-- Assumes nothing.
use Rattle.question.specs.Steps.{with_row}
use Rattle.questions.proofs.Loops.{Changed}
use Rattle.questions.proofs.count_row.Given as goal

abbrev pub invariant-loop-q : goal.invariant-loop-q
invariant-loop-q l = Changed (with_row l.r) l.fn.qs l.q-index l.qs
