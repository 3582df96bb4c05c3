-- `question_words::words_number` meets its contract: the plan's checks, check 4 of the rows store and of the questions'
-- words, then check 5.
-- Assumes nothing.
use mathlib.Core.Path.{sym}
use Rattle.std.proofs.Common.{rules}
use Rattle.lists.proofs.Choice.{answer-last}
use Rattle.refusal.proofs.Answering.{refused-here, passed-next}
use Rattle.checks.proofs.Checks.{rows_fit}
use Rattle.question_words.specs.QuestionWords.{words_number}
use Rattle.question_words.proofs.words_number.Goals as goal

pub returns-in_err-plan_number : goal.returns-in_err-plan_number
unfolding words_number
returns-in_err-plan_number c = refused-here c.in_err-plan_number.field-0.0 _ (search rules) c.in_err-plan_number.ensures

pub returns-in_err-rows_length : goal.returns-in_err-rows_length
unfolding words_number
returns-in_err-rows_length c =
    passed-next _ c.in_ok-plan_number.ensures
    (refused-here c.in_err-rows_length.field-0.0 _ (search rules) c.in_err-rows_length.ensures)

pub returns-in_err-whole_check : goal.returns-in_err-whole_check
unfolding words_number
returns-in_err-whole_check c =
    passed-next _ c.in_ok-plan_number.ensures
    (passed-next _ c.in_ok-rows_length.ensures
    (refused-here c.in_err-whole_check.field-0.0 _ (search rules) c.in_err-whole_check.ensures))

pub rows_unsound-requires : goal.rows_unsound-requires
rows_unsound-requires c = rows_fit _ _ (sym c.in_ok-rows_length.ensures)

pub returns : goal.returns
unfolding words_number
returns c =
    passed-next _ c.in_ok-plan_number.ensures
    (passed-next _ c.in_ok-rows_length.ensures
    (passed-next _ c.in_ok-whole_check.ensures (answer-last c.rows_unsound.ensures)))
