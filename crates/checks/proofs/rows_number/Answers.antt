-- `checks::rows_number` meets its contract: the plan's checks, then checks 4 and 5 of the rows store.
-- Assumes nothing.
use mathlib.Core.Path.{sym}
use Rattle.std.proofs.Common.{rules}
use Rattle.lists.proofs.Choice.{answer-last}
use Rattle.refusal.proofs.Answering.{refused-here, passed-next}
use Rattle.checks.specs.Stores.{rows_number}
use Rattle.checks.proofs.Checks.{rows_fit}
use Rattle.checks.proofs.rows_number.Goals as goal

pub returns-in_err-plan_number : goal.returns-in_err-plan_number
unfolding rows_number
returns-in_err-plan_number c = refused-here c.in_err-plan_number.field-0.0 _ (search rules) c.in_err-plan_number.ensures

pub rows_length-requires : goal.rows_length-requires
rows_length-requires c = sym c.in_ok-plan_number.ensures

pub returns-in_err-rows_length : goal.returns-in_err-rows_length
unfolding rows_number
returns-in_err-rows_length c =
    passed-next _ c.in_ok-plan_number.ensures
    (refused-here c.in_err-rows_length.field-0.0 _ (search rules) c.in_err-rows_length.ensures)

pub rows_unsound-requires : goal.rows_unsound-requires
rows_unsound-requires c = rows_fit _ _ (sym c.in_ok-rows_length.ensures)

pub returns : goal.returns
unfolding rows_number
returns c =
    passed-next _ c.in_ok-plan_number.ensures
    (passed-next _ c.in_ok-rows_length.ensures (answer-last c.rows_unsound.ensures))
