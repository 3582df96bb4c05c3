-- `interval::tuple::row_number` meets its contract: each check's number where it refuses, else those after it.
-- Assumes nothing.
use Rattle.std.proofs.Common.{rules}
use Rattle.lists.proofs.Choice.{answer-last}
use Rattle.refusal.proofs.Answering.{refused-here, passed-next}
use Rattle.interval.specs.Tuple.{row_number}
use Rattle.interval.proofs.tuple.row_number.Goals as goal

pub returns-in_err-label_check : goal.returns-in_err-label_check
unfolding row_number
returns-in_err-label_check c = refused-here c.in_err-label_check.field-0.0 _ (search rules) c.in_err-label_check.ensures

pub returns-in_err-item_check : goal.returns-in_err-item_check
unfolding row_number
returns-in_err-item_check c =
    passed-next _ c.in_ok-label_check.ensures (refused-here c.in_err-item_check.field-0.0 _ (search rules) c.in_err-item_check.ensures)

pub returns-in_err-item_check-2 : goal.returns-in_err-item_check-2
unfolding row_number
returns-in_err-item_check-2 c =
    passed-next _ c.in_ok-label_check.ensures
    (passed-next _ c.in_ok-item_check.ensures (refused-here c.in_err-item_check-2.field-0.0 _ (search rules) c.in_err-item_check-2.ensures))

pub returns : goal.returns
unfolding row_number
returns c =
    passed-next _ c.in_ok-label_check.ensures
    (passed-next _ c.in_ok-item_check.ensures
    (passed-next _ c.in_ok-item_check-2.ensures (answer-last c.valid_check.ensures)))
