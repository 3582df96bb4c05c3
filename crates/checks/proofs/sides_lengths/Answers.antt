-- `checks::sides_lengths` meets its contract: the plan's checks, then check 4 of each store.
-- Assumes nothing.
use Rattle.std.proofs.Common.{rules}
use Rattle.lists.proofs.Choice.{answer-last}
use Rattle.refusal.proofs.Answering.{refused-here, passed-next}
use Rattle.checks.specs.Stores.{sides_lengths}
use Rattle.checks.proofs.sides_lengths.Goals as goal

pub returns-in_err-plan_number : goal.returns-in_err-plan_number
unfolding sides_lengths
returns-in_err-plan_number c = refused-here c.in_err-plan_number.field-0.0 _ (search rules) c.in_err-plan_number.ensures

pub returns-in_err-tuples_length : goal.returns-in_err-tuples_length
unfolding sides_lengths
returns-in_err-tuples_length c =
    passed-next _ c.in_ok-plan_number.ensures
    (refused-here c.in_err-tuples_length.field-0.0 _ (search rules) c.in_err-tuples_length.ensures)

pub returns : goal.returns
unfolding sides_lengths
returns c =
    passed-next _ c.in_ok-plan_number.ensures
    (passed-next _ c.in_ok-tuples_length.ensures
    (answer-last c.tuples_length-2.ensures))
