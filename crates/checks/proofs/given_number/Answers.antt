-- `checks::given_number` meets its contract: the checks of plan and stores, then those of the tuple.
-- Assumes nothing.
use Rattle.std.proofs.Common.{rules}
use Rattle.lists.proofs.Choice.{answer-last}
use Rattle.refusal.proofs.Answering.{refused-here, passed-next}
use Rattle.checks.specs.Stores.{given_number}
use Rattle.checks.proofs.given_number.Goals as goal

pub returns-in_err-store_number : goal.returns-in_err-store_number
unfolding given_number
returns-in_err-store_number c = refused-here c.in_err-store_number.field-0.0 _ (search rules) c.in_err-store_number.ensures

pub returns : goal.returns
unfolding given_number
returns c =
    passed-next _ c.in_ok-store_number.ensures
    (answer-last c.tuple_number.ensures)
