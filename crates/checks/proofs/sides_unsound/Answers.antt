-- `checks::sides_unsound` meets its contract: check 5 of each store.
-- Assumes nothing.
use Rattle.std.proofs.Common.{rules}
use Rattle.lists.proofs.Choice.{answer-last}
use Rattle.refusal.proofs.Answering.{refused-here, passed-next}
use Rattle.checks.specs.Stores.{sides_unsound}
use Rattle.checks.proofs.sides_unsound.Goals as goal

pub returns-in_err-tuples_unsound : goal.returns-in_err-tuples_unsound
unfolding sides_unsound
returns-in_err-tuples_unsound c = refused-here c.in_err-tuples_unsound.field-0.0 _ (search rules) c.in_err-tuples_unsound.ensures

pub returns : goal.returns
unfolding sides_unsound
returns c =
    passed-next _ c.in_ok-tuples_unsound.ensures
    (answer-last c.tuples_unsound-2.ensures)
