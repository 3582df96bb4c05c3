-- `checks::sides_number` meets its contract: checks 1 to 4, then check 5 of each store.
-- Assumes nothing.
use mathlib.Core.Path.{sym}
use Rattle.std.proofs.Common.{rules}
use Rattle.lists.proofs.Choice.{answer-last}
use Rattle.refusal.proofs.Answering.{refused-here, passed-next}
use Rattle.checks.specs.Stores.{sides_number}
use Rattle.checks.proofs.Checks.{sides-fit}
use Rattle.checks.proofs.sides_number.Goals as goal

pub returns-in_err-sides_lengths : goal.returns-in_err-sides_lengths
unfolding sides_number
returns-in_err-sides_lengths c = refused-here c.in_err-sides_lengths.field-0.0 _ (search rules) c.in_err-sides_lengths.ensures

-- past check 4 each store has its length
pub sides_unsound-requires : goal.sides_unsound-requires
sides_unsound-requires c =
    let fits = sides-fit _ _ _ (sym c.in_ok-sides_lengths.ensures) in
    record {
      outer_value = fits.1;
      inner_value = fits.2;
    }

pub returns : goal.returns
unfolding sides_number
returns c = passed-next _ c.in_ok-sides_lengths.ensures (answer-last c.sides_unsound.ensures)
