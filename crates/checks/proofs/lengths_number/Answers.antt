-- `checks::lengths_number` meets its contract: the checks of the two tuple stores, then check 4 of the rows store.
-- Assumes nothing.
use mathlib.Core.Path.{sym, ◌∙◌}
use Rattle.std.proofs.Common.{rules}
use Rattle.lists.proofs.Choice.{answer-last}
use Rattle.refusal.proofs.Answering.{refused-here, passed-next}
use Rattle.checks.proofs.Checks.{sides-fit, lengths-from-sides}
use Rattle.checks.proofs.lengths_number.Goals as goal

pub returns-in_err-sides_lengths : goal.returns-in_err-sides_lengths
returns-in_err-sides_lengths c =
    let a = c.args in
    refused-here c.in_err-sides_lengths.field-0.0 _ (search rules) c.in_err-sides_lengths.ensures
    ∙ lengths-from-sides a.p a.outer a.inner a.rows

pub rows_length-requires : goal.rows_length-requires
rows_length-requires c =
    let a = c.args in (sides-fit a.p a.outer a.inner (sym c.in_ok-sides_lengths.ensures)).0

pub returns : goal.returns
returns c =
    let a = c.args in
    passed-next _ c.in_ok-sides_lengths.ensures (answer-last c.rows_length.ensures)
    ∙ lengths-from-sides a.p a.outer a.inner a.rows
