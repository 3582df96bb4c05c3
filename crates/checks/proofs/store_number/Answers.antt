-- `checks::store_number` meets its contract: checks 1 to 4, then check 5 of the two tuple stores and of the rows store.
-- Assumes nothing.
use mathlib.Core.Path.{sym, ◌∙◌}
use Rattle.std.proofs.Common.{rules}
use lib.ListN.{length}
use Rattle.lists.proofs.Choice.{answer-last}
use Rattle.refusal.proofs.Answering.{refused-here, passed-next}
use Rattle.checks.specs.Stores.{stores}
use Rattle.checks.proofs.Checks.{fitting, stores-from-sides}
use Rattle.checks.proofs.store_number.Goals as goal

pub returns-in_err-lengths_number : goal.returns-in_err-lengths_number
returns-in_err-lengths_number c =
    let a = c.args in
    refused-here c.in_err-lengths_number.field-0.0 _ (search rules) c.in_err-lengths_number.ensures
    ∙ stores-from-sides a.p (stores a.outer.now a.inner.now a.rows.now)

pub sides_unsound-requires : goal.sides_unsound-requires
sides_unsound-requires c =
    let a = c.args in
    let fits = fitting a.p (length a.outer.now) (length a.inner.now) (length a.rows.now) (sym c.in_ok-lengths_number.ensures) in
    record {
      outer_value = fits.outer;
      inner_value = fits.inner;
    }

pub returns-in_err-sides_unsound : goal.returns-in_err-sides_unsound
returns-in_err-sides_unsound c =
    let a = c.args in
    passed-next _ c.in_ok-lengths_number.ensures
    (refused-here c.in_err-sides_unsound.field-0.0 _ (search rules) c.in_err-sides_unsound.ensures)
    ∙ stores-from-sides a.p (stores a.outer.now a.inner.now a.rows.now)

pub rows_unsound-requires : goal.rows_unsound-requires
rows_unsound-requires c =
    let a = c.args in
    (fitting a.p (length a.outer.now) (length a.inner.now) (length a.rows.now) (sym c.in_ok-lengths_number.ensures)).rows

pub returns : goal.returns
returns c =
    let a = c.args in
    passed-next _ c.in_ok-lengths_number.ensures
    (passed-next _ c.in_ok-sides_unsound.ensures (answer-last c.rows_unsound.ensures))
    ∙ stores-from-sides a.p (stores a.outer.now a.inner.now a.rows.now)
