-- `checks::rows_length` meets its contract: check 4 of the rows store.
-- Assumes nothing.
use Rattle.checks.specs.Stores.{rows_length}
use Rattle.checks.proofs.Checks.{check-none, check-met}
use Rattle.checks.proofs.rows_length.Goals as goal

pub returns : goal.returns
unfolding rows_length
returns c = check-none 4 c.fits_rows.ensures c.if-not-fits_rows.false

pub returns-then-not-fits_rows : goal.returns-then-not-fits_rows
unfolding rows_length
returns-then-not-fits_rows c = check-met 4 c.fits_rows.ensures c.if-not-fits_rows.true
