-- `checks::tuples_length` meets its contract: check 4 of a tuple store.
-- Assumes nothing.
use Rattle.checks.specs.Stores.{tuples_length}
use Rattle.checks.proofs.Checks.{check-none, check-met}
use Rattle.checks.proofs.tuples_length.Goals as goal

pub returns : goal.returns
unfolding tuples_length
returns c = check-none 4 c.fits_tuples.ensures c.if-not-fits_tuples.false

pub returns-then-not-fits_tuples : goal.returns-then-not-fits_tuples
unfolding tuples_length
returns-then-not-fits_tuples c = check-met 4 c.fits_tuples.ensures c.if-not-fits_tuples.true
