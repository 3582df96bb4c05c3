-- `checks::rows_unsound` meets its contract: check 5 of the rows store.
-- Assumes nothing.
use Rattle.checks.specs.Stores.{rows_unsound}
use Rattle.checks.proofs.Checks.{check-none, check-met}
use Rattle.checks.proofs.rows_unsound.Goals as goal

pub returns : goal.returns
unfolding rows_unsound
returns c = check-none 5 c.sound_rows.ensures c.if-not-sound_rows.false

pub returns-then-not-sound_rows : goal.returns-then-not-sound_rows
unfolding rows_unsound
returns-then-not-sound_rows c = check-met 5 c.sound_rows.ensures c.if-not-sound_rows.true
