-- `checks::tuples_unsound` meets its contract: check 5 of a tuple store.
-- Assumes nothing.
use Rattle.checks.specs.Stores.{tuples_unsound}
use Rattle.checks.proofs.Checks.{check-none, check-met}
use Rattle.checks.proofs.tuples_unsound.Goals as goal

pub returns : goal.returns
unfolding tuples_unsound
returns c = check-none 5 c.sound_tuples.ensures c.if-not-sound_tuples.false

pub returns-then-not-sound_tuples : goal.returns-then-not-sound_tuples
unfolding tuples_unsound
returns-then-not-sound_tuples c = check-met 5 c.sound_tuples.ensures c.if-not-sound_tuples.true
