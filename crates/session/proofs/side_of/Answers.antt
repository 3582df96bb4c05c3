-- `session::side_of` meets its contract: `draw` is the outer side, `spot` the inner.
-- Assumes nothing.
use mathlib.Core.Path.{sym, ap}
use Rattle.session.specs.Session.{side_of}
use Rattle.session.proofs.side_of.Goals as goal

pub returns-in-DrawIn : goal.returns-in-DrawIn
returns-in-DrawIn c = sym (ap side_of c.in-DrawIn.is)

pub returns-in-DrawOut : goal.returns-in-DrawOut
returns-in-DrawOut c = sym (ap side_of c.in-DrawOut.is)

pub returns-in-SpotIn : goal.returns-in-SpotIn
returns-in-SpotIn c = sym (ap side_of c.in-SpotIn.is)

pub returns-in-SpotOut : goal.returns-in-SpotOut
returns-in-SpotOut c = sym (ap side_of c.in-SpotOut.is)
