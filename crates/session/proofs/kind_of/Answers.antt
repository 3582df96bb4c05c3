-- `session::kind_of` meets its contract: `in` inserts, `out` deletes.
-- Assumes nothing.
use mathlib.Core.Path.{sym, ap}
use Rattle.session.specs.Session.{kind_of}
use Rattle.session.proofs.kind_of.Goals as goal

pub returns-in-DrawIn : goal.returns-in-DrawIn
returns-in-DrawIn c = sym (ap kind_of c.in-DrawIn.is)

pub returns-in-DrawOut : goal.returns-in-DrawOut
returns-in-DrawOut c = sym (ap kind_of c.in-DrawOut.is)

pub returns-in-SpotIn : goal.returns-in-SpotIn
returns-in-SpotIn c = sym (ap kind_of c.in-SpotIn.is)

pub returns-in-SpotOut : goal.returns-in-SpotOut
returns-in-SpotOut c = sym (ap kind_of c.in-SpotOut.is)
