-- `part::count` meets its contract: word 0 is the count.
-- Assumes nothing.
use mathlib.Core.Path.{refl}
use Rattle.part.specs.Part.{counted}
use Rattle.part.proofs.count.Goals as goal

pub returns : goal.returns
unfolding counted
returns c = refl
