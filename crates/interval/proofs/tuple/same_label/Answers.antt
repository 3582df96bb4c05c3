-- `interval::tuple::same_label` meets its contract.
-- Assumes nothing.
use mathlib.Core.Path.{refl}
use Rattle.interval.specs.Tuple.{same_label}
use Rattle.interval.proofs.tuple.same_label.Goals as goal

pub returns : goal.returns
unfolding same_label
returns c = refl
