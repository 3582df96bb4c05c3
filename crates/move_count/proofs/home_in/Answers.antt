-- `move_count::home_in` meets its contract. The loop's invariant is `Between`: the partition is one of `low` to
-- `high`. The measure is how far apart they are. Assumes nothing.
use native.Mathlib.Omega.{arith}
use Rattle.move_count.proofs.Bisecting.{between-all, between-above, between-by, between-one}
use Rattle.move_count.proofs.home_in.Goals as goal

pub loop-low-init : goal.loop-low-init
loop-low-init c = between-all _ _ c.requires.cuts_value c.requires.m_in_bounds

pub loop-low-preserved-then-cuts-middle : goal.loop-low-preserved-then-cuts-middle
loop-low-preserved-then-cuts-middle c =
    let at = c.loop-low in
    let test = c.loop-low-test.true in
    between-above _ _ at.low at.high _ (omega arith) c.if-cuts-middle.true at.invariant

pub loop-low-preserved : goal.loop-low-preserved
loop-low-preserved c =
    let at = c.loop-low in
    let test = c.loop-low-test.true in
    between-by _ _ at.low at.high _ (omega arith) c.if-cuts-middle.false at.invariant

pub returns : goal.returns
returns c = between-one _ _ _ _ c.loop-low-test.false c.loop-low.invariant
