-- `move_count::cuts_of` meets its contract. The loop's invariant is `Listed`: the first i places are the plan's last
-- chronons. Assumes nothing.
use mathlib.Core.Path.{refl}
use Rattle.move_count.proofs.Listing.{listed-none, listed_more, listed-all}
use Rattle.move_count.proofs.cuts_of.Goals as goal

pub loop-i-init : goal.loop-i-init
loop-i-init c = listed-none _ _ c.requires c.well_formed.0.1.1.1.0.1.0.1 refl

pub loop-i-preserved : goal.loop-i-preserved
loop-i-preserved c =
    let at = c.loop-i in
    listed_more _ at.i at.cuts c.loop-i-test.true at.invariant

pub returns : goal.returns
returns c =
    let at = c.loop-i in
    listed-all _ at.i at.cuts c.loop-i-test.false at.invariant
