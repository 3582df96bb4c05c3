-- `cursor::reach` meets its contract. The loop's invariant is `Reaching`: at this row of partition j as much is left as
-- at row k of partition i. Assumes nothing.
use mathlib.Core.Path.{ap}
use native.Mathlib.Omega.{arith}
use Rattle.part.specs.Part.{counted}
use Rattle.cursor.proofs.Cursors.{scan-inside, scan-fits}
use Rattle.cursor.proofs.Cursors.{reaching-none, turn-ends, turn-goes-on, reached-end}
use Rattle.cursor.proofs.reach.Goals as goal

pub loop-j-init : goal.loop-j-init
loop-j-init c = reaching-none _ _ _ _ c.requires.i_le_count c.requires.k_bound

pub partition-part-requires : goal.partition-part-requires
partition-part-requires c = scan-inside _ _ c.requires.scannable _ c.loop-j-test.true

pub seek-requires : goal.seek-requires
seek-requires c =
    let here = c.partition-part.ensures in
    let place = c.loop-j.invariant.here in
    record {
      part_in_bounds = scan-fits _ _ c.requires.scannable _ c.loop-j-test.true _ here;
      k_bound = omega (arith, place, ap counted here);
    }

pub returns-in-Some : goal.returns-in-Some
returns-in-Some c =
    turn-ends _ _ _ _ _ _ c.loop-j-test.true c.loop-j.invariant _ c.partition-part.ensures _ c.in-Some.ensures

pub loop-j-preserved : goal.loop-j-preserved
loop-j-preserved c =
    turn-goes-on _ _ _ _ _ _ c.loop-j-test.true c.loop-j.invariant _ c.partition-part.ensures c.in_default.ensures

pub returns : goal.returns
returns c = reached-end _ _ _ _ _ _ c.loop-j-test.false c.loop-j.invariant
