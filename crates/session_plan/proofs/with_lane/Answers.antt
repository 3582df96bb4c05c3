-- `session_plan::with_lane` meets its contract.
-- Assumes nothing.
use Rattle.session_plan.proofs.Lanes.{lane-added, lane-beyond}
use Rattle.session_plan.proofs.with_lane.Goals as goal

pub returns-then-s-ge-PARTITIONS : goal.returns-then-s-ge-PARTITIONS
returns-then-s-ge-PARTITIONS c =
    let a = c.args in
    lane-beyond a.s a.m c.if-s-ge-PARTITIONS.true

pub returns : goal.returns
returns c =
    let a = c.args in
    lane-added a.s a.m c.if-s-ge-PARTITIONS.false
