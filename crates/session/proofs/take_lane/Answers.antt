-- `session::take_lane` meets its contract: the checks, the session with the lane, and the wall opened where the plan is
-- complete.
-- Assumes nothing.
use mathlib.Core.Path.{refl}
use Rattle.std.proofs.Common.{rules}
use Rattle.checks.specs.Stores.{stores}
use Rattle.session.proofs.Steps.{lane-refused, lane-between, lane-unopened, lane-completing}
use Rattle.session.proofs.take_lane.Goals as goal

pub returns-in_err-lane_check : goal.returns-in_err-lane_check
returns-in_err-lane_check c =
    let a = c.args in
    let S = stores a.outer.now a.inner.now a.rows.now in
    lane-refused a.s a.m S c.from_residual.result c.in_err-lane_check.field-0.0 (search rules)
    c.in_err-lane_check.ensures

pub returns-then-m-ne-CALENDAR_END : goal.returns-then-m-ne-CALENDAR_END
returns-then-m-ne-CALENDAR_END c =
    let a = c.args in
    let S = stores a.outer.now a.inner.now a.rows.now in
    lane-between a.s a.m S c.in_ok-lane_check.ensures c.with_lane-after.result c.with_lane-after.ensures
    c.if-m-ne-CALENDAR_END.true

pub returns-in_err-open_wall : goal.returns-in_err-open_wall
returns-in_err-open_wall c =
    let a = c.args in
    let S = stores a.outer.now a.inner.now a.rows.now in
    let S' = stores c.open_wall.new.outer c.open_wall.new.inner c.open_wall.new.rows in
    lane-unopened a.s a.m S c.in_ok-lane_check.ensures c.with_lane-after.result c.with_lane-after.ensures
    c.if-m-ne-CALENDAR_END.false
    S'
    _
    c.in_err-open_wall.ensures
    c.from_residual-in_err-open_wall.result
    c.in_err-open_wall.field-0.0
    (search rules)
    refl

pub returns : goal.returns
returns c =
    let a = c.args in
    let S = stores a.outer.now a.inner.now a.rows.now in
    let S' = stores c.open_wall.new.outer c.open_wall.new.inner c.open_wall.new.rows in
    lane-completing a.s a.m S c.in_ok-lane_check.ensures c.with_lane-after.result c.with_lane-after.ensures
    c.if-m-ne-CALENDAR_END.false
    S'
    0
    c.in_ok-open_wall.ensures
    refl
