-- `session::step_value` meets its contract: a lane line, a `least` line, a change, or none of these.
-- Assumes nothing.
use Rattle.std.proofs.Common.{rules}
use Rattle.checks.specs.Stores.{stores}
use Rattle.session.proofs.Steps.{step-as, change-refused, change-step, malformed-step}
use Rattle.session.proofs.step_value.Goals as goal

pub returns-in-Lane : goal.returns-in-Lane
returns-in-Lane c =
    let a = c.args in
    let S = stores a.outer.now a.inner.now a.rows.now in
    let S' = stores c.take_lane.new.outer c.take_lane.new.inner c.take_lane.new.rows in
    step-as a.s a.line _ S S' c.take_lane.result c.in-Lane.is c.take_lane.ensures

pub returns-in-Least : goal.returns-in-Least
returns-in-Least c =
    let a = c.args in
    let S = stores a.outer.now a.inner.now a.rows.now in
    step-as a.s a.line _ S S c.take_least.result c.in-Least.is (c.take_least.ensures S)

pub returns-in_err-change_on-in-Change : goal.returns-in_err-change_on-in-Change
returns-in_err-change_on-in-Change c =
    let a = c.args in
    let S = stores a.outer.now a.inner.now a.rows.now in
    let S' = stores c.change_on.new.outer c.change_on.new.inner c.change_on.new.rows in
    step-as a.s a.line _ S S' c.from_residual.result c.in-Change.is
    (change-refused a.s _ _ S S' c.from_residual.result c.in_err-change_on-in-Change.field-0.0 (search rules)
    c.in_err-change_on-in-Change.ensures)

pub returns-in_ok-change_on-in-Change : goal.returns-in_ok-change_on-in-Change
returns-in_ok-change_on-in-Change c =
    let a = c.args in
    let S = stores a.outer.now a.inner.now a.rows.now in
    let S' = stores c.change_on.new.outer c.change_on.new.inner c.change_on.new.rows in
    step-as a.s a.line _ S S' _ c.in-Change.is (change-step a.s _ _ S S' c.in_ok-change_on-in-Change.ensures)

pub returns-in-Malformed : goal.returns-in-Malformed
returns-in-Malformed c =
    let a = c.args in
    let S = stores a.outer.now a.inner.now a.rows.now in
    step-as a.s a.line _ S S _ c.in-Malformed.is (malformed-step a.s S)
