-- `session::change_on` meets its contract: 16 before the plan is complete; then the words in use are lent to the call
-- and put back.
-- Assumes nothing.
use borrow.Author.Tests.{not-true, not-false}
use Rattle.checks.specs.Stores.{stores}
use Rattle.session_plan.specs.Lanes.{used_tuples, used_rows}
use Rattle.session_plan.proofs.Words.{lent-long}
use Rattle.session.proofs.Walls.{called-as, change-early, wall-changing}
use Rattle.session.proofs.change_on.Goals as goal

pub returns-then-not-s : goal.returns-then-not-s
returns-then-not-s c =
    let a = c.args in
    let S = stores a.outer.now a.inner.now a.rows.now in
    change-early a.s a.word a.t S (not-true a.s.complete c.if-not-s.true)

pub slice_bounds-change-end-2 : goal.slice_bounds-change-end-2
slice_bounds-change-end-2 c =
    let a = c.args in
    lent-long (used_tuples a.s) _ a.outer.now c.used_tuples-a.ensures

pub slice_bounds-change-end-4 : goal.slice_bounds-change-end-4
slice_bounds-change-end-4 c =
    let a = c.args in
    lent-long (used_tuples a.s) _ a.inner.now c.used_tuples-b.ensures

pub slice_bounds-change-end-6 : goal.slice_bounds-change-end-6
slice_bounds-change-end-6 c =
    let a = c.args in
    lent-long (used_rows a.s) _ a.rows.now c.used_rows-c.ensures

pub returns : goal.returns
returns c =
    let a = c.args in
    wall-changing a.s _ _ _ a.outer.now a.inner.now a.rows.now
    c.used_tuples-a.ensures
    c.used_tuples-b.ensures
    c.used_rows-c.ensures
    _ _ _
    c.change.auto.outer
    c.change.auto.inner
    c.change.auto.rows
    a.word
    c.plan_of-p.result
    a.t
    c.change.result
    (not-false a.s.complete c.if-not-s.false)
    c.plan_of-p.ensures
    (called-as a.word _ _ _ _ _ _ _ c.kind_of-kind.ensures c.side_of-side.ensures c.change.ensures)
