-- `session::open_wall` meets its contract: the words in use are lent to `join::open` and put back.
-- Assumes nothing.
use Rattle.session_plan.specs.Lanes.{used_tuples, used_rows}
use Rattle.session_plan.proofs.Words.{lent-long}
use Rattle.session.proofs.Walls.{wall-opening}
use Rattle.session.proofs.open_wall.Goals as goal

pub slice_bounds-open-end-2 : goal.slice_bounds-open-end-2
slice_bounds-open-end-2 c =
    let a = c.args in
    lent-long (used_tuples a.s) _ a.outer.now c.used_tuples-a.ensures

pub slice_bounds-open-end-4 : goal.slice_bounds-open-end-4
slice_bounds-open-end-4 c =
    let a = c.args in
    lent-long (used_tuples a.s) _ a.inner.now c.used_tuples-b.ensures

pub slice_bounds-open-end-6 : goal.slice_bounds-open-end-6
slice_bounds-open-end-6 c =
    let a = c.args in
    lent-long (used_rows a.s) _ a.rows.now c.used_rows-c.ensures

pub returns : goal.returns
returns c =
    let a = c.args in
    wall-opening a.s _ _ _ a.outer.now a.inner.now a.rows.now
    c.used_tuples-a.ensures
    c.used_tuples-b.ensures
    c.used_rows-c.ensures
    _ _ _
    c.open.auto.outer
    c.open.auto.inner
    c.open.auto.rows
    c.plan_of-p.result
    c.open.result
    c.plan_of-p.ensures
    c.open.ensures
