-- `session_plan::least_check` meets its contract: the check that applies answers.
-- Assumes nothing.
use Rattle.session_plan.proofs.Lanes.{least-late, least-open}
use Rattle.session_plan.proofs.least_check.Goals as goal

pub returns-then-complete : goal.returns-then-complete
returns-then-complete c =
    let a = c.args in
    least-late a.s a.minimum c.if-complete.true

pub returns : goal.returns
returns c =
    let a = c.args in
    least-open a.s a.minimum _ c.if-complete.false c.minimum_check.ensures
