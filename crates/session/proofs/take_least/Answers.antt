-- `session::take_least` meets its contract: the checks, and the session with the minimum.
-- Assumes nothing.
use Rattle.std.proofs.Common.{rules}
use Rattle.session.proofs.Steps.{least-refused, least_step}
use Rattle.session.proofs.take_least.Goals as goal

pub returns-in_err-least_check : goal.returns-in_err-least_check
returns-in_err-least_check c S =
    let a = c.args in
    least-refused a.s a.minimum S c.from_residual.result c.in_err-least_check.field-0.0 (search rules)
    c.in_err-least_check.ensures

pub returns : goal.returns
returns c S =
    let a = c.args in
    least_step a.s a.minimum S c.in_ok-least_check.ensures c.with_minimum.result c.with_minimum.ensures
