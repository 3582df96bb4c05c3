-- `session::step` meets its contract: the line is read, and then its value is worked on.
-- Assumes nothing.
use mathlib.Core.Path.{sym}
use Rattle.checks.specs.Stores.{stores}
use Rattle.lines.specs.Line.{line_of}
use Rattle.session.proofs.Steps.{step-as}
use Rattle.session.proofs.step.Goals as goal

pub returns : goal.returns
returns c =
    let a = c.args in
    let S = stores a.outer.now a.inner.now a.rows.now in
    let S' = stores c.step_value.new.outer c.step_value.new.inner c.step_value.new.rows in
    step-as a.s (line_of a.line.now) c.read_line-value.result S S' c.step_value.result
    (sym c.read_line-value.ensures) c.step_value.ensures
