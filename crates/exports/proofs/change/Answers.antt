-- `exports::change` meets its contract: lengths, then the join's call of the kind with the plan that the words say.
-- Assumes nothing.
use mathlib.Core.Path.{◌≡◌, sym}
use Rattle.checks.specs.Stores.{stores}
use Rattle.join.specs.Changes.{Changed}
use Rattle.layout.specs.Layout.{plan_in, answer_fits, lent_number}
use Rattle.layout.proofs.Lent.{lent_fits}
use Rattle.exports.proofs.Exporting.{exported-called, changed-said}
use Rattle.exports.proofs.change.Goals as goal

pub returns : goal.returns
returns c =
    let a = c.args in
    let right = answer_fits a.answer.now in
    let s = stores a.outer.now a.inner.now a.rows.now in
    let s' = stores c.change-a.new.outer c.change-a.new.inner c.change-a.new.rows in
    exported-called {Kept = s' ≡ s}
    {Done = λ r. Changed a.kind (plan_in a.plan.now) a.side a.t s s' r}
    (lent_number a.plan.now right) a.answer.now c.tell-2.new.answer c.tell-2.result
    c.change-a.result c.in-Ok.ensures.number (lent_fits a.plan.now right (sym c.in-Ok.ensures.number)) c.tell-2.ensures
    (changed-said a.kind c.in-Ok.p (plan_in a.plan.now) a.side a.t s s'
    c.change-a.result c.in-Ok.ensures.plan c.change-a.ensures)
