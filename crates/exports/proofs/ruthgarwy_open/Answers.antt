-- `exports::ruthgarwy_open` meets its contract: lengths, then `join::open` with the plan that the words say.
-- Assumes nothing.
use mathlib.Core.Path.{◌≡◌, sym}
use Rattle.checks.specs.Stores.{stores}
use Rattle.join.specs.Opening.{Opened}
use Rattle.layout.specs.Layout.{plan_in, answer_fits, lent_number}
use Rattle.layout.proofs.Lent.{lent_fits}
use Rattle.exports.proofs.Exporting.{exported-called, opened-said}
use Rattle.exports.proofs.ruthgarwy_open.Goals as goal

pub returns : goal.returns
returns c =
    let a = c.args in
    let right = answer_fits a.answer.now in
    let s = stores a.outer.now a.inner.now a.rows.now in
    let s' = stores c.open-a.new.outer c.open-a.new.inner c.open-a.new.rows in
    exported-called {Kept = s' ≡ s}
    {Done = λ r. Opened (plan_in a.plan.now) s s' r}
    (lent_number a.plan.now right) a.answer.now c.tell-2.new.answer c.tell-2.result
    c.open-a.result c.in-Ok.ensures.number (lent_fits a.plan.now right (sym c.in-Ok.ensures.number)) c.tell-2.ensures
    (opened-said c.in-Ok.p (plan_in a.plan.now) s s' c.open-a.result c.in-Ok.ensures.plan c.open-a.ensures)
