-- `exports::ruthgarwy_sweep` meets its contract: lengths, then `join::sweep` with the plan that the words say.
-- Assumes nothing.
use mathlib.Core.Path.{◌≡◌, sym}
use Rattle.checks.specs.Stores.{stores}
use Rattle.join.specs.Sweeps.{Swept}
use Rattle.layout.specs.Layout.{plan_in, answer_fits, lent_number}
use Rattle.layout.proofs.Lent.{lent_fits}
use Rattle.exports.proofs.Exporting.{exported-called, swept-said}
use Rattle.exports.proofs.ruthgarwy_sweep.Goals as goal

pub returns : goal.returns
returns c =
    let a = c.args in
    let right = answer_fits a.answer.now in
    let s = stores a.outer.now a.inner.now a.rows.now in
    let s' = stores a.outer.now a.inner.now c.sweep-a.new.rows in
    let c₀ = a.outer_cache.now in
    let d₀ = a.inner_cache.now in
    exported-called {Kept = (c.sweep-a.new.rows ≡ a.rows.now) × (c.sweep-a.new.outer_cache ≡ c₀) × (c.sweep-a.new.inner_cache ≡ d₀)}
    {Done = λ r. Swept (plan_in a.plan.now) s c₀ d₀ s' c.sweep-a.new.outer_cache c.sweep-a.new.inner_cache r}
    (lent_number a.plan.now right) a.answer.now c.tell-2.new.answer c.tell-2.result
    c.sweep-a.result c.in-Ok.ensures.number (lent_fits a.plan.now right (sym c.in-Ok.ensures.number)) c.tell-2.ensures
    (swept-said c.in-Ok.p (plan_in a.plan.now) s c₀ d₀ s' c.sweep-a.new.outer_cache c.sweep-a.new.inner_cache
    c.sweep-a.result c.in-Ok.ensures.plan c.sweep-a.ensures)
