-- `exports::ruthgarwy_gaps` meets its contract: lengths, then `gaps::list` with the plan that the words say.
-- Assumes nothing.
use mathlib.Core.Path.{◌≡◌, sym, subst}
use Rattle.layout.specs.Layout.{plan_in, answer_fits, lent_number}
use Rattle.layout.proofs.Lent.{lent_fits}
use Rattle.gaps.specs.Listed.{GapsListed}
use Rattle.exports.proofs.Exporting.{exported-called}
use Rattle.exports.proofs.ruthgarwy_gaps.Goals as goal

pub returns : goal.returns
returns c =
    let a = c.args in
    let right = answer_fits a.answer.now in
    let out = a.gaps.now in
    exported-called {Kept = c.list-a.new.out ≡ out}
    {Done = λ r. GapsListed (plan_in a.plan.now) a.outer.now a.inner.now out c.list-a.new.out r}
    (lent_number a.plan.now right) a.answer.now c.tell-2.new.answer c.tell-2.result
    c.list-a.result c.in-Ok.ensures.number (lent_fits a.plan.now right (sym c.in-Ok.ensures.number)) c.tell-2.ensures
    (subst (λ v. GapsListed v a.outer.now a.inner.now out c.list-a.new.out c.list-a.result) c.in-Ok.ensures.plan
    c.list-a.ensures)
