-- `coverage::nearer` meets its contract: the four cases of its definition.
-- Assumes nothing.
use mathlib.Core.Path.{refl, sym, ◌∙◌}
use native.Mathlib.Omega.{arith}
use Rattle.coverage.proofs.NextCovered.{span-is, nearer-early, nearer-later, nearer-first, nearer-both}
use Rattle.coverage.proofs.nearer.Goals as goal

pub returns-then-v-m : goal.returns-then-v-m
returns-then-v-m c =
    let a = c.args in
    sym (nearer-early a.m.0 a.best a.v c.if-v-m.true)

pub returns-then-best-start : goal.returns-then-best-start
returns-then-best-start c =
    let a = c.args in
    sym (nearer-later a.m.0 a.best a.v (omega arith) (omega (arith, c.later-start.ensures, c.if-best-start.true)))

pub returns-then-start-best : goal.returns-then-start-best
returns-then-start-best c =
    let a = c.args in
    span-is _ c.later-start.ensures refl
    ∙ sym (nearer-first a.m.0 a.best a.v (omega arith) (omega (arith, c.later-start.ensures)))

pub returns : goal.returns
returns c =
    let a = c.args in
    span-is _ c.later-start.ensures c.later-last.ensures
    ∙ sym (nearer-both a.m.0 a.best a.v (omega arith) (omega (arith, c.later-start.ensures)))
