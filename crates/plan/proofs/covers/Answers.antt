-- `plan::covers` meets its contract. The loop's invariant is `Rising`: what is left is whether the cuts from
-- i on cover.
-- Assumes nothing.
use mathlib.Core.Path.{◌≡◌, ◌∙◌, ap}
use Prim.Native.Nat.{◌-◌}
use native.Mathlib.Omega.{arith}
use lib.ListN.{length}
use Rattle.plan.specs.Plan.{most_partitions, cover}
use Rattle.plan.proofs.PlanLoops.{in-use-is, rising-start, rising_step, rising-stop, rising-end}
use Rattle.plan.proofs.covers.Goals as goal

pub returns-then-count-lt1 : goal.returns-then-count-lt1
unfolding cover
returns-then-count-lt1 c = let none : c.args.count ≡ 0 = omega arith in rw none

pub loop-i-init : goal.loop-i-init
loop-i-init c =
    let long : length c.args.lasts ≡ most_partitions = omega arith in
    rising-start c.args.lasts c.min-used.result long (omega (arith, c.min-used.ensures)) (omega (arith, c.min-used.ensures))

pub returns-then-next-last : goal.returns-then-next-last
returns-then-next-last c =
    let a = c.args in
    rising-stop a.lasts c.min-used.result c.loop-i.i c.loop-i.invariant c.loop-i-test.true c.if-next-last.true
    ∙ ap cover (in-use-is a.count c.min-used.result a.lasts (omega arith) (omega (arith, c.min-used.ensures)))

pub loop-i-preserved : goal.loop-i-preserved
loop-i-preserved c =
    rising_step c.args.lasts c.min-used.result c.loop-i.i c.loop-i.invariant c.loop-i-test.true c.if-next-last.false

pub returns : goal.returns
returns c =
    let a = c.args in
    let at-end : c.min-used.result - 1 ≡ c.loop-i.i = omega arith in
    rw at-end
    (rising-end a.lasts c.min-used.result c.loop-i.i c.loop-i.invariant c.loop-i-test.false
    ∙ ap cover (in-use-is a.count c.min-used.result a.lasts (omega arith) (omega (arith, c.min-used.ensures))))
