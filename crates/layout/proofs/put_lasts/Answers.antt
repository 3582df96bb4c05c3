-- `layout::put_lasts` meets its contract. The loop's invariant is `Copied`: the first i last minutes stand in the
-- plan's words after the three before them, the others are as they were.
-- Assumes nothing.
use mathlib.Core.Path.{◌≡◌, refl, sym, ◌∙◌}
use Prim.Native.Nat.{◌+◌}
use native.Mathlib.Omega.{arith}
use lib.ListN.{length, length-map, get_or-map}
use Rattle.lists.proofs.Copies.{copied_none, copied_more, copied-length}
use Rattle.interval.specs.declared.time.Chronon.{Chronon}
use Rattle.plan.specs.Plan.{most_partitions, numbers}
use Rattle.layout.specs.Layout.{plan_head, plan_words}
use Rattle.layout.proofs.Words.{put_all}
use Rattle.layout.proofs.put_lasts.Goals as goal

pub loop-place-init : goal.loop-place-init
loop-place-init c =
    let many : length (numbers c.args.lasts) ≡ most_partitions =
    rw length-map (omega arith) in
    copied_none c.args.plan.now plan_head _ (omega (arith, many, c.requires))

pub bounds-plan-place : goal.bounds-plan-place
bounds-plan-place c =
    let long : length c.loop-place.plan ≡ plan_words =
    copied-length c.args.plan.now plan_head _ c.loop-place.place c.loop-place.plan c.loop-place.invariant
    ∙ c.requires in
    omega (arith, long)

pub loop-place-preserved : goal.loop-place-preserved
loop-place-preserved c =
    let many : length (numbers c.args.lasts) ≡ most_partitions =
    rw length-map (omega arith) in
    let a = c.args in
    copied_more a.plan.now plan_head (numbers a.lasts) c.loop-place.place (plan_head + c.loop-place.place)
    c.loop-place.plan _ 0
    (omega (arith, many)) refl
    (sym (get_or-map (λ (m : Chronon). m.0) a.lasts c.loop-place.place (record { 0 = 0 })))
    c.loop-place.invariant

pub shape_of-plan : goal.shape_of-plan
shape_of-plan c =
    let long : length c.loop-place.plan ≡ plan_words =
    copied-length c.args.plan.now plan_head _ c.loop-place.place c.loop-place.plan c.loop-place.invariant
    ∙ c.requires in
    long ∙ sym c.requires

pub returns : goal.returns
returns c =
    put_all c.args.plan.now c.loop-place.plan c.args.lasts c.loop-place.place (omega arith)
    (omega arith) c.loop-place.invariant
