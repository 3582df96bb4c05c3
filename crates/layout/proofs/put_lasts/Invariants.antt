-- `layout::put_lasts` meets its contract. The loop's invariant is `Copied`: the first i last minutes stand in the
-- plan's words after the three before them, the others are as they were.
-- Assumes nothing.
use Rattle.lists.proofs.Copies.{Copied}
use Rattle.plan.specs.Plan.{numbers}
use Rattle.layout.specs.Layout.{plan_head}
use Rattle.layout.proofs.put_lasts.Given as goal

abbrev pub invariant-loop-place : goal.invariant-loop-place
invariant-loop-place l = Copied l.initial.plan plan_head (numbers l.lasts) l.place l.plan
