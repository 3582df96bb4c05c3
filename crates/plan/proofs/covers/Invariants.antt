-- `plan::covers` meets its contract. The loop's invariant is `Rising`: what is left is whether the cuts from
-- i on cover.
-- Assumes nothing.
use Rattle.plan.proofs.PlanLoops.{Rising}
use Rattle.plan.proofs.covers.Given as goal

abbrev pub invariant-loop-i : goal.invariant-loop-i
invariant-loop-i l = Rising l.lasts l.used l.i
