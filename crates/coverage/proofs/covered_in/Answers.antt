-- `coverage::covered_in` meets its contract. The loop's invariant: the nearest of all is the nearest of what is found
-- and the rows made with the tuples that are left. Assumes nothing.
use mathlib.Core.Path.{sym, ap, ◌∙◌}
use native.Mathlib.Omega.{arith}
use Rattle.part.specs.Part.{tuples_in}
use Rattle.part.proofs.Parts.{length-tuples}
use Rattle.rows.specs.Join.{made_of}
use Rattle.rows.specs.declared.Side.TheVariants.{Outer}
use Rattle.rows.proofs.Counting.{part-turn, made-end}
use Rattle.coverage.specs.NextCovered.{nearest}
use Rattle.coverage.proofs.NextCovered.{nearest-append}
use Rattle.coverage.proofs.covered_in.Goals.{in-Some, in_default}
use Rattle.coverage.proofs.covered_in.Goals as goal

pub loop-k-preserved : goal.loop-k-preserved
loop-k-preserved c =
    let a = c.args in
    let at = c.loop-k in
    let turn =
    part-turn a.minimum Outer a.d a.part.now at.k c.record_at.result c.oriented-pair.result
    (omega (arith, c.count-n.ensures)) c.record_at.ensures c.oriented-pair.ensures in
    let next =
    at.invariant ∙ ap (nearest a.m.0 at.found) turn
    ∙ nearest-append a.m.0 at.found (made_of c.oriented-pair.result) _ in
    elim c.match-pair.branch [
      | in-Some w ↦ rw (w.found-is ∙ w.nearer-found.ensures) (rw w.in-Some.is at next)
      | in_default w ↦ rw w.found-is (rw w.in_default.is at next)
    ]

pub returns : goal.returns
returns c =
    let a = c.args in
    let at = c.loop-k in
    let part = a.part.now in
    sym (at.invariant ∙ rw (made-end a.minimum Outer a.d (tuples_in part) at.k (omega (arith, length-tuples part))))
