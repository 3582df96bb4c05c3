-- `coverage::covered_from` meets its contract. The loop's invariant: the nearest of all is the nearest of what is found
-- and the rows made with the partitions that are left. Assumes nothing.
use mathlib.Core.Path.{sym, ap, ◌∙◌}
use native.Mathlib.Omega.{arith}
use Rattle.interval.specs.Tuple.{tuple_width}
use Rattle.rows.specs.declared.Side.TheVariants.{Outer}
use Rattle.rows.proofs.Counting.{roomy-inside, roomy-fits, made-at}
use Rattle.coverage.specs.NextCovered.{nearest}
use Rattle.coverage.proofs.NextCovered.{from_next, from_end}
use Rattle.coverage.proofs.covered_from.Goals as goal

pub partition-part-requires : goal.partition-part-requires
partition-part-requires c = roomy-inside tuple_width _ _ _ c.requires.roomy _ (omega arith)

pub covered_in-found-requires : goal.covered_in-found-requires
covered_in-found-requires c =
    roomy-fits tuple_width _ _ _ c.requires.roomy _ (omega arith) _
    c.partition-part.ensures

pub loop-j-preserved : goal.loop-j-preserved
loop-j-preserved c =
    let a = c.args in
    let at = c.loop-j in
    let made = made-at a.minimum Outer a.d a.room a.inner.now at.j
    c.partition-part.result.now c.partition-part.ensures in
    at.invariant
    ∙ from_next a.minimum a.d a.room a.inner.now a.m.0 a.count at.j
    c.loop-j-test.true at.found
    ∙ rw (c.covered_in-found.ensures ∙ ap (nearest a.m.0 at.found) made)

pub returns : goal.returns
returns c =
    let a = c.args in
    let at = c.loop-j in
    sym (at.invariant
    ∙ from_end a.minimum a.d a.room a.inner.now a.m.0 a.count at.j c.loop-j-test.false
    at.found)
