-- `records::swap` meets its contract. The loop's invariant is `Swapping`: so many words of each of the two records are
-- written over the other. Assumes nothing.
use Rattle.records.proofs.Movers.{swapping-more, swapping-all}
use Rattle.records.proofs.swap.Goals as goal

pub loop-j-preserved : goal.loop-j-preserved
loop-j-preserved c =
    let a = c.args in
    swapping-more a.width a.a a.b a.part.now c.loop-j.j c.loop-j.part c.requires.a_in_bounds c.requires.b_in_bounds
    c.loop-j-test.true c.loop-j.invariant

pub returns : goal.returns
returns c =
    let a = c.args in
    swapping-all a.width a.a a.b a.part.now c.loop-j.j c.loop-j.part c.loop-j-test.false c.loop-j.auto.j-end
    c.loop-j.invariant
