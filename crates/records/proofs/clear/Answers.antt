-- `records::clear` meets its contract. The loop's invariant is `Cleared`: the words before place i are 0, the
-- others as they were. Assumes nothing.
use Rattle.records.proofs.Clearing.{cleared-none, cleared_more, cleared-all}
use Rattle.records.proofs.clear.Goals as goal

pub loop-i-init : goal.loop-i-init
loop-i-init c = cleared-none c.args.words.now

pub loop-i-preserved : goal.loop-i-preserved
loop-i-preserved c =
    let at = c.loop-i in
    cleared_more c.args.words.now at.i at.words c.loop-i-test.true at.invariant

pub returns : goal.returns
returns c =
    let at = c.loop-i in
    cleared-all c.args.words.now at.i at.words c.loop-i-test.false at.invariant
