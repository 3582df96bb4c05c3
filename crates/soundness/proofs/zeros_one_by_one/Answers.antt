-- `soundness::zeros_one_by_one` meets its contract. The loop's invariant: the words from i on decide.
-- Assumes nothing.
use mathlib.Core.Path.{sym, ◌∙◌}
use Rattle.lists.proofs.Words.{zeros-end, zeros-next, zeros-stop}
use Rattle.soundness.proofs.zeros_one_by_one.Goals as goal

pub returns-then-words-i-ne0 : goal.returns-then-words-i-ne0
returns-then-words-i-ne0 c =
    sym (c.loop-i.invariant ∙ zeros-stop c.loop-i.i
    c.args.words.now c.loop-i-test.true c.if-words-i-ne0.true)

pub loop-i-preserved : goal.loop-i-preserved
loop-i-preserved c =
    c.loop-i.invariant ∙ zeros-next c.loop-i.i
    c.args.words.now c.loop-i-test.true c.if-words-i-ne0.false

pub returns : goal.returns
returns c =
    sym (c.loop-i.invariant ∙ zeros-end c.loop-i.i c.args.words.now
    c.loop-i-test.false)
