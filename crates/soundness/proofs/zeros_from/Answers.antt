-- `soundness::zeros_from` meets its contract. The loop's invariant: the words from i on decide.
-- Assumes nothing.
use mathlib.Core.Path.{sym, ◌∙◌}
use borrow.Author.Tests.{eq-eqb, ne_eqb}
use Rattle.soundness.proofs.Zeros.{zeros-pieces}
use Rattle.soundness.proofs.zeros_from.Goals as goal

pub returns-then-len-lt8 : goal.returns-then-len-lt8
returns-then-len-lt8 c = c.zeros_one_by_one.ensures

pub returns-then-any_of_eight-ne0 : goal.returns-then-any_of_eight-ne0
returns-then-any_of_eight-ne0 c =
    sym (c.loop-i.invariant ∙ zeros-pieces 8 c.loop-i.i
    c.args.words.now ∙ rw
    (sym c.any_of_eight.ensures ∙ ne_eqb _ _ c.if-any_of_eight-ne0.true))

pub loop-i-preserved : goal.loop-i-preserved
loop-i-preserved c =
    c.loop-i.invariant ∙ zeros-pieces 8 c.loop-i.i
    c.args.words.now ∙ rw
    (sym c.any_of_eight.ensures ∙ eq-eqb _ _ c.if-any_of_eight-ne0.false)

pub returns : goal.returns
returns c = c.zeros_one_by_one-2.ensures ∙ sym c.loop-i.invariant
