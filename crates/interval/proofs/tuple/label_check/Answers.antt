-- `interval::tuple::label_check` meets its contract.
-- Assumes nothing.
use borrow.Author.Tests.{lt-ltb, le-ltb}
use Rattle.label.specs.Label.{label_check}
use Rattle.interval.proofs.tuple.label_check.Goals as goal

pub returns-then-label-lt1 : goal.returns-then-label-lt1
unfolding label_check
returns-then-label-lt1 c = simp (lt-ltb _ _ c.if-label-lt1.true)

pub returns-then-label-gt-LABEL_END : goal.returns-then-label-gt-LABEL_END
unfolding label_check
returns-then-label-gt-LABEL_END c = simp (le-ltb _ _ c.if-label-lt1.false, lt-ltb _ _ c.if-label-gt-LABEL_END.true)

pub returns : goal.returns
unfolding label_check
returns c = simp (le-ltb _ _ c.if-label-lt1.false, le-ltb _ _ c.if-label-gt-LABEL_END.false)
