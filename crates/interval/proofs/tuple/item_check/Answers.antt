-- `interval::tuple::item_check` meets its contract.
-- Assumes nothing.
use borrow.Author.Tests.{lt-ltb, le-ltb}
use Rattle.interval.specs.Tuple.{item_check}
use Rattle.interval.proofs.tuple.item_check.Goals as goal

pub returns-then-item-gt-ITEM_END : goal.returns-then-item-gt-ITEM_END
unfolding item_check
returns-then-item-gt-ITEM_END c = simp (lt-ltb _ _ c.if-item-gt-ITEM_END.true)

pub returns : goal.returns
unfolding item_check
returns c = simp (le-ltb _ _ c.if-item-gt-ITEM_END.false)
