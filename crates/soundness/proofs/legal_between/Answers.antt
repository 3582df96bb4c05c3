-- `soundness::legal_between` meets its contract.
-- Assumes nothing.
use borrow.Author.Tests.{le-leb, lt-leb}
use Rattle.soundness.specs.Between.{legal_between}
use Rattle.soundness.proofs.legal_between.Goals as goal

pub returns-then-not-legal : goal.returns-then-not-legal
unfolding legal_between
returns-then-not-legal c = simp (c.if-not-legal.true)

pub returns-then-m-first : goal.returns-then-m-first
unfolding legal_between
returns-then-m-first c = simp (c.if-not-legal.false, lt-leb _ _ c.if-m-first.true)

pub returns : goal.returns
unfolding legal_between
returns c = simp (c.if-not-legal.false, le-leb _ _ c.if-m-first.false)
