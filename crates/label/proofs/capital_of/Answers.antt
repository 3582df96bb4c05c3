-- `label::capital_of` meets its contract.
-- Assumes nothing.
use mathlib.Core.Path.{sym}
use borrow.Author.Tests.{le-leb}
use Rattle.label.specs.Label.{capital}
use Rattle.label.proofs.Fields.{capital-below, capital-above}
use Rattle.label.proofs.capital_of.Goals as goal

pub returns-then-b-lt97 : goal.returns-then-b-lt97
returns-then-b-lt97 c = sym (capital-below c.args.b c.if-b-lt97.true)

pub returns-then-b-gt122 : goal.returns-then-b-gt122
returns-then-b-gt122 c = sym (capital-above c.args.b c.if-b-gt122.true)

pub returns : goal.returns
unfolding capital
returns c = simp (le-leb _ _ c.if-b-lt97.false, le-leb _ _ c.if-b-gt122.false)
