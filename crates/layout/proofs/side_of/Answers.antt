-- `layout::side_of` meets its contract: 1 is drawings, every other word spots.
-- Assumes nothing.
use mathlib.Core.Path.{sym}
use lib.Dec.{eqb}
use borrow.Author.Tests.{eq-eqb, ne_eqb}
use Rattle.lists.proofs.Choice.{pick_true, pick-false}
use Rattle.rows.specs.declared.Side.TheVariants.{Outer, Inner}
use Rattle.layout.proofs.side_of.Goals as goal

pub returns-then-side-eq1 : goal.returns-then-side-eq1
returns-then-side-eq1 c =
    let n = c.args.side in
    sym (pick_true (eqb n 1) Outer Inner (eq-eqb n 1 c.if-side-eq1.true))

pub returns : goal.returns
returns c =
    let n = c.args.side in
    sym (pick-false (eqb n 1) Outer Inner (ne_eqb n 1 c.if-side-eq1.false))
