-- `question::with_row` meets its contract.
-- Assumes nothing.
use borrow.Author.Tests.{eq-eqb, ne_eqb, le-leb, lt-leb}
use Rattle.interval.specs.Time.{contains}
use Rattle.question.specs.Question.{row_meets}
use Rattle.question.proofs.with_row.Goals as goal

pub returns-then-r-q : goal.returns-then-r-q
unfolding row_meets
returns-then-r-q c = simp (ne_eqb _ _ c.if-r-q.true)

pub returns-then-q-r : goal.returns-then-q-r
unfolding row_meets contains
returns-then-q-r c = simp (eq-eqb _ _ c.if-r-q.false, lt-leb _ _ c.if-q-r.true)

pub returns-then-r-q-2 : goal.returns-then-r-q-2
unfolding row_meets contains
returns-then-r-q-2 c =
    simp (
      eq-eqb _ _ c.if-r-q.false,
      le-leb _ _ c.if-q-r.false,
      lt-leb _ _ c.if-r-q-2.true,
    )

pub returns : goal.returns
unfolding row_meets contains
returns c =
    simp (
      eq-eqb _ _ c.if-r-q.false,
      le-leb _ _ c.if-q-r.false,
      le-leb _ _ c.if-r-q-2.false,
    )
