-- `question::widened` meets its contract.
-- Assumes nothing.
use borrow.Author.Tests.{le-leb, lt-leb}
use Rattle.interval.specs.Time.{calendar_end}
use Rattle.question.specs.Steps.{widened_by}
use Rattle.question.proofs.widened.Goals as goal

pub returns-then-q-gt-CALENDAR_END : goal.returns-then-q-gt-CALENDAR_END
unfolding widened_by
returns-then-q-gt-CALENDAR_END c = rw (lt-leb c.args.q.minute.0 calendar_end c.if-q-gt-CALENDAR_END.true)

pub returns : goal.returns
unfolding widened_by
returns c =
    rw (le-leb c.args.q.minute.0 calendar_end c.if-q-gt-CALENDAR_END.false)
    (λ i. record {
      first = record { 0 = c.earlier-first.ensures i };
      last = record { 0 = c.later-last.ensures i };
    })
