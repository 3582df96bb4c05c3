-- `plan::minimum_check` meets its contract: below 1, above the most, or within.
-- Assumes nothing.
use Rattle.plan.specs.Plan.{most_minimum, minimum_check}
use Rattle.plan.proofs.Homes.{is_within, is_below, is-above}
use Rattle.plan.proofs.minimum_check.Goals as goal

pub returns-then-minimum-lt1 : goal.returns-then-minimum-lt1
unfolding minimum_check
returns-then-minimum-lt1 c = rw (is_below 1 most_minimum c.args.minimum c.if-minimum-lt1.true)

pub returns-then-minimum-gt-MOST_MINIMUM : goal.returns-then-minimum-gt-MOST_MINIMUM
unfolding minimum_check
returns-then-minimum-gt-MOST_MINIMUM c = rw (is-above 1 most_minimum c.args.minimum c.if-minimum-gt-MOST_MINIMUM.true)

pub returns : goal.returns
unfolding minimum_check
returns c = rw (is_within 1 most_minimum c.args.minimum c.if-minimum-lt1.false c.if-minimum-gt-MOST_MINIMUM.false)
