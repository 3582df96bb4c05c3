-- `interval::tuple::valid_check` meets its contract: at each return the number is right for each kind of span that
-- comes there, by the tests that led there.
-- Assumes nothing.
use native.Mathlib.Omega.{arith}
use Rattle.interval.proofs.Tuples.{valid-number}
use Rattle.interval.proofs.tuple.valid_check.Goals as goal

pub returns-then-valid : goal.returns-then-valid
returns-then-valid c =
    valid-number c.args.valid _ (λ r. omega (arith, r)) (λ lo l. omega (arith, lo, l)) (λ lo e. omega (arith, lo, e))

pub returns-then-valid-gt-CALENDAR_END : goal.returns-then-valid-gt-CALENDAR_END
returns-then-valid-gt-CALENDAR_END c =
    valid-number c.args.valid _ (λ r. omega (arith, r)) (λ lo l. omega (arith, lo, l)) (λ lo e. omega (arith, lo, e))

pub returns : goal.returns
returns c =
    valid-number c.args.valid _ (λ r. omega (arith, r)) (λ lo l. omega (arith, lo, l)) (λ lo e. omega (arith, lo, e))
