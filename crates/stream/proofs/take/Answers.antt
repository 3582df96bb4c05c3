-- `stream::take` meets its contract: the checks, then the lines.
-- Assumes nothing.
use Rattle.stream.proofs.Takes.{take-kept, take_short, take_whole, taken_refused, taken-whole}
use Rattle.stream.proofs.take.Goals as goal

pub returns-then-kept-gt-KEPT_BYTES : goal.returns-then-kept-gt-KEPT_BYTES
returns-then-kept-gt-KEPT_BYTES c = taken_refused _ _ _ _ (take-kept _ _ _ c.if-kept-gt-KEPT_BYTES.true)

pub returns-then-out-part : goal.returns-then-out-part
returns-then-out-part c = taken_refused _ _ _ _ (take_short _ _ _ c.if-out-part.true)

pub returns : goal.returns
returns c =
    taken-whole _ _ _ _ _ _ _ (take_whole _ _ _ c.if-kept-gt-KEPT_BYTES.false c.if-out-part.false)
    c.take_lines.ensures
