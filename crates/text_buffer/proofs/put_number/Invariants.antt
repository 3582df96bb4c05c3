-- `text_buffer::put_number` meets its contract. The loop's invariant is `DigitsLeft`: the digits in hand are the
-- number's last. The measure is what is left of the number. Assumes nothing.
use Rattle.text_buffer.proofs.Digits.{DigitsLeft}
use Rattle.text_buffer.proofs.put_number.Given as goal

abbrev pub invariant-loop-left : goal.invariant-loop-left
invariant-loop-left l = DigitsLeft l.n l.after l.digits l.left l.i

abbrev pub decreases-loop-left : goal.decreases-loop-left
decreases-loop-left l = l.left
