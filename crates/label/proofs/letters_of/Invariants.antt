-- `label::letters_of` meets its contract. The loop's invariant is `Written`: the letters in hand are the number's last.
-- The measure is what is left of the number. Assumes nothing.
use Rattle.label.proofs.Loops.{Written}
use Rattle.label.proofs.letters_of.Given as goal

abbrev pub invariant-loop-n : goal.invariant-loop-n
invariant-loop-n l = Written l.number l.bytes l.count l.n

abbrev pub decreases-loop-n : goal.decreases-loop-n
decreases-loop-n l = l.n
