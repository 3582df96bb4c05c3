-- `move_count::cuts_of` meets its contract. The loop's invariant is `Listed`: the first i places are the plan's last
-- chronons. Assumes nothing.
use Rattle.move_count.proofs.Listing.{Listed}
use Rattle.move_count.proofs.cuts_of.Given as goal

abbrev pub invariant-loop-i : goal.invariant-loop-i
invariant-loop-i l = Listed l.fn.q l.i l.cuts
