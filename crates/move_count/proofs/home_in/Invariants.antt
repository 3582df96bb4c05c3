-- `move_count::home_in` meets its contract. The loop's invariant is `Between`: the partition is one of `low` to
-- `high`. The measure is how far apart they are. Assumes nothing.
use Prim.Native.Nat.{◌-◌}
use Rattle.move_count.proofs.Bisecting.{Between}
use Rattle.move_count.proofs.home_in.Given as goal

abbrev pub invariant-loop-low : goal.invariant-loop-low
invariant-loop-low l = Between l.cuts l.m.0 l.low l.high

abbrev pub decreases-loop-low : goal.decreases-loop-low
decreases-loop-low l = l.high - l.low
