-- The place is within the text. The measure is what is left of the text: where a call moves no byte the loop ends, so a
-- turn that goes on has moved at least one.
use Rattle.std.proofs.Common.{length, ◌-◌, ◌≤◌}
use Rattle.wall.proofs.channel.write_all.Given as goal

abbrev pub invariant-loop-from : goal.invariant-loop-from
invariant-loop-from g l = l.from ≤ length l.text

abbrev pub decreases-loop-from : goal.decreases-loop-from
decreases-loop-from g l = length l.text - l.from
