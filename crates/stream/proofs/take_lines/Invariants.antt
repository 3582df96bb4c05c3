-- `stream::take_lines` meets its contract. The loop's invariant is `Doing`; the measure is what is left of the part.
-- Assumes nothing.
use mathlib.Core.Path.{◌≡◌}
use Prim.Native.Nat.{◌-◌}
use lib.ListN.{length}
use Rattle.checks.specs.Stores.{stores}
use Rattle.stream.proofs.Loop.{Doing}
use Rattle.stream.proofs.take_lines.Given as goal

abbrev pub invariant-loop-end : goal.invariant-loop-end
invariant-loop-end l = Doing l.initial.read l.part l.initial.out (stores l.initial.outer l.initial.inner l.initial.rows) l.read l.at l.from l.end l.out (stores l.outer l.inner l.rows)
    × (length l.outer ≡ length l.initial.outer)
    × (length l.inner ≡ length l.initial.inner)
    × (length l.rows ≡ length l.initial.rows)
    × (length l.out ≡ length l.initial.out)

abbrev pub decreases-loop-end : goal.decreases-loop-end
decreases-loop-end l = length l.part - l.end
