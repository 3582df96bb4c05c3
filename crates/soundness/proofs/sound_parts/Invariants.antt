-- `soundness::sound_parts` meets its contract. The loop's invariant is `Checked`: the partitions from i on decide.
-- Assumes nothing.
use Rattle.part.specs.Part.{sound_part}
use Rattle.plan.specs.Plan.{cuts_of}
use Rattle.store.specs.Store.{partition_at}
use Rattle.soundness.specs.Between.{width_of, record_at_home}
use Rattle.soundness.proofs.Loops.{Checked}
use Rattle.soundness.proofs.sound_parts.Given as goal

abbrev pub invariant-loop-i : goal.invariant-loop-i
invariant-loop-i l = Checked (λ i. sound_part (width_of l.kind) l.capacity (record_at_home l.kind l.fn.p i) (partition_at l.room l.store i)) (cuts_of l.fn.p) l.room
    l.fn.p.count l.first.0 l.at l.i
