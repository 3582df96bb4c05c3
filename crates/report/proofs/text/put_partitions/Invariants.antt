-- `report::text::put_partitions` meets its contract. The loop's invariant is `Left`: the lines of the lanes from lane i
-- on are left to put. Assumes nothing.
use Prim.Native.Nat.{◌+◌, ◌-◌}
use Rattle.lists.specs.Members.{gather, up_from}
use Rattle.store.specs.Store.{row_part}
use Rattle.text_buffer.proofs.Writing.{Left}
use Rattle.report.specs.Text.{partition_text, partitions_text}
use Rattle.report.proofs.text.put_partitions.Given as goal

abbrev pub invariant-loop-i : goal.invariant-loop-i
invariant-loop-i l = Left l.at (partitions_text l.fn.p l.rows) l.initial.out l.next
    (gather (λ i. partition_text (i + 1) (row_part l.fn.p l.rows i)) (up_from l.i (l.fn.p.count - l.i))) l.out
