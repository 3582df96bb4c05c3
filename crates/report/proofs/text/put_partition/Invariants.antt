-- `report::text::put_partition` meets its contract. The loop's invariant is `Left`: the lines of the rows from place k
-- on are left to put. Assumes nothing.
use lib.ListN.{drop}
use Rattle.lists.specs.Members.{gather}
use Rattle.part.specs.Part.{rows_in}
use Rattle.text_buffer.proofs.Writing.{Left}
use Rattle.report.specs.Text.{row_line, partition_text}
use Rattle.report.proofs.text.put_partition.Given as goal

abbrev pub invariant-loop-k : goal.invariant-loop-k
invariant-loop-k l =
    Left l.at (partition_text l.partition l.part) l.initial.out l.next
    (gather (row_line l.partition) (drop l.k (rows_in l.part))) l.out
