-- `report::text::put_partition` meets its contract. The loop's invariant is `Left`: the lines of the rows from place k
-- on are left to put. Assumes nothing.
use mathlib.Core.List.{◌++◌}
use mathlib.Core.Path.{◌≡◌, sym, ◌∙◌}
use Prim.Native.Nat.{◌+◌, ◌<◌}
use native.Mathlib.Omega.{arith}
use lib.ListN.{get_or, drop}
use Rattle.lists.specs.Members.{gather}
use Rattle.part.specs.Part.{counted, rows_in}
use Rattle.part.proofs.Parts.{length-rows, row_in}
use Rattle.text_buffer.proofs.Writing.{Left, left-start, left-room, left-more, left_end}
use Rattle.report.specs.Text.{row_line, partition_text}
use Rattle.report.proofs.Pieces.{gather-next, gather-end}
use Rattle.report.proofs.text.put_partition.Goals as goal

pub loop-k-init : goal.loop-k-init
unfolding partition_text
loop-k-init c =
    let a = c.args in
    left-start a.at (partition_text a.partition a.part.now) a.out.now

pub record_at-requires : goal.record_at-requires
record_at-requires c = omega (arith, c.count-n.ensures, c.requires.part_in_bounds)

pub put_row-next-requires : goal.put_row-next-requires
put_row-next-requires c =
    let next-line : (let at = c.loop-k in
    let a = c.args in
    Left a.at (partition_text a.partition a.part.now) a.out.now at.next
    (row_line a.partition c.record_at.result
    ++ gather (row_line a.partition) (drop (at.k + 1) (rows_in a.part.now)))
    at.out) =
    let a = c.args in
    let row = c.record_at.result in
    let short : c.loop-k.k < counted a.part.now =
    omega (arith, c.count-n.ensures) in
    let here : get_or (rows_in a.part.now) c.loop-k.k row ≡ row =
    row_in c.loop-k.k a.part.now row short ∙ sym c.record_at.ensures in
    rw (gather-next (row_line a.partition) (rows_in a.part.now) c.loop-k.k row
    (omega (arith, length-rows a.part.now)) here) at c.loop-k.invariant in
    let a = c.args in
    left-room a.at (partition_text a.partition a.part.now) a.out.now c.requires.part_in_bounds_2 c.loop-k.next
    c.loop-k.out
    (row_line a.partition c.record_at.result) _ next-line

pub loop-k-preserved : goal.loop-k-preserved
loop-k-preserved c =
    let next-line : (let at = c.loop-k in
    let a = c.args in
    Left a.at (partition_text a.partition a.part.now) a.out.now at.next
    (row_line a.partition c.record_at.result
    ++ gather (row_line a.partition) (drop (at.k + 1) (rows_in a.part.now)))
    at.out) =
    let a = c.args in
    let row = c.record_at.result in
    let short : c.loop-k.k < counted a.part.now =
    omega (arith, c.count-n.ensures) in
    let here : get_or (rows_in a.part.now) c.loop-k.k row ≡ row =
    row_in c.loop-k.k a.part.now row short ∙ sym c.record_at.ensures in
    rw (gather-next (row_line a.partition) (rows_in a.part.now) c.loop-k.k row
    (omega (arith, length-rows a.part.now)) here) at c.loop-k.invariant in
    let a = c.args in
    left-more a.at (partition_text a.partition a.part.now) a.out.now c.requires.part_in_bounds_2 c.loop-k.next
    c.loop-k.out
    (row_line a.partition c.record_at.result) _ _ _ next-line c.put_row-next.ensures

pub shape_of-out : goal.shape_of-out
shape_of-out c = c.loop-k.invariant.long

pub returns : goal.returns
returns c =
    let a = c.args in
    let none =
    gather-end (row_line a.partition) (rows_in a.part.now) c.loop-k.k
    (omega (arith, length-rows a.part.now, c.count-n.ensures)) in
    left_end a.at (partition_text a.partition a.part.now) a.out.now c.requires.part_in_bounds_2 c.loop-k.next
    c.loop-k.out
    (rw none at c.loop-k.invariant)
