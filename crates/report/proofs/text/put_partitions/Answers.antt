-- `report::text::put_partitions` meets its contract. The loop's invariant is `Left`: the lines of the lanes from lane i
-- on are left to put. Assumes nothing.
use mathlib.Core.List.{List, ◌++◌}
use mathlib.Core.Path.{◌≡◌}
use Prim.Native.Nat.{ℕ, ◌+◌, ◌-◌}
use native.Mathlib.Nat.{sub-zero}
use native.Mathlib.Omega.{arith}
use Rattle.lists.specs.Members.{gather, up_from}
use Rattle.store.specs.Store.{row_part}
use Rattle.plan.proofs.Homes.{legal-plan}
use Rattle.text_buffer.proofs.Writing.{Left, left-start, left-room, left-more, left_end}
use Rattle.report.specs.Text.{partition_text, partitions_text}
use Rattle.report.proofs.Partitions.{partition-inside, partition-room}
use Rattle.report.proofs.Pieces.{partitions-next, partitions-none}
use Rattle.report.proofs.text.put_partitions.Goals as goal

pub row_room-room-requires : goal.row_room-room-requires
row_room-room-requires c = c.requires.sound_store.legal

pub loop-i-init : goal.loop-i-init
unfolding partitions_text
loop-i-init c =
    let a = c.args in
    rw sub-zero (left-start a.at (partitions_text a.p a.rows.now) a.out.now)

pub overflow_add-i : goal.overflow_add-i
overflow_add-i c = omega (arith, (legal-plan c.args.p c.requires.sound_store.legal).most)

pub partition-requires : goal.partition-requires
partition-requires c =
    rw c.row_room-room.ensures
    (partition-inside c.args.p c.args.rows.now c.requires.sound_store c.loop-i.i (omega arith))

pub put_partition-next-requires : goal.put_partition-next-requires
put_partition-next-requires c =
    let next-partition : (let at = c.loop-i in
    let a = c.args in
    let lines : ℕ → List ℕ = λ i. partition_text (i + 1) (row_part a.p a.rows.now i) in
    Left a.at (partitions_text a.p a.rows.now) a.out.now at.next
    (lines at.i ++ gather lines (up_from (at.i + 1) (a.p.count - (at.i + 1)))) at.out) =
    let at = c.loop-i in
    let a = c.args in
    let lines : ℕ → List ℕ = λ i. partition_text (i + 1) (row_part a.p a.rows.now i) in
    rw (partitions-next lines a.p.count at.i (omega arith)) at at.invariant in
    let partition-is : (let at = c.loop-i in
    let a = c.args in
    c.partition.result.now ≡ row_part a.p a.rows.now at.i) =
    rw c.row_room-room.ensures at c.partition.ensures in
    let a = c.args in
    rw partition-is (record {
      part_in_bounds = partition-room a.p a.rows.now c.requires.sound_store c.loop-i.i (omega arith);
      part_in_bounds_2 = left-room a.at (partitions_text a.p a.rows.now) a.out.now c.requires.rows_in_bounds c.loop-i.next
          c.loop-i.out (partition_text (c.loop-i.i + 1) (row_part a.p a.rows.now c.loop-i.i)) _
          next-partition;
    })

pub loop-i-preserved : goal.loop-i-preserved
loop-i-preserved c =
    let next-partition : (let at = c.loop-i in
    let a = c.args in
    let lines : ℕ → List ℕ = λ i. partition_text (i + 1) (row_part a.p a.rows.now i) in
    Left a.at (partitions_text a.p a.rows.now) a.out.now at.next
    (lines at.i ++ gather lines (up_from (at.i + 1) (a.p.count - (at.i + 1)))) at.out) =
    let at = c.loop-i in
    let a = c.args in
    let lines : ℕ → List ℕ = λ i. partition_text (i + 1) (row_part a.p a.rows.now i) in
    rw (partitions-next lines a.p.count at.i (omega arith)) at at.invariant in
    let partition-is : (let at = c.loop-i in
    let a = c.args in
    c.partition.result.now ≡ row_part a.p a.rows.now at.i) =
    rw c.row_room-room.ensures at c.partition.ensures in
    let a = c.args in
    left-more a.at (partitions_text a.p a.rows.now) a.out.now c.requires.rows_in_bounds c.loop-i.next c.loop-i.out
    (partition_text (c.loop-i.i + 1) (row_part a.p a.rows.now c.loop-i.i)) _ _ _ next-partition
    (rw partition-is at c.put_partition-next.ensures)

pub shape_of-out : goal.shape_of-out
shape_of-out c = c.loop-i.invariant.long

pub returns : goal.returns
returns c =
    let a = c.args in
    let lines : ℕ → List ℕ = λ i. partition_text (i + 1) (row_part a.p a.rows.now i) in
    let none = partitions-none lines a.p.count c.loop-i.i (omega arith) in
    left_end a.at (partitions_text a.p a.rows.now) a.out.now c.requires.rows_in_bounds c.loop-i.next c.loop-i.out
    (rw none at c.loop-i.invariant)
