-- `report::count_rows` meets its contract. The loop's invariant is `CountedTo`: the rows of the lanes before lane i are
-- counted. Assumes nothing.
use mathlib.Core.Path.{◌≡◌, sym, ap, ◌∙◌}
use native.Mathlib.Omega.{arith}
use Rattle.part.specs.Part.{counted}
use Rattle.store.specs.Store.{row_part}
use Rattle.report.proofs.Partitions.{partition-inside, partition-room}
use Rattle.report.proofs.Bounds.{row-count, rows-most}
use Rattle.report.proofs.Bounds.{counted_start, counted-most, counted-more, counted-all}
use Rattle.report.proofs.count_rows.Goals as goal

pub row_room-room-requires : goal.row_room-room-requires
row_room-room-requires c = c.requires.legal

pub loop-i-init : goal.loop-i-init
loop-i-init c =
    let a = c.args in
    counted_start (λ i. counted (row_part a.p a.rows.now i)) a.p.count

pub partition-requires : goal.partition-requires
partition-requires c =
    rw c.row_room-room.ensures
    (partition-inside c.args.p c.args.rows.now c.requires c.loop-i.i (omega arith))

pub count-count-requires : goal.count-count-requires
count-count-requires c =
    let partition-is : (let at = c.loop-i in
    let a = c.args in
    c.partition.result.now ≡ row_part a.p a.rows.now at.i) =
    rw c.row_room-room.ensures at c.partition.ensures in
    rw partition-is
    (omega (arith, partition-room c.args.p c.args.rows.now c.requires c.loop-i.i (omega arith)))

pub overflow_add-count : goal.overflow_add-count
overflow_add-count c =
    let partition-is : (let at = c.loop-i in
    let a = c.args in
    c.partition.result.now ≡ row_part a.p a.rows.now at.i) =
    rw c.row_room-room.ensures at c.partition.ensures in
    let partition-count : (let at = c.loop-i in
    let a = c.args in
    c.count-count.result ≡ counted (row_part a.p a.rows.now at.i)) =
    c.count-count.ensures ∙ ap counted partition-is in
    let a = c.args in
    omega (
      arith,
      partition-count,
      counted-most (λ i. counted (row_part a.p a.rows.now i)) a.p.count c.loop-i.i c.loop-i.count
          (omega arith) c.loop-i.invariant,
      row-count a.p a.rows.now,
      rows-most a.p a.rows.now c.requires,
    )

pub loop-i-preserved : goal.loop-i-preserved
loop-i-preserved c =
    let partition-is : (let at = c.loop-i in
    let a = c.args in
    c.partition.result.now ≡ row_part a.p a.rows.now at.i) =
    rw c.row_room-room.ensures at c.partition.ensures in
    let partition-count : (let at = c.loop-i in
    let a = c.args in
    c.count-count.result ≡ counted (row_part a.p a.rows.now at.i)) =
    c.count-count.ensures ∙ ap counted partition-is in
    let a = c.args in
    rw partition-count
    (counted-more (λ i. counted (row_part a.p a.rows.now i)) a.p.count c.loop-i.i c.loop-i.count
    (omega arith) c.loop-i.invariant)

pub returns : goal.returns
returns c =
    let a = c.args in
    counted-all (λ i. counted (row_part a.p a.rows.now i)) a.p.count c.loop-i.i c.loop-i.count
    (omega arith)
    c.loop-i.invariant ∙ sym (row-count a.p a.rows.now)
