-- `soundness::sound_part` meets its contract: the count, then the records, then the zeros after them.
-- Assumes nothing.
use mathlib.Core.Path.{sym, ◌∙◌}
use Prim.Native.Nat.{◌≤◌}
use native.Mathlib.Omega.{arith}
use lib.ListN.{length, get_or}
use Rattle.part.specs.Part.{room_of, counted, records_in}
use Rattle.soundness.specs.Between.{width_of, record_between}
use Rattle.soundness.proofs.Loops.{room-order, sound-over, sound-bad, sound-by-tail}
use Rattle.soundness.proofs.sound_part.Goals as goal

pub returns-then-capacity-n : goal.returns-then-capacity-n
unfolding counted
returns-then-capacity-n c =
    let a = c.args in
    sound-over (width_of a.kind) a.capacity (record_between a.kind a.first.0 a.last.0) a.part.now
    c.if-capacity-n.true

pub records_between-requires : goal.records_between-requires
records_between-requires c =
    let room : (let a = c.args in
    room_of (width_of a.kind) (get_or a.part.now 0 0) ≤ length a.part.now) =
    let a = c.args in
    let less = room-order (width_of a.kind) (get_or a.part.now 0 0) a.capacity c.if-capacity-n.false in
    omega (arith, c.requires) in
    room

pub returns-then-not-records_between : goal.returns-then-not-records_between
unfolding counted records_in
returns-then-not-records_between c =
    let a = c.args in
    sound-bad (width_of a.kind) a.capacity (record_between a.kind a.first.0 a.last.0) a.part.now
    c.if-capacity-n.false
    (sym c.records_between.ensures ∙ c.if-not-records_between.true)

pub overflow_mul-width : goal.overflow_mul-width
overflow_mul-width c =
    let room : (let a = c.args in
    room_of (width_of a.kind) (get_or a.part.now 0 0) ≤ length a.part.now) =
    let a = c.args in
    let less = room-order (width_of a.kind) (get_or a.part.now 0 0) a.capacity c.if-capacity-n.false in
    omega (arith, c.requires) in
    rw c.width.ensures (omega (arith, room))

pub overflow_add-width : goal.overflow_add-width
overflow_add-width c =
    let room : (let a = c.args in
    room_of (width_of a.kind) (get_or a.part.now 0 0) ≤ length a.part.now) =
    let a = c.args in
    let less = room-order (width_of a.kind) (get_or a.part.now 0 0) a.capacity c.if-capacity-n.false in
    omega (arith, c.requires) in
    rw c.width.ensures (omega (arith, room))

pub returns : goal.returns
unfolding counted records_in
returns c =
    let a = c.args in
    rw c.width.ensures at c.zeros_from.ensures
    ∙ sound-by-tail (width_of a.kind) a.capacity (record_between a.kind a.first.0 a.last.0)
    a.part.now c.if-capacity-n.false
    (sym c.records_between.ensures ∙ c.if-not-records_between.false)
