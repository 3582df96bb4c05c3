-- `soundness::sound_parts` meets its contract. The loop's invariant is `Checked`: the partitions from i on decide.
-- The measure is how many are left. Assumes nothing.
use mathlib.Core.Bool.{Bool}
use mathlib.Core.Path.{refl, sym}
use Prim.Native.Nat.{ℕ, ◌+◌, ◌-◌, ◌≤◌, ◌<◌}
use native.Mathlib.Omega.{arith}
use lib.ListN.{length}
use Rattle.lists.specs.Members.{all, below, up_from}
use Rattle.part.specs.Part.{room_of, sound_part}
use Rattle.plan.specs.Plan.{cuts_of}
use Rattle.plan.proofs.Homes.{LegalPlan, legal-plan, length-cuts, cut_at, cut_most}
use Rattle.store.specs.Store.{partition_at}
use Rattle.store.proofs.StoreLoops.{Turn, below-turn, below_end, lent-room}
use Rattle.soundness.specs.Between.{width_of, record_at_home, sound_parts}
use Rattle.soundness.proofs.Loops.{checked-start, checked-room, checked-next}
use Rattle.soundness.proofs.Loops.{part-answer, between-home}
use Rattle.soundness.proofs.sound_parts.Goals as goal

pub loop-i-init : goal.loop-i-init
loop-i-init c =
    let a = c.args in
    checked-start
    (λ i. sound_part (width_of a.kind) a.capacity (record_at_home a.kind a.p i)
    (partition_at a.room a.store.now i))
    (cuts_of a.p) a.room a.p.count

pub offset_bounds-lasts-i : goal.offset_bounds-lasts-i
offset_bounds-lasts-i c =
    let legal : LegalPlan c.args.p =
    legal-plan c.args.p c.requires.p_value in
    omega (arith, legal.most)

pub bounds-lasts-i : goal.bounds-lasts-i
bounds-lasts-i c =
    let legal : LegalPlan c.args.p =
    legal-plan c.args.p c.requires.p_value in
    omega (arith, legal.most)

pub overflow_add-end : goal.overflow_add-end
overflow_add-end c =
    let room : (let a = c.args in
    c.loop-i.at + a.room ≤ length a.store.now) =
    let at = c.loop-i in
    let a = c.args in
    omega (
      arith,
      checked-room _ _ a.room a.p.count at.first.0 at.at at.i c.loop-i-test.true at.invariant,
      c.requires.parts_fit.long,
    ) in
    omega (arith, room)

pub offset_bounds-store-at : goal.offset_bounds-store-at
offset_bounds-store-at c =
    let room : (let a = c.args in
    c.loop-i.at + a.room ≤ length a.store.now) =
    let at = c.loop-i in
    let a = c.args in
    omega (
      arith,
      checked-room _ _ a.room a.p.count at.first.0 at.at at.i c.loop-i-test.true at.invariant,
      c.requires.parts_fit.long,
    ) in
    omega (arith, room, c.well_formed)

pub slice_bounds-sound_part-end : goal.slice_bounds-sound_part-end
slice_bounds-sound_part-end c =
    let room : (let a = c.args in
    c.loop-i.at + a.room ≤ length a.store.now) =
    let at = c.loop-i in
    let a = c.args in
    omega (
      arith,
      checked-room _ _ a.room a.p.count at.first.0 at.at at.i c.loop-i-test.true at.invariant,
      c.requires.parts_fit.long,
    ) in
    omega (arith, room)

pub sound_part-requires : goal.sound_part-requires
sound_part-requires c =
    let room : (let a = c.args in
    c.loop-i.at + a.room ≤ length a.store.now) =
    let at = c.loop-i in
    let a = c.args in
    omega (
      arith,
      checked-room _ _ a.room a.p.count at.first.0 at.at at.i c.loop-i-test.true at.invariant,
      c.requires.parts_fit.long,
    ) in
    let a = c.args in
    lent-room (room_of (width_of a.kind) a.capacity) c.loop-i.at a.room a.store.now
    room c.requires.parts_fit.roomy

pub returns-then-not-sound_part : goal.returns-then-not-sound_part
unfolding sound_parts
returns-then-not-sound_part c =
    let legal : LegalPlan c.args.p =
    legal-plan c.args.p c.requires.p_value in
    let here : c.loop-i.i < length (cuts_of c.args.p) =
    omega (arith, length-cuts c.args.p c.well_formed.1.0.1.1.1.0.1.0.1 legal.most) in
    let turn : (let a = c.args in
    let f : ℕ → Bool =
    (λ i. sound_part (width_of a.kind) a.capacity (record_at_home a.kind a.p i)
    (partition_at a.room a.store.now i)) in
    let i = c.loop-i.i in
    Turn c.sound_part.result (all f (below a.p.count)) (all f (up_from (i + 1) (a.p.count - (i + 1))))) =
    let a = c.args in
    let at = c.loop-i in
    below-turn _ a.p.count at.i c.sound_part.result c.loop-i-test.true
    (part-answer (width_of a.kind) a.capacity _ (record_at_home a.kind a.p at.i) a.store.now
    c.sound_part.result at.at a.room a.room at.i c.sound_part.ensures
    (between-home a.p at.i at.first.0 _ legal here at.invariant.starts
    (sym (cut_at a.p at.i c.loop-i-test.true)) a.kind) at.invariant.placed refl) at.invariant.rest in
    turn.fails (c.if-not-sound_part.true)

pub overflow_add-first : goal.overflow_add-first
overflow_add-first c =
    let legal : LegalPlan c.args.p =
    legal-plan c.args.p c.requires.p_value in
    let here : c.loop-i.i < length (cuts_of c.args.p) =
    omega (arith, length-cuts c.args.p c.well_formed.1.0.1.1.1.0.1.0.1 legal.most) in
    let p = c.args.p in
    let i = c.loop-i.i in
    record { fits = omega (arith, cut_most (cuts_of p) legal.covered i here, cut_at p i c.loop-i-test.true) }

pub loop-i-preserved : goal.loop-i-preserved
loop-i-preserved c =
    let legal : LegalPlan c.args.p =
    legal-plan c.args.p c.requires.p_value in
    let here : c.loop-i.i < length (cuts_of c.args.p) =
    omega (arith, length-cuts c.args.p c.well_formed.1.0.1.1.1.0.1.0.1 legal.most) in
    let turn : (let a = c.args in
    let f : ℕ → Bool =
    (λ i. sound_part (width_of a.kind) a.capacity (record_at_home a.kind a.p i)
    (partition_at a.room a.store.now i)) in
    let i = c.loop-i.i in
    Turn c.sound_part.result (all f (below a.p.count)) (all f (up_from (i + 1) (a.p.count - (i + 1))))) =
    let a = c.args in
    let at = c.loop-i in
    below-turn _ a.p.count at.i c.sound_part.result c.loop-i-test.true
    (part-answer (width_of a.kind) a.capacity _ (record_at_home a.kind a.p at.i) a.store.now
    c.sound_part.result at.at a.room a.room at.i c.sound_part.ensures
    (between-home a.p at.i at.first.0 _ legal here at.invariant.starts
    (sym (cut_at a.p at.i c.loop-i-test.true)) a.kind) at.invariant.placed refl) at.invariant.rest in
    let a = c.args in
    let at = c.loop-i in
    checked-next _ (cuts_of a.p) a.room a.p.count at.first.0 at.at at.i _ c.loop-i-test.true
    (sym (cut_at a.p at.i c.loop-i-test.true))
    (turn.goes (c.if-not-sound_part.false))
    at.invariant

pub returns : goal.returns
unfolding sound_parts
returns c =
    let a = c.args in
    below_end _ a.p.count c.loop-i.i c.loop-i-test.false c.loop-i.invariant.rest
