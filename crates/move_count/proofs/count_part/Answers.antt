-- `move_count::count_part` meets its contract. The loop's invariant is `Counting`: the first k records are counted.
-- Assumes nothing.
use mathlib.Core.Path.{◌≡◌}
use Prim.Native.Nat.{ℕ, ◌+◌, ◌≤◌, ◌<◌}
use native.Mathlib.Omega.{arith}
use lib.ListN.{length}
use Rattle.part.specs.Part.{room_of, counted}
use Rattle.part.proofs.Parts.{room-le, room_next}
use Rattle.move_count.proofs.Counting.{home-of, counting-none, counting-home, counting_more}
use Rattle.move_count.proofs.Counting.{counting-fits, counting-all}
use Rattle.move_count.proofs.count_part.Goals as goal

-- a record that is left lies, up to where the next one starts, within the words of all
inside : (width k held : ℕ) → k < held
    → (room_of width (k + 1) ≡ room_of width k + width) × (room_of width (k + 1) ≤ room_of width held)
inside width k held left = (room_next width k, room-le width (k + 1) held (omega arith))

pub count-held-requires : goal.count-held-requires
count-held-requires c = omega (arith, c.requires.within)

pub loop-k-init : goal.loop-k-init
loop-k-init c = counting-none _ _ _ _

pub overflow_mul-last : goal.overflow_mul-last
overflow_mul-last c =
    let left : c.loop-k.k < counted c.args.part.now =
    omega (arith, c.loop-k-test.true, c.count-held.ensures) in
    omega (arith, inside c.args.width c.loop-k.k (counted c.args.part.now) left, c.requires.within)

pub offset_bounds-part-width : goal.offset_bounds-part-width
offset_bounds-part-width c =
    let left : c.loop-k.k < counted c.args.part.now =
    omega (arith, c.loop-k-test.true, c.count-held.ensures) in
    omega (arith, inside c.args.width c.loop-k.k (counted c.args.part.now) left, c.requires.within)

pub bounds-part-width : goal.bounds-part-width
bounds-part-width c =
    let left : c.loop-k.k < counted c.args.part.now =
    omega (arith, c.loop-k-test.true, c.count-held.ensures) in
    omega (arith, inside c.args.width c.loop-k.k (counted c.args.part.now) left, c.requires.within)

pub home_in-i-requires : goal.home_in-i-requires
home_in-i-requires c =
    let left : c.loop-k.k < counted c.args.part.now =
    omega (arith, c.loop-k-test.true, c.count-held.ensures) in
    record {
      cuts_value = c.requires.covered;
      m_in_bounds = home-of c.args.width _ _ _ c.requires.wide left c.requires.homes;
    }

pub offset_bounds-counts-home : goal.offset_bounds-counts-home
offset_bounds-counts-home c =
    let left : c.loop-k.k < counted c.args.part.now =
    omega (arith, c.loop-k-test.true, c.count-held.ensures) in
    let has-count : c.home_in-i.result.0 < length c.loop-k.counts =
    counting-home _ _ _ _ c.requires c.loop-k.k c.loop-k.counts c.loop-k.invariant left _
    c.home_in-i.ensures in
    omega (arith, has-count)

pub bounds-counts-home : goal.bounds-counts-home
bounds-counts-home c =
    let left : c.loop-k.k < counted c.args.part.now =
    omega (arith, c.loop-k-test.true, c.count-held.ensures) in
    let has-count : c.home_in-i.result.0 < length c.loop-k.counts =
    counting-home _ _ _ _ c.requires c.loop-k.k c.loop-k.counts c.loop-k.invariant left _
    c.home_in-i.ensures in
    has-count

pub overflow_add-counts : goal.overflow_add-counts
overflow_add-counts c =
    let left : c.loop-k.k < counted c.args.part.now =
    omega (arith, c.loop-k-test.true, c.count-held.ensures) in
    record {
      fits = counting-fits _ _ _ _ c.requires c.loop-k.k c.loop-k.counts c.loop-k.invariant
          left _ c.home_in-i.ensures;
    }

pub bounds-counts-home-in-loop-k : goal.bounds-counts-home-in-loop-k
bounds-counts-home-in-loop-k c =
    let left : c.loop-k.k < counted c.args.part.now =
    omega (arith, c.loop-k-test.true, c.count-held.ensures) in
    let has-count : c.home_in-i.result.0 < length c.loop-k.counts =
    counting-home _ _ _ _ c.requires c.loop-k.k c.loop-k.counts c.loop-k.invariant left _
    c.home_in-i.ensures in
    has-count

pub loop-k-preserved : goal.loop-k-preserved
loop-k-preserved c =
    let left : c.loop-k.k < counted c.args.part.now =
    omega (arith, c.loop-k-test.true, c.count-held.ensures) in
    counting_more _ _ _ _ c.requires c.loop-k.k c.loop-k.counts c.loop-k.invariant
    left _ c.home_in-i.ensures

pub shape_of-counts : goal.shape_of-counts
shape_of-counts c = c.loop-k.invariant.long

pub returns : goal.returns
returns c =
    let held = c.count-held.ensures in
    counting-all _ _ _ _ c.loop-k.k c.loop-k.counts (omega (arith, c.loop-k-test.false, held)) c.loop-k.invariant
