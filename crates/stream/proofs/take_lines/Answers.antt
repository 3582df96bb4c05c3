-- `stream::take_lines` meets its contract. The loop's invariant is `Doing`; the measure is what is left of the part.
-- Assumes nothing.
use mathlib.Core.Path.{refl, sym, ap, subst}
use Prim.Native.Nat.{◌+◌, ◌-◌}
use native.Mathlib.Omega.{arith}
use lib.ListN.{length, take, drop, length-drop}
use borrow.Author.Rules.{rules}
use Rattle.stream.proofs.Keeping.{Fits}
use Rattle.stream.proofs.Loop.{lent-rest, place-within, doing-start, doing-room, line-fits}
use Rattle.stream.proofs.Loop.{doing_step, doing_end}
use Rattle.stream.proofs.take_lines.Goals as goal

pub loop-end-init : goal.loop-end-init
loop-end-init c =
    let fits : Fits c.args.s =
    record { most = c.requires.kept_le_kept_most; long = c.well_formed.0.1.1.1.1.1.0.1.0.1 } in
    (doing-start _ _ _ _ _ fits c.requires.part_in_bounds c.place_of-end.ensures, refl, refl, refl, refl)

pub slice_bounds-keep-count : goal.slice_bounds-keep-count
slice_bounds-keep-count c = omega (arith, c.loop-end.invariant.0.place)

pub slice_bounds-keep-start : goal.slice_bounds-keep-start
slice_bounds-keep-start c = omega (arith, c.loop-end.invariant.0.place)

pub keep-whole-requires : goal.keep-whole-requires
keep-whole-requires c = c.loop-end.invariant.0.fits.most

pub end_line-taken-requires : goal.end_line-taken-requires
end_line-taken-requires c =
    let d = c.loop-end.invariant.0 in
    record {
      kept_le_kept_most = (subst Fits (sym c.keep-whole.ensures) (line-fits _ _ _ _ _ _ _ _ _ _ d c.loop-end-test.true)).most;
      refusal_room_in_bounds = doing-room _ _ _ _ _ _ _ _ _ _ d c.loop-end-test.true;
    }

pub overflow_add-from : goal.overflow_add-from
overflow_add-from c =
    omega (arith, c.loop-end-test.true, c.well_formed.1.0.0)

pub slice_bounds-place_of-count : goal.slice_bounds-place_of-count
slice_bounds-place_of-count c =
    omega (arith, c.loop-end-test.true)

pub overflow_add-end : goal.overflow_add-end
overflow_add-end c =
    let part = c.args.part.now in
    let end = c.loop-end.end in
    let left = take (length part - (end + 1)) (drop (end + 1) part) in
    omega (
      arith,
      c.loop-end-test.true,
      c.well_formed.1.0.0,
      c.place_of.ensures,
      place-within left,
      ap length (lent-rest part (end + 1)),
      length-drop (end + 1) part,
    )

pub loop-end-smaller : goal.loop-end-smaller
loop-end-smaller c =
    omega (arith, c.loop-end-test.true)

pub loop-end-preserved : goal.loop-end-preserved
loop-end-preserved c =
    let d = c.loop-end.invariant.0 in (
      doing_step _ _ _ _ _ _ _ _ _ _ d c.loop-end-test.true _ _ _ _ _ c.keep-whole.ensures c.end_line-taken.ensures
          c.place_of.ensures,
      search rules,
      search rules,
      search rules,
      search rules,
    )

pub slice_bounds-keep-count-2 : goal.slice_bounds-keep-count-2
slice_bounds-keep-count-2 c = omega (arith, c.loop-end.invariant.0.within)

pub returns : goal.returns
returns c =
    let at = c.loop-end in
    doing_end _ _ _ _ _ _ _ _ _ _ at.invariant.0 (omega arith) _ c.keep-reading.ensures
