-- `text_buffer::put_number` meets its contract. The loop's invariant is `DigitsLeft`: the digits in hand are the
-- number's last. The measure is what is left of the number. Assumes nothing.
use Prim.Native.Nat.{◌-◌}
use mathlib.Core.Path.{◌≡◌}
use native.Mathlib.Omega.{arith}
use lib.ListN.{take, drop}
use Rattle.lines.specs.Fields.{digits_of}
use Rattle.text_buffer.specs.Buffer.{ended}
use Rattle.text_buffer.proofs.Digits.{digits-start, digits-room, digits_more, digits-end}
use Rattle.text_buffer.proofs.put_number.Goals as goal

pub loop-left-init : goal.loop-left-init
loop-left-init c = digits-start c.args.n c.args.after c.ranges.n.fits

pub overflow_sub-i : goal.overflow_sub-i
overflow_sub-i c =
    let a = c.args in
    digits-room a.n a.after c.loop-left.digits c.loop-left.left c.loop-left.i c.loop-left-test.true
    c.loop-left.invariant

pub bounds-digits-i : goal.bounds-digits-i
bounds-digits-i c = omega (arith, c.loop-left.invariant.within, c.loop-left.invariant.long)

pub loop-left-preserved : goal.loop-left-preserved
loop-left-preserved c =
    let a = c.args in
    digits_more a.n a.after c.loop-left.digits c.loop-left.left c.loop-left.i c.loop-left-test.true
    c.loop-left.invariant

pub slice_bounds-put_bytes-count : goal.slice_bounds-put_bytes-count
slice_bounds-put_bytes-count c = omega (arith, c.loop-left.invariant.within)

pub slice_bounds-put_bytes-start : goal.slice_bounds-put_bytes-start
slice_bounds-put_bytes-start c = omega (arith, c.loop-left.invariant.within)

pub slice_bounds-put_bytes-end : goal.slice_bounds-put_bytes-end
slice_bounds-put_bytes-end c = omega (arith, c.loop-left.invariant.long)

pub put_bytes-requires : goal.put_bytes-requires
put_bytes-requires c =
    let lent : (let at = c.loop-left in
    let a = c.args in
    take (21 - at.i) (drop at.i at.digits) ≡ ended (digits_of a.n) a.after) =
    let at = c.loop-left in
    let a = c.args in
    digits-end a.n a.after at.digits at.left at.i c.loop-left-test.false at.invariant in
    rw lent c.requires

pub shape_of-out : goal.shape_of-out
shape_of-out c = c.put_bytes.auto.out

pub returns : goal.returns
returns c =
    let lent : (let at = c.loop-left in
    let a = c.args in
    take (21 - at.i) (drop at.i at.digits) ≡ ended (digits_of a.n) a.after) =
    let at = c.loop-left in
    let a = c.args in
    digits-end a.n a.after at.digits at.left at.i c.loop-left-test.false at.invariant in
    rw lent at c.put_bytes.ensures
