-- `lines::read_number` meets its contract. The loop's invariant is `Digits`: i digits are read, and their value is n.
-- Assumes nothing.
use mathlib.Core.Logic.{inl, inr}
use Prim.Native.Nat.{◌<◌}
use native.Mathlib.Omega.{arith}
use Rattle.lines.proofs.Loops.{refused-short, refused-long, refused-lead, digits-none, digits-fit}
use Rattle.lines.proofs.Loops.{digits_low, digits-high, digits_more, digits-all}
use Rattle.lines.proofs.read_number.Goals.{then-field-eq48+else-len-gt1, else-field-eq48}
use Rattle.lines.proofs.read_number.Goals as goal

pub returns-then-len-lt1 : goal.returns-then-len-lt1
returns-then-len-lt1 c = refused-short c.args.field.now (omega arith)

pub returns-then-len-gt-MOST_DIGITS : goal.returns-then-len-gt-MOST_DIGITS
returns-then-len-gt-MOST_DIGITS c = refused-long c.args.field.now (omega arith)

pub returns-then-len-gt1 : goal.returns-then-len-gt1
returns-then-len-gt1 c = refused-lead c.args.field.now c.if-field-eq48.true (omega arith)

pub loop-b-init : goal.loop-b-init
loop-b-init c = digits-none c.args.field.now

pub returns-then-b-lt48 : goal.returns-then-b-lt48
returns-then-b-lt48 c =
    let bs = c.args.field.now in
    let at = c.loop-b in
    digits_low bs at.b-index at.n (omega arith) (omega arith) at.invariant

pub returns-then-b-gt57 : goal.returns-then-b-gt57
returns-then-b-gt57 c =
    let bs = c.args.field.now in
    let at = c.loop-b in
    digits-high bs at.b-index at.n (omega arith) (omega arith) at.invariant

pub overflow_mul-n : goal.overflow_mul-n
overflow_mul-n c =
    let few : c.loop-b.n < 10000000 =
    let bs = c.args.field.now in
    let at = c.loop-b in
    digits-fit bs at.b-index at.n (omega arith) (omega arith) at.invariant in
    omega (arith, few)

pub overflow_add-n : goal.overflow_add-n
overflow_add-n c =
    let few : c.loop-b.n < 10000000 =
    let bs = c.args.field.now in
    let at = c.loop-b in
    digits-fit bs at.b-index at.n (omega arith) (omega arith) at.invariant in
    omega (arith, few)

pub loop-b-preserved : goal.loop-b-preserved
loop-b-preserved c =
    let bs = c.args.field.now in
    let at = c.loop-b in
    digits_more bs at.b-index at.n (omega arith) (omega arith) (omega arith)
    at.invariant

pub returns : goal.returns
returns c =
    let bs = c.args.field.now in
    let at = c.loop-b in
    digits-all bs at.b-index at.n (omega arith) (omega arith)
    (elim c.if-field-eq48.branch [
      | then-field-eq48+else-len-gt1 w ↦ inl (omega (arith, w.if-len-gt1.false))
      | else-field-eq48 w ↦ inr w.if-field-eq48.false
    ])
    (omega arith) at.invariant
