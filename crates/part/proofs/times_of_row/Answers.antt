-- `part::times_of_row` meets its contract. The loop's invariant is `Tallied`: k rows are seen, and `times`
-- of them equal the row. Assumes nothing.
use mathlib.Core.Path.{sym, ◌∙◌}
use Prim.Native.Nat.{◌<◌}
use native.Mathlib.Omega.{arith}
use Rattle.interval.specs.Tuple.{same_row}
use Rattle.part.specs.Part.{counted, rows_in, times_of_row}
use Rattle.part.proofs.Parts.{length-rows, row_in}
use Rattle.part.proofs.Loops.{TallyTurn, tallied-none, tallied-turn, tallied-most, tallied-all}
use Rattle.part.proofs.times_of_row.Goals.{then-same_row, else-same_row}
use Rattle.part.proofs.times_of_row.Goals as goal

pub loop-k-init : goal.loop-k-init
loop-k-init c = tallied-none _ _

pub record_at-requires : goal.record_at-requires
unfolding counted
record_at-requires c = omega arith

pub overflow_add-equal_rows : goal.overflow_add-equal_rows
unfolding counted
overflow_add-equal_rows c =
    let turn : (let args = c.args in
    let at = c.loop-k in
    TallyTurn (same_row args.row) (rows_in args.part.now) at.k at.equal_rows c.same_row.result) =
    let part = c.args.part.now in
    let at = c.loop-k in
    let x = c.record_at.result in
    let h : at.k < counted part = c.loop-k-test.true in
    tallied-turn _ _ at.k at.equal_rows x c.same_row.result (omega (arith, length-rows part))
    (row_in at.k part x h ∙ sym c.record_at.ensures) c.same_row.ensures at.invariant in
    let most = tallied-most _ _ _ _ (turn.more c.if-same_row.true) in
    omega (arith, most, length-rows c.args.part.now)

pub loop-k-preserved : goal.loop-k-preserved
unfolding counted
loop-k-preserved c =
    let turn : (let args = c.args in
    let at = c.loop-k in
    TallyTurn (same_row args.row) (rows_in args.part.now) at.k at.equal_rows c.same_row.result) =
    let part = c.args.part.now in
    let at = c.loop-k in
    let x = c.record_at.result in
    let h : at.k < counted part = c.loop-k-test.true in
    tallied-turn _ _ at.k at.equal_rows x c.same_row.result (omega (arith, length-rows part))
    (row_in at.k part x h ∙ sym c.record_at.ensures) c.same_row.ensures at.invariant in
    let next = turn in
    (elim c.if-same_row.branch [ then-same_row w ↦ rw w.equal_rows-is (next.more w.if-same_row.true) | else-same_row w ↦ rw w.equal_rows-is (next.same w.if-same_row.false) ])

pub returns : goal.returns
unfolding counted times_of_row
returns c =
    let at = c.loop-k in
    let seen = length-rows c.args.part.now in
    tallied-all _ _ at.k at.equal_rows (omega arith) at.invariant
