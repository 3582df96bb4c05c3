-- `report::report_number` meets its contract: the checks of plan and store, then that of the buffer.
-- Assumes nothing.
use mathlib.Core.Path.{◌≡◌, sym}
use native.Mathlib.Omega.{arith}
use Rattle.std.proofs.Common.{rules}
use Rattle.refusal.proofs.Answering.{refused-here}
use Rattle.checks.specs.Stores.{rows_number}
use Rattle.checks.proofs.Checks.{sound-store}
use Rattle.report.specs.Report.{report_number}
use Rattle.report.proofs.Bounds.{rows-most}
use Rattle.report.proofs.Reports.{refuses-buffer, passes}
use Rattle.report.proofs.report_number.Goals as goal

pub returns-in_err-rows_number : goal.returns-in_err-rows_number
unfolding report_number
returns-in_err-rows_number c = refused-here c.in_err-rows_number.field-0.0 _ (search rules) c.in_err-rows_number.ensures

pub count_rows-requires : goal.count_rows-requires
count_rows-requires c =
    let none : (let a = c.args in rows_number a.p a.rows.now ≡ 0) =
    sym c.in_ok-rows_number.ensures in
    sound-store _ _ none

pub overflow_mul-count_rows : goal.overflow_mul-count_rows
overflow_mul-count_rows c =
    let none : (let a = c.args in rows_number a.p a.rows.now ≡ 0) =
    sym c.in_ok-rows_number.ensures in
    omega (arith, c.count_rows.ensures, rows-most _ _ (sound-store _ _ none))

pub overflow_add-count_rows : goal.overflow_add-count_rows
overflow_add-count_rows c =
    let none : (let a = c.args in rows_number a.p a.rows.now ≡ 0) =
    sym c.in_ok-rows_number.ensures in
    omega (arith, c.count_rows.ensures, rows-most _ _ (sound-store _ _ none))

pub returns-then-room-count_rows : goal.returns-then-room-count_rows
returns-then-room-count_rows c =
    let none : (let a = c.args in rows_number a.p a.rows.now ≡ 0) =
    sym c.in_ok-rows_number.ensures in
    let a = c.args in
    refuses-buffer a.p a.rows.now a.room none
    (rw c.count_rows.ensures at c.if-room-count_rows.true)

pub returns : goal.returns
returns c =
    let none : (let a = c.args in rows_number a.p a.rows.now ≡ 0) =
    sym c.in_ok-rows_number.ensures in
    let a = c.args in
    passes a.p a.rows.now a.room none
    (rw c.count_rows.ensures at c.if-room-count_rows.false)
