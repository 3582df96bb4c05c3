-- `text_end::finish_report` meets its contract: the words in use and the buffer after the refusal are lent to
-- `report::write`; then the refusal is put in front.
-- Assumes nothing.
use Prim.Native.Nat.{◌+◌, ◌≤◌}
use lib.ListN.{length}
use native.Mathlib.Omega.{arith}
use Rattle.std.proofs.Common.{rules}
use Rattle.session_plan.specs.Lanes.{used_rows}
use Rattle.session_plan.proofs.Words.{lent-long}
use Rattle.text_end.proofs.Endings.{ended-refused, ended-written, ended-fits}
use Rattle.text_end.proofs.finish_report.Goals as goal

pub slice_bounds-write-end-2 : goal.slice_bounds-write-end-2
slice_bounds-write-end-2 c =
    let a = c.args in
    lent-long (used_rows a.s) _ _ c.used_rows-used.ensures

pub returns-in_err-bytes : goal.returns-in_err-bytes
returns-in_err-bytes c =
    let a = c.args in
    ended-refused a.s c.used_rows-used.result a.rest.now a.rows.now a.out.now _ _ _ _
    c.used_rows-used.ensures c.plan_of-p.ensures
    c.requires c.write.ensures c.write.auto.rows c.in_err-bytes.field-0.0 c.in_err-bytes.was _ (search rules)

pub overflow_add-result : goal.overflow_add-result
overflow_add-result c =
    let a = c.args in
    let b : length a.rest.now + c.in_ok-bytes.bytes ≤ length a.out.now =
    ended-fits a.s c.used_rows-used.result a.rest.now a.rows.now a.out.now _ _ _ _
    c.used_rows-used.ensures c.plan_of-p.ensures c.requires
    c.write.ensures c.write.auto.rows c.in_ok-bytes.bytes c.in_ok-bytes.was in
    omega (arith, b, c.well_formed)

pub returns : goal.returns
returns c =
    let a = c.args in
    ended-written a.s c.used_rows-used.result a.rest.now a.rows.now a.out.now _ _ _ _
    c.used_rows-used.ensures c.plan_of-p.ensures c.requires
    c.write.ensures c.write.auto.rows c.in_ok-bytes.bytes c.in_ok-bytes.was _ _
    c.put_bytes.ensures
