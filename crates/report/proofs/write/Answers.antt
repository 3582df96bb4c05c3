-- `report::write` meets its contract: the checks, the lanes sorted, the text put.
-- Assumes nothing.
use Rattle.std.proofs.Common.{rules}
use Rattle.report.proofs.Reports.{report-refused, report-store, report-room, report-accepted}
use Rattle.report.proofs.write.Goals as goal

pub returns-in_err-report_number : goal.returns-in_err-report_number
returns-in_err-report_number c =
    let a = c.args in
    report-refused a.p a.rows.now a.out.now c.from_residual.result c.in_err-report_number.field-0.0 (search rules)
    c.in_err-report_number.ensures

pub sort_all-requires : goal.sort_all-requires
sort_all-requires c =
    let a = c.args in
    report-store a.p a.rows.now a.out.now c.in_ok-report_number.ensures

pub put_report-requires : goal.put_report-requires
put_report-requires c =
    let asked =
    let a = c.args in
    report-room a.p a.rows.now a.out.now c.in_ok-report_number.ensures _ c.sort_all.ensures in
    record {
      sound_store = asked.0;
      rows_in_bounds = asked.1;
    }

pub returns : goal.returns
returns c =
    let a = c.args in
    report-accepted a.p a.rows.now a.out.now c.in_ok-report_number.ensures _ _ _ c.sort_all.ensures c.put_report.ensures
