-- `session_plan::lane_check` meets its contract: the check that applies answers.
-- Assumes nothing.
use Prim.Native.Nat.{◌<◌}
use native.Mathlib.Omega.{arith}
use Rattle.session_plan.specs.Lanes.{last_cut}
use Rattle.session_plan.proofs.Lanes.{last-cut, bad-ninth, bad-low, bad-early, lane-late, lane-bad, lane-good}
use Rattle.session_plan.proofs.lane_check.Goals.{then-s-gt0+else-m-before, else-s-gt0}
use Rattle.session_plan.proofs.lane_check.Goals as goal

pub returns-then-s : goal.returns-then-s
returns-then-s c =
    let a = c.args in
    lane-late a.s a.m.0 c.if-s.true

pub returns-then-s-ge-PARTITIONS : goal.returns-then-s-ge-PARTITIONS
returns-then-s-ge-PARTITIONS c =
    let a = c.args in
    lane-bad a.s a.m.0 c.if-s.false (bad-ninth a.s a.m.0 c.if-s-ge-PARTITIONS.true)

pub returns-then-m-before : goal.returns-then-m-before
returns-then-m-before c =
    let a = c.args in
    lane-bad a.s a.m.0 c.if-s.false
    (bad-low a.s a.m.0 c.if-s-gt0.true (rw (last-cut a.s) (omega (arith, c.if-m-before.true))))

pub returns-then-s-lt-BEFORE_LAST : goal.returns-then-s-lt-BEFORE_LAST
returns-then-s-lt-BEFORE_LAST c =
    let above : 0 < c.args.s.lanes → last_cut c.args.s < c.args.m.0 =
    λ h. rw (last-cut c.args.s)
    (elim c.if-s-gt0.branch [
      | then-s-gt0+else-m-before w ↦ omega (arith, w.if-m-before.false)
      | else-s-gt0 w ↦ absurd (omega (arith, w.if-s-gt0.false))
    ]) in
    let a = c.args in
    lane-good a.s a.m.0 c.if-s.false
    (record { room = omega arith; above = above; eighth = λ h. absurd (omega arith) })

pub returns-then-m-ne-CALENDAR_END : goal.returns-then-m-ne-CALENDAR_END
returns-then-m-ne-CALENDAR_END c =
    let a = c.args in
    lane-bad a.s a.m.0 c.if-s.false
    (bad-early a.s a.m.0 (omega (arith, c.if-s-lt-BEFORE_LAST.false)) c.if-m-ne-CALENDAR_END.true)

pub returns : goal.returns
returns c =
    let above : 0 < c.args.s.lanes → last_cut c.args.s < c.args.m.0 =
    λ h. rw (last-cut c.args.s)
    (elim c.if-s-gt0.branch [
      | then-s-gt0+else-m-before w ↦ omega (arith, w.if-m-before.false)
      | else-s-gt0 w ↦ absurd (omega (arith, w.if-s-gt0.false))
    ]) in
    let a = c.args in
    lane-good a.s a.m.0 c.if-s.false
    (record { room = c.if-s-ge-PARTITIONS.false; above = above; eighth = λ h. c.if-m-ne-CALENDAR_END.false })
