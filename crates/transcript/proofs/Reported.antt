-- The report of a session's wall is never refused: at most 8 lanes of 64 rows.
-- Assumes nothing.
use mathlib.Core.Bool.{true}
use mathlib.Core.List.{List}
use mathlib.Core.Path.{◌≡◌, sym}
use Prim.Native.Nat.{ℕ, ◌*◌, ◌≤◌}
use native.Mathlib.Omega.{arith}
use Rattle.interval.specs.Tuple.{row_width, row_of}
use Rattle.plan.specs.declared.Partitioning.{Partitioning}
use Rattle.part.specs.Part.{counted}
use Rattle.part.proofs.Parts.{sound-count}
use Rattle.store.specs.Store.{row_part, row_at_home, sound_row_part, sound_rows}
use Rattle.store.proofs.Stores.{sound-rows-at}
use Rattle.checks.specs.Stores.{Stores}
use Rattle.checks.proofs.Checks.{store-sound}
use Rattle.history.specs.Machine.{Machine}
use Rattle.history.proofs.Kept.{Kept}
use Rattle.report.specs.Text.{row_count}
use Rattle.report.specs.Report.{text_room, report_number}
use Rattle.report.proofs.Bounds.{total-most, row-count}
use Rattle.report.proofs.Reports.{passes}
use Rattle.session_plan.specs.Lanes.{wall_rows_most, plan_of}
use Rattle.session_plan.specs.declared.Session.{Session}
use Rattle.session_plan.proofs.Plans.{Good}
use Rattle.session.specs.Session.{wall_of}

-- a sound store holds at most the plan's rows in each of its lanes
rows-within : (p : Partitioning) (rows : List ℕ) → sound_rows p rows ≡ true → row_count p rows ≤ p.count * p.rows
unfolding sound_row_part
rows-within p rows s =
    omega (
      arith,
      row-count p rows,
      total-most (λ i. counted (row_part p rows i)) p.rows 0 p.count (λ i l.
          sound-count row_width p.rows (λ ws. row_at_home p i (row_of ws)) (row_part p rows i)
          (sound-rows-at p rows s i (omega arith))),
    )

pub report-accepted : (m : Machine) (s : Session) (S : Stores) → Good s → Kept m (plan_of s) (wall_of s S)
    → (room : ℕ) → text_room wall_rows_most ≤ room → report_number (plan_of s) (wall_of s S).rows room ≡ 0
report-accepted m s S g k room h =
    sym
    (passes (plan_of s) (wall_of s S).rows room
    (store-sound (plan_of s) (wall_of s S).rows
    (record { legal = k.legal; long = k.rows.long; sound = k.rows.sound }))
    (omega (arith, rows-within (plan_of s) (wall_of s S).rows k.rows.sound, g.most)))
