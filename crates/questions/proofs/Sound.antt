-- The answers from a sound rows store, put together from what the functions that answer_sound calls say: the questions
-- are cleared, and their window gives the scan.
-- Assumes nothing.
use mathlib.Core.Bool.{true}
use mathlib.Core.List.{List, map}
use mathlib.Core.Path.{◌≡◌, sym, ap, subst, ◌∙◌}
use Prim.Native.Nat.{ℕ}
use lib.ListN.{length}
use Rattle.interval.specs.declared.time.Interval.{Interval}
use Rattle.plan.specs.Plan.{plan_number}
use Rattle.plan.specs.declared.Partitioning.{Partitioning}
use Rattle.store.specs.Store.{stored_rows}
use Rattle.checks.specs.Stores.{rows_number}
use Rattle.checks.proofs.Checks.{sound-store}
use Rattle.cursor.specs.Cursor.{chosen, scanned, Scannable}
use Rattle.cursor.specs.declared.Scan.{Scan}
use Rattle.question.specs.Question.{with_answer, answered, rows_read}
use Rattle.question.specs.Steps.{room_for, after_rows, window_of, scan_of}
use Rattle.question.specs.declared.Question.{Question}
use Rattle.question.proofs.Answers.{scannable, room, answers, read}

-- the plan is legal
pub legal-plan : (p : Partitioning) (rows : List ℕ) → rows_number p rows ≡ 0 → plan_number p ≡ 0
legal-plan p rows e = (sound-store p rows e).legal

-- the scan of the questions' window
pub window-scan : (p : Partitioning) (qs : List Question) (v : Interval) → v ≡ window_of qs
    → (s : Scan) → s ≡ scan_of p v → s ≡ scan_of p (window_of qs)
window-scan p qs v e s f = f ∙ ap (scan_of p) e

module _ (p : Partitioning) (rows : List ℕ) (known : rows_number p rows ≡ 0) (qs : List Question) (s : Scan)
    (e : s ≡ scan_of p (window_of qs)) where
  -- the store can be scanned
  pub scan-able : Scannable s rows
  scan-able = subst (λ (t : Scan). Scannable t rows) (sym e) (scannable p rows known qs)

  -- so many rows are read
  pub scan-read : (n : ℕ) → n ≡ length (scanned s rows) → n ≡ rows_read p rows qs
  scan-read n h = h ∙ ap (λ (t : Scan). length (scanned t rows)) e ∙ read p rows known qs

  module _ (ys : List Question) (f : ys ≡ map (with_answer 0) qs) where
    -- the cleared questions have room for the rows
    pub scan-room : room_for (length (chosen s rows)) ys ≡ true
    scan-room =
        ap (λ (t : Scan). room_for (length (chosen t rows)) ys) e
        ∙ ap (room_for (length (chosen (scan_of p (window_of qs)) rows))) f ∙ room p rows known qs

    -- and after them their answers
    pub scan-answers : (zs : List Question) → zs ≡ after_rows (chosen s rows) ys
        → zs ≡ map (answered (stored_rows p rows)) qs
    scan-answers zs h =
        h ∙ ap (λ (t : Scan). after_rows (chosen t rows) ys) e
        ∙ ap (after_rows (chosen (scan_of p (window_of qs)) rows)) f ∙ answers p rows known qs
