-- The checks of `write`, one after the other, and what it leaves known where they pass; what it answers.
-- Assumes nothing.
use mathlib.Core.List.{List, []}
use mathlib.Core.Path.{◌≡◌, refl, sym, ◌∙◌}
use Prim.Native.Nat.{ℕ, ◌≤◌, ◌<◌}
use native.Mathlib.Nat.{zero-add}
use native.Mathlib.Omega.{arith}
use lib.Dec.{ltb}
use lib.ListN.{length}
use borrow.Author.Tests.{ltb-false, lt-ltb, le-ltb}
use Rattle.std.specs.Prelude.{Ok, Err}
use Rattle.lists.specs.Choice.{refuse_if}
use Rattle.lists.proofs.Choice.{first-none, refuse-none, refuse-met, refuse-passed}
use Rattle.lists.proofs.Choice.{answer-next, answer-last}
use Rattle.refusal.specs.Refusal.{number, answer_number}
use Rattle.refusal.specs.declared.Refusal.{Refusal}
use Rattle.refusal.proofs.Answering.{number-above}
use Rattle.plan.specs.declared.Partitioning.{Partitioning}
use Rattle.checks.specs.Stores.{rows_number, SoundStore}
use Rattle.checks.proofs.Checks.{sound-store}
use Rattle.text_buffer.specs.Buffer.{Put}
use Rattle.report.specs.Text.{row_count, text_of}
use Rattle.report.specs.Report.{text_room, report_number, SortedStore, Reported, ReportWritten}
use Rattle.report.proofs.Partitions.{sorted-sound}
use Rattle.report.proofs.Bounds.{row-count-sorted, text-bound}

-- ---- going down the checks

module _ (p : Partitioning) (rows : List ℕ) (room : ℕ) (s : rows_number p rows ≡ 0) where
  sound-next : (r : ℕ) → r ≡ refuse_if (ltb room (text_room (row_count p rows))) 4 → r ≡ report_number p rows room
  unfolding report_number
  sound-next r e = answer-next {n = rows_number p rows} _ refl s (answer-last e)

  pub refuses-buffer : room < text_room (row_count p rows) → 4 ≡ report_number p rows room
  refuses-buffer h =
      sound-next 4
      (sym (refuse-met (ltb room (text_room (row_count p rows))) 4 (lt-ltb room (text_room (row_count p rows)) h)))

  pub passes : text_room (row_count p rows) ≤ room → 0 ≡ report_number p rows room
  passes h =
      sound-next 0
      (sym (refuse-passed (ltb room (text_room (row_count p rows))) 4 (le-ltb room (text_room (row_count p rows)) h)))

-- ---- what passed checks leave known

pub record Passed (p : Partitioning) (rows : List ℕ) (room : ℕ) : Type 0 where
  pub store : SoundStore p rows
  pub roomy : text_room (row_count p rows) ≤ room

pub passed : (p : Partitioning) (rows : List ℕ) (room : ℕ) → report_number p rows room ≡ 0 → Passed p rows room
unfolding report_number
passed p rows room e =
    let s = first-none (rows_number p rows) _ e in
    let r = first-none (refuse_if (ltb room (text_room (row_count p rows))) 4) [] s.1 in
    record {
      store = sound-store p rows s.0;
      roomy =
          ltb-false room (text_room (row_count p rows))
          (refuse-none (ltb room (text_room (row_count p rows))) 3 r.0);
    }

-- ---- the answers

module _ (p : Partitioning) (rows out : List ℕ) where
  pub report-refused : (r : Reported) (refusal : Refusal) → answer_number r ≡ number refusal
      → number refusal ≡ report_number p rows (length out) → ReportWritten p rows out rows out r
  report-refused (Ok bytes) refusal e n = absurd (number-above refusal (sym e))
  report-refused (Err other) refusal e n = record {
    number = e ∙ n;
    refused = λ z. (refl, (refl, refl));
    store = λ z. absurd (number-above other z);
    written = λ z. absurd (number-above other z);
  }

  module _ (none : 0 ≡ report_number p rows (length out)) where
    ready : Passed p rows (length out)
    ready = passed p rows (length out) (sym none)

    pub report-store : SoundStore p rows
    report-store = ready.store

    -- after sorting: the store is sound, and the text fits
    pub report-room : (rows' : List ℕ) → SortedStore p rows rows'
        → SoundStore p rows' × (length (text_of p rows') ≤ length out)
    report-room rows' s =
        let sound = sorted-sound p rows report-store rows' s in
        (sound, omega (arith, ready.roomy, row-count-sorted p rows rows' s, text-bound p rows' sound))

    pub report-accepted : (rows' out' : List ℕ) (bytes : ℕ) → SortedStore p rows rows'
        → Put 0 (text_of p rows') out out' bytes
        → ReportWritten p rows out rows' out' (Ok bytes)
    report-accepted rows' out' bytes s w = record {
      number = none;
      refused = λ z. absurd (z refl);
      store = λ z. s;
      written = λ z. record {
        text = w.holds ∙ rw zero-add;
        size = w.place ∙ zero-add (length (text_of p rows'));
        within = omega (arith, w.place, (report-room rows' s).1);
      };
    }
