-- The end of the input: what `finish` answers, and that the text which it tells of lies within the buffer.
-- Assumes nothing.
use mathlib.Core.Bool.{true, false, true≢false, false≢true}
use mathlib.Core.List.{List, [], ◌∷◌, ◌++◌}
use mathlib.Core.Logic.{⊎_elim}
use mathlib.Core.Path.{◌≡◌, refl, sym, ◌∙◌, ap, ap₂, subst}
use Prim.Native.Nat.{ℕ, zero, suc, ◌+◌, ◌-◌, ◌≤◌, ◌<◌}
use native.Mathlib.Nat.{zero-add}
use native.Mathlib.Omega.{arith}
use lib.Dec.{eqb}
use lib.ListN.{length, take, drop, length-drop, length-take, length-append}
use lib.Seq.{take-append_seam}
use borrow.Author.Tests.{lt-ltb, le-ltb, eqb-true, eqb-false}
use Rattle.std.specs.Prelude.{Ok, Err}
use Rattle.lists.specs.Choice.{first_of}
use Rattle.lists.proofs.Choice.{bool_cases}
use Rattle.refusal.specs.Refusal.{answer_number}
use Rattle.refusal.specs.declared.Refusal.TheVariants.{Length}
use Rattle.text_buffer.specs.Buffer.{Put}
use Rattle.report.specs.Text.{count_line}
use Rattle.report.specs.Report.{report_number, bytes_of}
use Rattle.session_plan.specs.Lanes.{plan_of, used_rows}
use Rattle.text_end.specs.Ending.{Finished, ReportEnded}
use Rattle.stream.specs.Finishing.{rest_text, finish_room, finish_number, FinishedBy}
use Rattle.stream.specs.declared.Reading.{Reading}

-- ---- what `finish` answers

pub finish-short : (s : Reading) (rows out : List ℕ) → length out < finish_room
    → FinishedBy s rows out rows out (Err Length)
unfolding finish_number first_of
finish-short s rows out h = record {
  number = rw (lt-ltb (length out) finish_room h);
  refused = λ ne. (refl, (refl, refl));
  complete = λ q. absurd (omega arith);
  incomplete = λ q. absurd (omega arith);
}

-- the refusal, as it was put at the start of bytes
pub rest-taken : (t out out' : List ℕ) (n : ℕ) → Put 0 t out out' n → take n out' ≡ t
rest-taken t out out' n p =
    ap₂ take (p.place ∙ zero-add (length t)) p.holds ∙ take-append_seam t _

pub rest-within : (t out out' : List ℕ) (n : ℕ) → Put 0 t out out' n → n ≤ length out'
rest-within t out out' n p =
    omega (arith, p.place, ap length p.holds, length-append t (drop (0 + length t) out))

first-second : (n : ℕ) → n ≡ first_of (0 ∷ (n ∷ []))
unfolding first_of
first-second zero = refl
first-second (suc n) = refl

module _ (s : Reading) (rows out : List ℕ) (room : finish_room ≤ length out) (t : List ℕ) (e : t ≡ rest_text s) where
  number-with : s.session.complete ≡ true
      → report_number (plan_of s.session) (take (used_rows s.session) rows) (length (drop (length t) out))
      ≡ finish_number s rows (length out)
  unfolding finish_number
  number-with c =
      ap (report_number (plan_of s.session) (take (used_rows s.session) rows))
      (length-drop (length t) out ∙ ap (λ (l : List ℕ). length out - length l) e)
      ∙ first-second _
      ∙ rw (le-ltb (length out) finish_room room, c) refl

  pub finish_with : s.session.complete ≡ true → (rows' out' : List ℕ) (r : Finished)
      → ReportEnded s.session t rows out rows' out' r → FinishedBy s rows out rows' out' r
  finish_with c rows' out' r d = record {
    number = d.number ∙ d.report.number ∙ number-with c;
    refused = d.refused;
    complete = λ q k.
        let d' = subst (λ (l : List ℕ). ReportEnded s.session l rows out rows' out' r) e d in
        record {
          reported = d'.reported;
          number = sym d'.number ∙ q;
          report = d'.report;
          beyond = d'.beyond;
          rest = d'.start q;
          bytes = d'.bytes q;
        };
    incomplete = λ q k. absurd (true≢false (sym c ∙ k));
  }

  pub finish-without : s.session.complete ≡ false → (out' : List ℕ) (k : ℕ) → Put 0 (t ++ count_line 0) out out' k
      → FinishedBy s rows out rows out' (Ok k)
  unfolding finish_number
  finish-without c out' k p =
      let q = subst (λ (l : List ℕ). Put 0 (l ++ count_line 0) out out' k) e p in
      record {
        number = first-second 0 ∙ rw (le-ltb (length out) finish_room room, c) refl;
        refused = λ ne. absurd (ne refl);
        complete = λ z d. absurd (false≢true (sym c ∙ d));
        incomplete = λ z d. record {
          store = refl;
          text =
              q.holds
              ∙ ap (λ (n : ℕ). (rest_text s ++ count_line 0) ++ drop n out)
              (zero-add (length (rest_text s ++ count_line 0)));
          bytes = q.place ∙ zero-add (length (rest_text s ++ count_line 0));
        };
      }

-- ---- the text's bytes are the buffer's first ones

pub finished-within : (s : Reading) (rows out rows' out' : List ℕ) (r : Finished) → length out' ≡ length out
    → FinishedBy s rows out rows' out' r → bytes_of r ≤ length out'
finished-within s rows out rows' out' r l f = ⊎_elim zero more (bool_cases (eqb (answer_number r) 0))
  where
    zero : eqb (answer_number r) 0 ≡ true → bytes_of r ≤ length out'
    zero e = ⊎_elim with-report without (bool_cases s.session.complete)
      where
        z : answer_number r ≡ 0
        z = eqb-true (answer_number r) 0 e

        with-report : s.session.complete ≡ true → bytes_of r ≤ length out'
        with-report c =
            let d = f.complete z c in
            let n = length (rest_text s) in
            omega (
              arith,
              d.bytes,
              (d.report.written d.number).within,
              length-drop n out,
              ap length d.rest,
              length-take n out',
            )

        without : s.session.complete ≡ false → bytes_of r ≤ length out'
        without c =
            let d = f.incomplete z c in
            let t = rest_text s ++ count_line 0 in
            omega (arith, d.bytes, ap length d.text, length-append t (drop (length t) out))

    more : eqb (answer_number r) 0 ≡ false → bytes_of r ≤ length out'
    more e = let q = f.refused (eqb-false (answer_number r) 0 e) in omega (arith, q.1.1)
