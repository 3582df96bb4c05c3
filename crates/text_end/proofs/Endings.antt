-- The end of the text. In order: how many bytes of an unfinished line are kept tells whether there is one; a report
-- after a refusal, in one buffer.
-- Assumes nothing.
use mathlib.Core.List.{List, [], ◌∷◌, ◌++◌, append-nil}
use mathlib.Core.Path.{◌≡◌, refl, sym, ◌∙◌, ap, subst}
use Prim.Native.Nat.{ℕ, zero, suc, ◌+◌, ◌-◌, ◌≤◌, ◌<◌, min}
use native.Mathlib.Nat.{zero-add}
use native.Mathlib.Omega.{arith}
use lib.ListN.{length, take, drop, length-drop, drop_of_length-le}
use lib.Seq.{take_all, drop_at, length-take-le, take-append_seam, drop-append_seam}
use borrow.Rule.Slice.PartMut.{mid_of, put_mid, put_same}
use Rattle.std.specs.Prelude.{Ok, Err}
use Rattle.refusal.specs.Refusal.{number, answer_number}
use Rattle.refusal.specs.declared.Refusal.{Refusal}
use Rattle.refusal.proofs.Answering.{number-above}
use Rattle.plan.specs.declared.Partitioning.{Partitioning}
use Rattle.text_buffer.specs.Buffer.{Put}
use Rattle.refusal_text.specs.Refusals.{unfinished_text}
use Rattle.report.specs.Report.{Reported, bytes_of, ReportWritten}
use Rattle.session_plan.specs.Lanes.{plan_of, used_rows}
use Rattle.session_plan.specs.declared.Session.{Session}
use Rattle.session_plan.proofs.Words.{lent-used, back-used, back-left, back-same}
use Rattle.text_end.specs.Ending.{rest_refusal, Finished, ReportEnded}

-- ---- the refusal of the bytes kept, of a line with room for some

pub rest-counted : (n kept : ℕ) (line : List ℕ) → 0 < length line
    → rest_refusal n kept ≡ unfinished_text n (take kept line)
unfolding rest_refusal unfinished_text
rest-counted n zero line h = refl
rest-counted n (suc kept) [] h = absurd (omega arith)
rest-counted n (suc kept) (b ∷ line) h = refl

-- ---- a report after a refusal, in one buffer

module _ (s : Session) (u : ℕ) (rest rows out rows₁ out₁ : List ℕ) (p : Partitioning) (w : Reported)
    (z : u ≡ min (used_rows s) (length rows)) (e : p ≡ plan_of s) (room : length rest ≤ length out)
    (h : ReportWritten p (take u rows) (mid_of (length rest) (length out - length rest) out) rows₁ out₁ w)
    (lr : length rows₁ ≡ length (take u rows)) where
  mid-is : mid_of (length rest) (length out - length rest) out ≡ drop (length rest) out
  mid-is = take_all (length out - length rest) (drop (length rest) out) (omega (arith, length-drop (length rest) out))

  put_is : put_mid (length rest) (length out - length rest) out out₁ ≡ take (length rest) out ++ out₁
  put_is =
      ap (λ (l : List ℕ). take (length rest) out ++ l)
      (ap (λ (l : List ℕ). out₁ ++ l)
      (drop_of_length-le (drop (length rest) out) {i = length out - length rest}
      (omega (arith, length-drop (length rest) out)))
      ∙ append-nil out₁)

  report-is : (out' : List ℕ) → drop (length rest) out' ≡ out₁
      → ReportWritten (plan_of s) (take (used_rows s) rows) (drop (length rest) out)
      (take (used_rows s) (rows₁ ++ drop u rows)) (drop (length rest) out') w
  report-is out' f =
      subst
      (λ (o : List ℕ).
      ReportWritten (plan_of s) (take (used_rows s) rows) (drop (length rest) out)
      (take (used_rows s) (rows₁ ++ drop u rows)) o w)
      (sym f)
      (subst
      (λ (r : List ℕ). ReportWritten (plan_of s) (take (used_rows s) rows) (drop (length rest) out) r out₁ w)
      (sym (back-used (used_rows s) u rows z rows₁ lr))
      (subst (λ (o : List ℕ). ReportWritten (plan_of s) (take (used_rows s) rows) o rows₁ out₁ w) mid-is
      (subst
      (λ (r : List ℕ).
      ReportWritten (plan_of s) r (mid_of (length rest) (length out - length rest) out) rows₁ out₁ w)
      (lent-used (used_rows s) u rows z)
      (subst
      (λ (q : Partitioning).
      ReportWritten q (take u rows) (mid_of (length rest) (length out - length rest) out) rows₁ out₁ w)
      e h))))

  pub ended-refused : (refusal : Refusal) → w ≡ Err refusal → (r : Finished) → answer_number r ≡ number refusal
      → ReportEnded s rest rows out (rows₁ ++ drop u rows) (put_mid (length rest) (length out - length rest) out out₁) r
  ended-refused refusal is (Ok bytes) e = absurd (number-above refusal (sym e))
  ended-refused refusal is (Err other) e =
      let same : answer_number w ≡ number refusal = ap answer_number is in
      let ne : answer_number w ≡ 0 → ⊥ = λ q. number-above refusal (sym same ∙ q) in
      record {
        reported = w;
        report =
            report-is _
            (ap (drop (length rest)) put_is
            ∙ drop_at (take (length rest) out) out₁ (length rest) (length-take-le (length rest) out room));
        number = e ∙ sym same;
        refused = λ _. (
          back-same u rows rows₁ (h.refused ne).0,
          (
            ap (put_mid (length rest) (length out - length rest) out) (h.refused ne).1.0
                ∙ put_same (length rest) (length out - length rest) out,
            refl,
          ),
        );
        beyond = back-left (used_rows s) u rows z rows₁ lr;
        start = λ q. absurd (number-above other q);
        bytes = λ q. absurd (number-above other q);
      }

  pub ended-written : (bytes : ℕ) → w ≡ Ok bytes → (out' : List ℕ) (k : ℕ)
      → Put 0 rest (put_mid (length rest) (length out - length rest) out out₁) out' k
      → ReportEnded s rest rows out (rows₁ ++ drop u rows) out' (Ok (length rest + bytes))
  ended-written bytes q out' k put =
      let is : out' ≡ rest ++ out₁ =
      put.holds
      ∙ ap (λ (n : ℕ). rest ++ drop n (put_mid (length rest) (length out - length rest) out out₁))
      (zero-add (length rest))
      ∙ ap (λ (l : List ℕ). rest ++ drop (length rest) l) put_is
      ∙ ap (λ (l : List ℕ). rest ++ l)
      (drop_at (take (length rest) out) out₁ (length rest) (length-take-le (length rest) out room)) in
      record {
        reported = w;
        report = report-is out' (ap (drop (length rest)) is ∙ drop-append_seam rest out₁);
        number = sym (ap answer_number q);
        refused = λ ne. absurd (ne refl);
        beyond = back-left (used_rows s) u rows z rows₁ lr;
        start = λ _. ap (take (length rest)) is ∙ take-append_seam rest out₁;
        bytes = λ _. ap (λ (n : ℕ). length rest + n) (sym (ap bytes_of q));
      }

  pub ended-fits : (bytes : ℕ) → w ≡ Ok bytes → length rest + bytes ≤ length out
  ended-fits bytes q =
      omega (
        arith,
        (h.written (ap answer_number q)).within,
        ap bytes_of q,
        ap length mid-is,
        length-drop (length rest) out,
      )
