-- `stream::end_line` meets its contract.
-- Assumes nothing.
use mathlib.Core.List.{List}
use mathlib.Core.Path.{◌≡◌, refl, sym, ◌∙◌, ap₂, subst}
use Prim.Native.Nat.{ℕ}
use native.Mathlib.Omega.{arith}
use lib.Seq.{length-take-le}
use Rattle.std.specs.Prelude.{Ok, Err}
use Rattle.std.specs.Result.{result_unwrap_or}
use Rattle.text_buffer.specs.Buffer.{Put}
use Rattle.refusal_text.specs.Refusals.{answer_text}
use Rattle.session_plan.specs.declared.Session.{Session}
use Rattle.session.specs.Session.{Stepped, stepped_to}
use Rattle.stream.specs.Taking.{between_lines}
use Rattle.stream.proofs.Keeping.{Fits}
use Rattle.stream.proofs.end_line.Goals as goal

as-next : (at n m k l : ℕ) (out out' : List ℕ) (r : ℕ) → n ≡ m → k ≡ l → Put at (answer_text n k) out out' r
    → Put at (answer_text m l) out out' r
as-next at n m k l out out' r e f p = subst (λ (t : List ℕ). Put at t out out' r) (ap₂ answer_text e f) p

-- the session after a line
after-is : (s : Session) (r : Stepped) → result_unwrap_or r s ≡ stepped_to s r
after-is s (Ok next) = refl
after-is s (Err refusal) = refl

pub slice_bounds-line-end : goal.slice_bounds-line-end
slice_bounds-line-end c =
    let fits : Fits c.args.s =
    record { most = c.requires.kept_le_kept_most; long = c.well_formed.0.1.1.1.1.1.0.1.0.1 } in
    let f = fits in
    omega arith

pub slice_bounds-step-end : goal.slice_bounds-step-end
slice_bounds-step-end c =
    let fits : Fits c.args.s =
    record { most = c.requires.kept_le_kept_most; long = c.well_formed.0.1.1.1.1.1.0.1.0.1 } in
    let f = fits in
    sym (length-take-le c.args.s.kept c.args.s.line (omega arith))

pub returns : goal.returns
returns c =
    record {
      stepped = c.step-stepped.result;
      step = c.step-stepped.ensures;
      reading =
          c.between_lines-reading.ensures
          ∙ ap₂ between_lines (c.unwrap_or.ensures ∙ after-is c.args.s.session c.step-stepped.result)
          c.next_line-lines.ensures;
      text = as-next _ _ _ _ _ _ _ _ c.next_line-lines.ensures c.answer_number.ensures c.put_answer-bytes.ensures;
    }
