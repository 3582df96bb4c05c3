-- `refusal_text::put_answer` meets its contract: nothing for an accepted line, else its refusal.
-- Assumes nothing.
use mathlib.Core.List.{List, []}
use mathlib.Core.Path.{◌≡◌, sym, subst}
use Prim.Native.Nat.{ℕ}
use lib.Dec.{eqb}
use borrow.Author.Tests.{eq-eqb, ne_eqb}
use Rattle.lists.proofs.Choice.{pick_true, pick-false}
use Rattle.text_buffer.specs.Buffer.{Put}
use Rattle.text_buffer.proofs.Writing.{put-none}
use Rattle.refusal_text.specs.Refusals.{refusal_line, answer_text}
use Rattle.refusal_text.proofs.Refusals.{refusal-fits}
use Rattle.refusal_text.proofs.put_answer.Goals as goal

none : (at line number : ℕ) (out : List ℕ) → number ≡ 0 → Put at (answer_text line number) out out at
unfolding answer_text
none at line number out e =
    subst (λ (t : List ℕ). Put at t out out at)
    (sym (pick_true (eqb number 0) [] (refusal_line line number) (eq-eqb number 0 e)))
    (put-none at out)

some : (at line number : ℕ) (out out' : List ℕ) (r : ℕ) → (number ≡ 0 → ⊥) → Put at (refusal_line line number) out out' r
    → Put at (answer_text line number) out out' r
unfolding answer_text
some at line number out out' r e p =
    subst (λ (t : List ℕ). Put at t out out' r)
    (sym (pick-false (eqb number 0) [] (refusal_line line number) (ne_eqb number 0 e)))
    p

pub returns-then-number-eq0 : goal.returns-then-number-eq0
returns-then-number-eq0 c = none _ _ _ _ c.if-number-eq0.true

pub put_refusal-requires : goal.put_refusal-requires
put_refusal-requires c = refusal-fits _ _ _ _ c.requires

pub returns : goal.returns
returns c = some _ _ _ _ _ _ c.if-number-eq0.false c.put_refusal.ensures
