-- `text_end::put_rest` meets its contract: nothing where no byte is kept, else the refusal.
-- Assumes nothing.
use mathlib.Core.List.{List}
use mathlib.Core.Path.{◌≡◌, refl, ap₂, subst}
use Prim.Native.Nat.{ℕ, zero, suc}
use Rattle.lines.specs.Line.{line_number}
use Rattle.lines.specs.declared.Line.TheVariants.{Malformed}
use Rattle.text_buffer.specs.Buffer.{Put}
use Rattle.text_buffer.proofs.Writing.{put-none}
use Rattle.refusal_text.specs.Refusals.{refusal_line, next_line}
use Rattle.refusal_text.proofs.Refusals.{refusal-fits}
use Rattle.text_end.specs.Ending.{rest_refusal}
use Rattle.text_end.proofs.put_rest.Goals as goal

none : (n kept : ℕ) (out : List ℕ) → kept ≡ 0 → Put 0 (rest_refusal n kept) out out 0
unfolding rest_refusal
none n kept out e = rw e (put-none 0 out)

some : (n kept line number : ℕ) (out out' : List ℕ) (r : ℕ) → (kept ≡ 0 → ⊥) → line ≡ next_line n
    → number ≡ line_number Malformed → Put 0 (refusal_line line number) out out' r
    → Put 0 (rest_refusal n kept) out out' r
unfolding rest_refusal
some n zero line number out out' r ne e f p = absurd (ne refl)
some n (suc kept) line number out out' r ne e f p =
    subst (λ (t : List ℕ). Put 0 t out out' r) (ap₂ refusal_line e f) p

pub returns-then-kept-eq0 : goal.returns-then-kept-eq0
returns-then-kept-eq0 c = none _ _ _ c.if-kept-eq0.true

pub put_refusal-requires : goal.put_refusal-requires
put_refusal-requires c = refusal-fits 0 _ _ _ c.requires

pub returns : goal.returns
returns c = some _ _ _ _ _ _ _ c.if-kept-eq0.false c.next_line-line.ensures c.into.ensures c.put_refusal.ensures
