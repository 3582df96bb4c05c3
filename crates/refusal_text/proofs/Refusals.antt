-- Laws of refusals. In order: the length of a refusal, of a line's answer and of the rest's refusal, at most 50 bytes;
-- lines one after the other, their count and their refusals.
-- Assumes nothing.
use mathlib.Core.Bool.{Bool, true, false}
use mathlib.Core.List.{List, [], ◌∷◌, ◌++◌, append_assoc}
use mathlib.Core.Path.{◌≡◌, refl, sym, ◌∙◌, ap}
use Prim.Native.Nat.{ℕ, ◌+◌, ◌≤◌}
use native.Mathlib.Omega.{arith}
use lib.Dec.{eqb}
use lib.ListN.{length, length-append}
use Rattle.lists.specs.Choice.{pick}
use Rattle.lines.specs.Fields.{comma, line_end, digits_of}
use Rattle.lines.specs.Line.{line_number}
use Rattle.lines.specs.declared.Line.TheVariants.{Malformed}
use Rattle.text_buffer.specs.Buffer.{ended}
use Rattle.text_buffer.proofs.Digits.{digits-twenty}
use Rattle.refusal_text.specs.Refusals.{refused_bytes, refusal_line, answer_text, refusal_room, next_line, line_count}
use Rattle.refusal_text.specs.Refusals.{refusals, unfinished_text}

-- ---- how long they are

refusal-length : (l n : ℕ) → length (refusal_line l n) ≤ refusal_room
unfolding refusal_line
refusal-length l n =
    omega (
      arith,
      length-append (ended refused_bytes comma) (ended (digits_of l) comma ++ ended (digits_of n) line_end),
      length-append (ended (digits_of l) comma) (ended (digits_of n) line_end),
      length-append (digits_of l) (comma ∷ []),
      length-append (digits_of n) (line_end ∷ []),
      digits-twenty l,
      digits-twenty n,
    )

-- so it has room where 50 bytes are left, whatever it says
pub refusal-fits : (at l n room : ℕ) → at + refusal_room ≤ room → at + length (refusal_line l n) ≤ room
refusal-fits at l n room h = omega (arith, refusal-length l n)

pub answer-length : (l n : ℕ) → length (answer_text l n) ≤ refusal_room
unfolding answer_text
answer-length l n = go (eqb n 0)
  where
    go : (b : Bool) → length (pick b [] (refusal_line l n)) ≤ refusal_room
    go true = omega arith
    go false = refusal-length l n

pub unfinished-length : (n : ℕ) (u : List ℕ) → length (unfinished_text n u) ≤ refusal_room
unfolding unfinished_text
unfinished-length n [] = omega arith
unfinished-length n (b ∷ u) = refusal-length (next_line n) (line_number Malformed)

-- ---- lines one after the other

pub count-append : (n : ℕ) (ks ls : List ℕ) → line_count n (ks ++ ls) ≡ line_count (line_count n ks) ls
count-append n [] ls = refl
count-append n (k ∷ ks) ls = count-append (next_line n) ks ls

pub refusals-append : (n : ℕ) (ks ls : List ℕ) → refusals n (ks ++ ls) ≡ refusals n ks ++ refusals (line_count n ks) ls
refusals-append n [] ls = refl
refusals-append n (k ∷ ks) ls =
    ap (λ (t : List ℕ). answer_text (next_line n) k ++ t) (refusals-append (next_line n) ks ls)
    ∙ sym (append_assoc (answer_text (next_line n) k) (refusals (next_line n) ks) _)
