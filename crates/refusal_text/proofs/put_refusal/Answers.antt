-- `refusal_text::put_refusal` meets its contract: field after field (`Left`: what is left of the line).
-- Assumes nothing.
use mathlib.Core.List.{List, [], ◌∷◌, ◌++◌, append-nil}
use mathlib.Core.Path.{◌≡◌, sym, ap}
use Prim.Native.Nat.{ℕ, ◌+◌, ◌≤◌}
use native.Mathlib.Omega.{arith}
use lib.ListN.{length, length-append}
use Rattle.lines.specs.Fields.{comma, line_end, digits_of}
use Rattle.text_buffer.specs.Buffer.{ended, Put}
use Rattle.text_buffer.proofs.Writing.{Left, left-start, left-room, left-more, left_end, left_as}
use Rattle.refusal_text.specs.Refusals.{refused_bytes, refusal_line}
use Rattle.refusal_text.proofs.put_refusal.Goals as goal

pieces : (l n : ℕ)
    → refusal_line l n
    ≡ ended refused_bytes comma ++ (ended (digits_of l) comma ++ (ended (digits_of n) line_end ++ []))
unfolding refusal_line
pieces l n =
    ap (λ (t : List ℕ). ended refused_bytes comma ++ (ended (digits_of l) comma ++ t))
    (sym (append-nil (ended (digits_of n) line_end)))

none-put : (at l n : ℕ) (out : List ℕ)
    → Left at (refusal_line l n) out at
    (ended refused_bytes comma ++ (ended (digits_of l) comma ++ (ended (digits_of n) line_end ++ []))) out
none-put at l n out =
    left_as at (refusal_line l n) out at out _ _ (pieces l n) (left-start at (refusal_line l n) out)

word-put : (at l n : ℕ) (out now : List ℕ) (next : ℕ) → at + length (refusal_line l n) ≤ length out
    → Put at (ended refused_bytes comma) out now next
    → Left at (refusal_line l n) out next (ended (digits_of l) comma ++ (ended (digits_of n) line_end ++ [])) now
word-put at l n out now next r p =
    left-more at (refusal_line l n) out r at out (ended refused_bytes comma) _ now next (none-put at l n out) p

line-put : (at l n : ℕ) (out now now' : List ℕ) (word next : ℕ) → at + length (refusal_line l n) ≤ length out
    → Put at (ended refused_bytes comma) out now word
    → Put word (ended (digits_of l) comma) now now' next
    → Left at (refusal_line l n) out next (ended (digits_of n) line_end ++ []) now'
line-put at l n out now now' word next r p q =
    left-more at (refusal_line l n) out r word now (ended (digits_of l) comma) _ now' next
    (word-put at l n out now word r p) q

-- the next field has room, whichever byte ends it
room : (from l n : ℕ) (out : List ℕ) → from + length (refusal_line l n) ≤ length out
    → (at : ℕ) (field : List ℕ) (b c : ℕ) (rest now : List ℕ)
    → Left from (refusal_line l n) out at (ended field b ++ rest) now → at + length (ended field c) ≤ length now
room from l n out r at field b c rest now left =
    omega (
      arith,
      left-room from (refusal_line l n) out r at now (ended field b) rest left,
      length-append field (b ∷ []),
      length-append field (c ∷ []),
    )

pub put_bytes-word-requires : goal.put_bytes-word-requires
put_bytes-word-requires c =
    let a = c.args in
    room a.at a.line a.number a.out.now c.requires a.at refused_bytes comma comma _ _
    (none-put a.at a.line a.number a.out.now)

pub put_number-next-requires : goal.put_number-next-requires
put_number-next-requires c =
    let a = c.args in
    room a.at a.line a.number a.out.now c.requires c.put_bytes-word.result (digits_of a.line) comma _ _ _
    (word-put a.at a.line a.number a.out.now _ _ c.requires c.put_bytes-word.ensures)

pub put_number-requires : goal.put_number-requires
put_number-requires c =
    let a = c.args in
    room a.at a.line a.number a.out.now c.requires c.put_number-next.result (digits_of a.number) line_end _ [] _
    (line-put a.at a.line a.number a.out.now _ _ _ _ c.requires c.put_bytes-word.ensures c.put_number-next.ensures)

pub returns : goal.returns
returns c =
    let a = c.args in
    left_end _ _ _ c.requires _ _
    (left-more a.at (refusal_line a.line a.number) a.out.now c.requires c.put_number-next.result _
    (ended (digits_of a.number) line_end) [] _ _
    (line-put a.at a.line a.number a.out.now _ _ _ _ c.requires c.put_bytes-word.ensures c.put_number-next.ensures)
    c.put_number.ensures)
