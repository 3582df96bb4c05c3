-- Closed cases that compute: the text of refusals. One table.
-- Assumes nothing.
use mathlib.Core.List.{List, [], ◌∷◌, map}
use mathlib.Core.Path.{◌≡◌, refl}
use Prim.Native.Nat.{ℕ}
use Prim.Native.Char.{code}
use Prim.Native.String.{String, [] as []ₛ, ◌∷◌ as ◌∷ₛ◌}
use Rattle.lines.specs.Fields.{digits_of}
use Rattle.refusal_text.specs.Refusals.{refusal_line, answer_text, last_line, next_line, line_count, refusals}
use Rattle.refusal_text.specs.Refusals.{unfinished_text}

abbrev pub bytes : String → List ℕ
bytes []ₛ = []
bytes (c ∷ₛ s) = code c ∷ bytes s

-- the first line and the last that there is; two of four lines, after 8; a rest, and none
abbrev pub texts : List (List ℕ)
texts =
    refusal_line (next_line 0) 15
    ∷ (refusal_line (next_line last_line) 2
    ∷ (refusals 8 (0 ∷ (16 ∷ (0 ∷ (11 ∷ []))))
    ∷ (unfinished_text (line_count 8 (0 ∷ (16 ∷ []))) (bytes "x") ∷ (unfinished_text 8 [] ∷ []))))

pub texts-hold : texts
    ≡ map bytes
    ("refused,1,15\n"
    ∷ ("refused,18446744073709551615,2\n"
    ∷ ("refused,10,16\nrefused,12,11\n" ∷ ("refused,11,15\n" ∷ ("" ∷ [])))))
unfolding refusal_line answer_text unfinished_text digits_of
texts-hold = refl
