-- Closed cases that compute: the lines of inputs, and what is left of them. One table.
-- Assumes nothing.
use mathlib.Core.List.{List, [], ◌∷◌, map}
use mathlib.Core.Path.{◌≡◌, refl}
use Prim.Native.Nat.{ℕ}
use Prim.Native.String.{String}
use Rattle.refusal_text.proofs.Cases.{bytes}
use Rattle.stream.specs.Input.{finished_lines, unfinished, rest_after}

-- an input: its finished lines, and its unfinished rest
pub record Input : Type 0 where
  pub bytes : List ℕ
  pub lines : List (List ℕ)
  pub rest : List ℕ

abbrev input : String → List String → String → Input
input whole lines rest = record { bytes = bytes whole; lines = map bytes lines; rest = bytes rest }

-- none; an empty line; a rest; byte 13 is a byte like others; a byte 10 right after another
abbrev pub inputs : List Input
inputs =
    input "" [] ""
    ∷ (input "\n" ("" ∷ []) ""
    ∷ (input "a" [] "a"
    ∷ (input "ab\n" ("ab" ∷ []) ""
    ∷ (input "ab\nc" ("ab" ∷ []) "c"
    ∷ (input "\n\nab\n\nc" ("" ∷ ("" ∷ ("ab" ∷ ("" ∷ [])))) "c"
    ∷ (input "a\r\nb\r" ("a\r" ∷ []) "b\r"
    ∷ []))))))

pub inputs-hold : map (λ i. record { bytes = i.bytes; lines = finished_lines i.bytes; rest = unfinished i.bytes })
    inputs ≡ inputs
inputs-hold = refl

-- after kept bytes: they stay in front where the part finishes no line
pub rests-hold : map (rest_after (bytes "ab")) (map bytes ("" ∷ ("c" ∷ ("c\nd" ∷ ("\n" ∷ [])))))
    ≡ map bytes ("ab" ∷ ("abc" ∷ ("d" ∷ ("" ∷ []))))
rests-hold = refl
