-- Text in a lent buffer: a piece and the byte after it, a piece put at a place, every other byte kept.
-- The laws are in proofs/Writing.antt.
use Rattle.std.specs.Prelude.{List, [], ◌∷◌, ◌++◌, ◌≡◌, ℕ, ◌+◌, length, take, drop}

-- bytes and the byte after them
abbrev pub ended : List ℕ → ℕ → List ℕ
ended bytes b = bytes ++ (b ∷ [])

-- bytes in a buffer from place `at` on; every other byte is as it was
abbrev pub written : ℕ → List ℕ → List ℕ → List ℕ
written at text out = take at out ++ (text ++ drop (at + length text) out)

-- a buffer before and after bytes were put there, and the place after them
pub record Put (at : ℕ) (text out out' : List ℕ) (next : ℕ) : Type 0 where
  pub holds : out' ≡ written at text out
  pub place : next ≡ at + length text
