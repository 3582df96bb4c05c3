-- Choices by a test, and the rule for refusals: checks go down a list, the first that applies answers.
-- Their laws are in proofs/Choice.antt.
use Rattle.std.specs.Prelude.{Bool, true, false, List, [], ◌∷◌, ℕ, zero, suc}

-- a where the test holds, else b
abbrev pub pick : {A : Type 0} → Bool → A → A → A
pick true a b = a
pick false a b = b

-- one check: its refusal number where its condition holds, else 0 (document 01: 0, accepted)
abbrev pub refuse_if : Bool → ℕ → ℕ
refuse_if condition number = pick condition number 0

-- m, or n where m is 0
abbrev pub or_else : ℕ → ℕ → ℕ
or_else zero n = n
or_else (suc m) n = suc m

-- the first number of a list that is not 0, or 0: the first check that applies answers
unfoldable pub first_of : List ℕ → ℕ
first_of [] = 0
first_of (n ∷ ns) = or_else n (first_of ns)
