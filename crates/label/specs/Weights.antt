-- A label's number read off fixed weights (document 02, (d)): the test of a table of weights, the sum by a table, and
-- the types of the two theorems about them, which are proved in proofs/Weights.antt. What a label's number is, and what
-- its reader promises, is in specs/Label, as before.
use Rattle.std.specs.Prelude.{Bool, true, ◌&&◌, List, [], ◌∷◌, ◌≡◌, ℕ, ◌+◌, ◌*◌, ◌^◌, ◌≤◌, ◌<◌, eqb, length, get_or}
use Rattle.label.specs.Label.{label_length, rank, label_number}

-- "the first weight 1 and each other 26 times the one before", of weights whose first is to be w
abbrev pub powers_from : ℕ → List ℕ → Bool
powers_from w [] = true
powers_from w (x ∷ xs) = eqb x w && powers_from (26 * x) xs

-- "A test over the whole table": a weight for each letter of the longest label, and those are the right ones
abbrev pub right_weights : List ℕ → Bool
right_weights ws = eqb (length ws) label_length && powers_from 1 ws

-- "a table of the powers of 26 from the zeroth to the seventh": what the test shows of each place of a table
abbrev pub RightAtEach : Type 0
RightAtEach = (ws : List ℕ) → right_weights ws ≡ true → (k : ℕ) → k < label_length → get_or ws k 0 ≡ 26 ^ k

-- "with each letter's rank multiplied by its weight and summed": a letter's weight is at the place that says how many
-- letters follow it
unfoldable pub weighted : List ℕ → List ℕ → ℕ
weighted ws [] = 0
weighted ws (b ∷ bs) = rank b * get_or ws (length bs) 0 + weighted ws bs

-- "Every label's number .. the same.": for every table that passes the test the sum is the number
abbrev pub WeightedNumber : Type 0
WeightedNumber =
    (ws bs : List ℕ) → right_weights ws ≡ true → length bs ≤ label_length → weighted ws bs ≡ label_number bs
