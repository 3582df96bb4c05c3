-- Closed cases that compute, from the definitions that the promises cite: records of two words, the second of them the
-- last chronon, in a store of two partitions of five words, with room for two records each.
-- Assumes nothing.
use mathlib.Core.Bool.{true, false}
use mathlib.Core.List.{List, [], ◌∷◌, ◌++◌}
use mathlib.Core.Path.{◌≡◌, refl}
use Prim.Native.Nat.{ℕ}
use Rattle.part.specs.Part.{counted, records_in}
use Rattle.moves.specs.Moves.{same_words, last_of, stored_records, run_of, laid}

abbrev pair : ℕ → ℕ → List ℕ
pair a b = a ∷ (b ∷ [])

-- partition 0 counts two records, partition 1 one; what stands after that one is no record
abbrev store : List ℕ
store = 2 ∷ (pair 5 30 ++ (pair 6 31 ++ (1 ∷ (pair 7 40 ++ pair 8 41))))

equal_words : same_words (pair 5 30) (pair 5 30) ≡ true
equal_words = refl

other_word : same_words (pair 5 30) (pair 5 31) ≡ false
other_word = refl

more-words : same_words (pair 5 30) (5 ∷ (30 ∷ (0 ∷ []))) ≡ false
more-words = refl

last-chronon : last_of 2 (pair 7 40) ≡ 40
last-chronon = refl

-- the counted records, in store order
stored : stored_records 2 5 2 store ≡ pair 5 30 ∷ (pair 6 31 ∷ (pair 7 40 ∷ []))
unfolding stored_records records_in counted
stored = refl

-- a run goes over the count words: its record 0 starts at word 1, its record 2 where the second count word stands
whole_run : run_of 2 0 3 store ≡ pair 5 30 ∷ (pair 6 31 ∷ (pair 1 7 ∷ []))
unfolding run_of
whole_run = refl

part-of-run : run_of 2 1 2 store ≡ pair 6 31 ∷ []
unfolding run_of
part-of-run = refl

empty-run : run_of 2 2 2 store ≡ []
unfolding run_of
empty-run = refl

-- a partition laid down: the count, the records' words, zeros
laid_one : laid 2 5 1 (pair 7 40) ≡ 1 ∷ (pair 7 40 ++ pair 0 0)
unfolding laid
laid_one = refl

laid_none : laid 2 5 0 [] ≡ 0 ∷ (pair 0 0 ++ pair 0 0)
unfolding laid
laid_none = refl
