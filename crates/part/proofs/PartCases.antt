-- Closed cases that compute, from the definitions that the promises cite: parts with room for two tuples, nine words,
-- and for two rows, eleven words. Each case is stated once, over the width, and holds of tuples and of rows.
-- In order: the parts; what the writers and the movers leave; what is sound and what is not; how often and where a
-- record stands; the records read.
-- Assumes nothing.
use mathlib.Core.Bool.{Bool, true, false}
use mathlib.Core.List.{List, [], ◌∷◌, ◌++◌, map}
use mathlib.Core.Path.{◌≡◌, refl}
use Prim.Native.Nat.{ℕ, ◌-◌}
use lib.ListN.{get_or, drop, replicate}
use lib.Dec.{ltb}
use Rattle.lists.specs.Same.{times}
use Rattle.interval.specs.Tuple.{tuple, row, tuple_width, tuple_words, same_tuple, row_width, row_words, same_row}
use Rattle.interval.specs.Tuple.{same_interval}
use Rattle.interval.specs.declared.tuple.Tuple.{Tuple}
use Rattle.interval.specs.declared.tuple.Row.{Row}
use Rattle.part.specs.Part.{room_of, counted, records_in, tuples_in, rows_in, tuple_at, row_at, sound_part}
use Rattle.part.specs.Part.{appended, copied, swapped, removed, times_of_row, place_of_tuple, place_of_row}

-- ---- parts of capacity 2: with no record, with one, with two

abbrev none : ℕ → List ℕ
none w = replicate (room_of w 2) 0

abbrev one : ℕ → List ℕ → List ℕ
one w r = 1 ∷ (r ++ replicate w 0)

abbrev two : List ℕ → List ℕ → List ℕ
two r s = 2 ∷ (r ++ s)

-- three tuples and three rows
abbrev t₁ : Tuple
t₁ = tuple 1 10 5 9

abbrev t₂ : Tuple
t₂ = tuple 2 20 1 3

abbrev t₃ : Tuple
t₃ = tuple 1 10 5 8

abbrev r₁ : Row
r₁ = row 1 10 11 5 9

abbrev r₂ : Row
r₂ = row 2 20 21 1 3

abbrev r₃ : Row
r₃ = row 1 10 12 5 9

-- their words, written out
tuple-part : two (tuple_words t₁) (tuple_words t₂) ≡ 2 ∷ (1 ∷ (10 ∷ (5 ∷ (9 ∷ (2 ∷ (20 ∷ (1 ∷ (3 ∷ []))))))))
tuple-part = refl

row-part : two (row_words r₁) (row_words r₂)
    ≡ 2 ∷ (1 ∷ (10 ∷ (11 ∷ (5 ∷ (9 ∷ (2 ∷ (20 ∷ (21 ∷ (1 ∷ (3 ∷ []))))))))))
row-part = refl

-- ---- what is computed, and what it is

Cases : {A : Type 0} → List (A × A) → Type 0
Cases cs = map (λ c. c.0) cs ≡ map (λ c. c.1) cs

-- ---- what the writers leave

writes : ℕ → List ℕ → List ℕ → List ℕ → List (List ℕ × List ℕ)
writes w a b c =
    -- one append, and another
    (appended w a (none w), one w a)
    ∷ ((appended w b (one w a), two a b)
    -- the first of two taken out, so that the last moves over it and its words become 0; the last of two; the only one
    ∷ ((removed w 0 (two a b), one w b)
    ∷ ((removed w 1 (two a b), one w a)
    ∷ ((removed w 0 (one w a), none w)
    -- the freed place used again
    ∷ ((appended w c (removed w 0 (two a b)), two b c)
    ∷ ((appended w c (removed w 1 (two a b)), two a c)
    -- a record over another, from either side, and over itself
    ∷ ((copied w 1 0 (two a b), two b b)
    ∷ ((copied w 0 1 (two a b), two a a)
    ∷ ((copied w 1 1 (two a b), two a b)
    -- two records swapped, from either side, and one with itself
    ∷ ((swapped w 0 1 (two a b), two b a)
    ∷ ((swapped w 1 0 (two a b), two b a)
    ∷ ((swapped w 0 0 (two a b), two a b)
    ∷ []))))))))))))

written : Cases (writes tuple_width (tuple_words t₁) (tuple_words t₂) (tuple_words t₃))
    × Cases (writes row_width (row_words r₁) (row_words r₂) (row_words r₃))
unfolding Cases writes counted appended copied swapped removed
written = (refl, refl)

-- ---- what is sound, where a record is legal if its label is not 0

labelled : List ℕ → Bool
labelled r = ltb 0 (get_or r 0 0)

sounds : ℕ → List ℕ → List ℕ → List (Bool × Bool)
sounds w a b =
    -- no record, one, two
    (sound_part w 2 labelled (none w), true)
    ∷ ((sound_part w 2 labelled (one w a), true)
    ∷ ((sound_part w 2 labelled (two a b), true)
    -- not sound: a count above capacity, whatever the records
    ∷ ((sound_part w 2 (λ r. true) (3 ∷ (a ++ b)), false)
    -- a last word, after the counted records, that is not 0
    ∷ ((sound_part w 2 labelled (1 ∷ (a ++ (replicate (w - 1) 0 ++ (7 ∷ [])))), false)
    -- a first, a last counted record that is not legal
    ∷ ((sound_part w 2 labelled (1 ∷ (0 ∷ (drop 1 a ++ replicate w 0))), false)
    ∷ ((sound_part w 2 labelled (2 ∷ (a ++ (0 ∷ drop 1 b))), false)
    ∷ []))))))

tuples-sound : Cases (sounds tuple_width (tuple_words t₁) (tuple_words t₂))
unfolding Cases sounds labelled counted records_in sound_part
tuples-sound = refl

rows-sound : Cases (sounds row_width (row_words r₁) (row_words r₂))
unfolding Cases sounds labelled counted records_in sound_part
rows-sound = refl

-- ---- how often and where a record stands

looks : {A : Type 0} → (A → List ℕ) → (A → List ℕ → ℕ) → (A → List ℕ → ℕ) → A → A → A → List (ℕ × ℕ)
looks words often place a b c =
    -- one that stands twice
    (often a (two (words a) (words a)), 2)
    ∷ ((place a (two (words a) (words a)), 0)
    -- one that stands once
    ∷ ((often b (two (words a) (words b)), 1)
    ∷ ((place b (two (words a) (words b)), 1)
    -- one that differs in one word from another
    ∷ ((often c (two (words a) (words b)), 0)
    ∷ ((place c (two (words a) (words b)), 2)
    -- one past the count
    ∷ ((often b (1 ∷ (words a ++ words b)), 0)
    ∷ ((place b (1 ∷ (words a ++ words b)), 1)
    ∷ [])))))))

tuples-looked : Cases (looks tuple_words (λ t part. times same_tuple t (tuples_in part)) place_of_tuple t₁ t₂ t₃)
unfolding Cases looks counted records_in tuples_in place_of_tuple same_tuple same_interval
tuples-looked = refl

rows-looked : Cases (looks row_words times_of_row place_of_row r₁ r₂ r₃)
unfolding Cases looks counted records_in rows_in times_of_row place_of_row same_row same_interval
rows-looked = refl

-- ---- record k, and the counted records in order

Read : {A : Type 0} → (A → List ℕ) → (List ℕ → List A) → (List ℕ → ℕ → A) → A → A → Type 0
Read words held at a b = (held (two (words a) (words b)) ≡ a ∷ (b ∷ [])) × (at (two (words a) (words b)) 1 ≡ b)

read : Read tuple_words tuples_in tuple_at t₁ t₂ × Read row_words rows_in row_at r₁ r₂
unfolding Read counted records_in tuples_in tuple_at rows_in row_at
read = ((refl, refl), (refl, refl))
