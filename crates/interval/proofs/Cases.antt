-- Closed cases that compute, from the definitions that the promises cite: document 01's P2 and P3, the ends of the
-- calendar, equal ends, nested and touching spans, each of checks 6, 7, 8 and 17, equality in all words, and the order
-- of a record's words. Those of labels are in the crate `label`.
-- Assumes nothing.
use mathlib.Core.Bool.{true, false}
use mathlib.Core.List.{List, [], ◌∷◌, map}
use mathlib.Core.Path.{◌≡◌, refl}
use Prim.Native.Nat.{ℕ}
use Rattle.lists.specs.Choice.{first_of}
use Rattle.label.specs.Label.{label_check}
use Rattle.interval.specs.Time.{span, overlap, durability, durable}
use Rattle.interval.specs.Tuple.{tuple, row, item_check, valid_check, tuple_number, row_number, legal_row}
use Rattle.interval.specs.Tuple.{same_interval, same_tuple, same_row, tuple_words, tuple_of, row_words, row_of}
use Rattle.interval.specs.declared.time.Interval.{Interval}
use Rattle.interval.specs.declared.tuple.Tuple.{Tuple}

-- P2: spans 1–5 and 5–9 overlap in 5–5
p2 : overlap (span 1 5) (span 5 9) ≡ span 5 5 ∷ []
unfolding overlap
p2 = refl

-- P3: 1–5 and 6–9: none
p3 : overlap (span 1 5) (span 6 9) ≡ []
unfolding overlap
p3 = refl

-- two spans and their overlap: nested, equal, with equal firsts, with equal lasts, the first and the last minute of the
-- calendar, and a span entered backward
overlaps : List (Interval × Interval × List Interval)
overlaps =
    (span 10 50, span 20 30, span 20 30 ∷ [])
    ∷ ((span 20 30, span 10 50, span 20 30 ∷ [])
    ∷ ((span 7 9, span 7 9, span 7 9 ∷ [])
    ∷ ((span 3 8, span 3 5, span 3 5 ∷ [])
    ∷ ((span 3 8, span 6 8, span 6 8 ∷ [])
    ∷ ((span 0 0, span 0 99999999, span 0 0 ∷ [])
    ∷ ((span 99999999 99999999, span 0 99999999, span 99999999 99999999 ∷ [])
    ∷ ((span 0 0, span 1 1, [])
    ∷ ((span 9 1, span 0 99999999, [])
    ∷ []))))))))

-- each of them computes
Overlaps : List (Interval × Interval × List Interval) → Type 0
Overlaps [] = Unit {0}
Overlaps (c ∷ cs) = (overlap c.0 c.1 ≡ c.2) × Overlaps cs

overlaps-hold : Overlaps overlaps
unfolding overlap overlaps Overlaps
overlaps-hold = (refl, (refl, (refl, (refl, (refl, (refl, (refl, (refl, (refl, tt)))))))))

-- a tuple of four words, and its number: legal at both ends of each range, and each check at its first illegal value;
-- the first check that applies answers. Past the calendar with both ends, and as far as words go, is 17; backward is 8,
-- also past the calendar, by its first minute alone or by both; 6 and 7 come before
checks : List (Tuple × ℕ)
checks =
    (tuple 1 0 0 0, 0)
    ∷ (tuple 217180147158 999999 99999999 99999999, 0)
    ∷ (tuple 1 0 0 99999999, 0)
    ∷ (tuple 0 0 0 0, 6)
    ∷ (tuple 217180147159 0 0 0, 6)
    ∷ (tuple 1 1000000 0 0, 7)
    ∷ (tuple 1 0 1 0, 8)
    ∷ (tuple 1 0 100000000 99999999, 8)
    ∷ (tuple 1 0 100000001 100000000, 8)
    ∷ (tuple 1 0 18446744073709551615 18446744073709551614, 8)
    ∷ (tuple 1 0 0 100000000, 17)
    ∷ (tuple 1 0 100000000 100000000, 17)
    ∷ (tuple 1 0 0 18446744073709551615, 17)
    ∷ (tuple 1 0 18446744073709551615 18446744073709551615, 17)
    ∷ (tuple 0 1000000 1 0, 6)
    ∷ (tuple 1 1000000 1 0, 7)
    ∷ (tuple 0 0 0 100000000, 6)
    ∷ (tuple 1 1000000 0 100000000, 7)
    ∷ []

checks-hold : map (λ (c : Tuple × ℕ). tuple_number c.0) checks ≡ map (λ (c : Tuple × ℕ). c.1) checks
unfolding checks first_of label_check item_check valid_check tuple_number
checks-hold = refl

-- a row is legal by its label, both numbers and its span
rows-hold :
    (legal_row 1 (row 1 999999 999999 0 99999999) ≡ true)
    × (legal_row 1 (row 0 1 1 0 0) ≡ false)
    × (legal_row 1 (row 1 1000000 1 0 0) ≡ false)
    × (legal_row 1 (row 1 1 1000000 0 0) ≡ false)
    × (legal_row 1 (row 1 1 1 1 0) ≡ false)
    × (legal_row 1 (row 1 1 1 0 100000000) ≡ false)
    × (legal_row 1 (row 1 1 1 100000001 100000000) ≡ false)
unfolding first_of label_check item_check valid_check row_number durability durable legal_row
rows-hold = (refl, refl, refl, refl, refl, refl, refl)

-- and by its minutes: a minimum one below, at and one above them; a reversed row is not legal whatever the minimum
durable-rows-hold :
    (legal_row 4 (row 1 1 1 5 9) ≡ true)
    × (legal_row 5 (row 1 1 1 5 9) ≡ true)
    × (legal_row 6 (row 1 1 1 5 9) ≡ false)
    × (legal_row 2 (row 1 1 1 5 5) ≡ false)
    × (legal_row 0 (row 1 1 1 5 4) ≡ false)
unfolding first_of label_check item_check valid_check row_number durability durable legal_row
durable-rows-hold = (refl, refl, refl, refl, refl)

-- a span, its minutes, and whether it has as many as a minimum: one minute, two, the whole calendar, the most that
-- words can say, where the sum is one more than a word holds
durables-hold :
    (durability (span 5 5) ≡ 1)
    × (durability (span 5 6) ≡ 2)
    × (durability (span 0 99999999) ≡ 100000000)
    × (durability (span 0 18446744073709551615) ≡ 18446744073709551616)
    × (durable 1 (span 5 5) ≡ true)
    × (durable 2 (span 5 5) ≡ false)
    × (durable 1440 (span 0 1439) ≡ true)
    × (durable 1440 (span 0 1438) ≡ false)
    × (durable 18446744073709551615 (span 0 18446744073709551614) ≡ true)
    × (durable 18446744073709551615 (span 1 18446744073709551614) ≡ false)
unfolding durability durable
durables-hold = (refl, refl, refl, refl, refl, refl, refl, refl, refl, refl)

-- tuples that differ in one word are not equal
same-hold :
    (same_tuple (tuple 1 2 3 4) (tuple 1 2 3 4) ≡ true)
    × (same_tuple (tuple 1 2 3 4) (tuple 2 2 3 4) ≡ false)
    × (same_tuple (tuple 1 2 3 4) (tuple 1 3 3 4) ≡ false)
    × (same_tuple (tuple 1 2 3 4) (tuple 1 2 4 4) ≡ false)
    × (same_tuple (tuple 1 2 3 4) (tuple 1 2 3 5) ≡ false)
unfolding same_interval same_tuple
same-hold = (refl, refl, refl, refl, refl)

-- so are rows that differ in one word
same-rows-hold :
    (same_row (row 1 2 3 4 5) (row 1 2 3 4 5) ≡ true)
    × (same_row (row 1 2 3 4 5) (row 2 2 3 4 5) ≡ false)
    × (same_row (row 1 2 3 4 5) (row 1 3 3 4 5) ≡ false)
    × (same_row (row 1 2 3 4 5) (row 1 2 4 4 5) ≡ false)
    × (same_row (row 1 2 3 4 5) (row 1 2 3 5 5) ≡ false)
    × (same_row (row 1 2 3 4 5) (row 1 2 3 4 6) ≡ false)
unfolding same_interval same_row
same-rows-hold = (refl, refl, refl, refl, refl, refl)

-- the words of a tuple and of a row, in document 01's order, there and back
words-hold :
    (tuple_words (tuple 38 10 30 31) ≡ 38 ∷ (10 ∷ (30 ∷ (31 ∷ []))))
    × (tuple_of (38 ∷ (10 ∷ (30 ∷ (31 ∷ [])))) ≡ tuple 38 10 30 31)
    × (row_words (row 38 10 1 30 31) ≡ 38 ∷ (10 ∷ (1 ∷ (30 ∷ (31 ∷ [])))))
    × (row_of (38 ∷ (10 ∷ (1 ∷ (30 ∷ (31 ∷ []))))) ≡ row 38 10 1 30 31)
words-hold = (refl, refl, refl, refl)
