-- Closed cases that compute, from the definitions that the promises cite: document 01's P5, the largest label and one
-- more, document 02's small letters, what is no label field, check 6, and document 02's table of weights.
-- Assumes nothing.
use mathlib.Core.Bool.{Bool, true, false}
use mathlib.Core.List.{List, [], ◌∷◌, map}
use mathlib.Core.Path.{◌≡◌, refl}
use Prim.Native.Nat.{ℕ}
use lib.ListN.{replicate}
use Rattle.label.specs.Label.{rank, is_letter, is_label, label_number, capital, capitals, is_label_field}
use Rattle.label.specs.Label.{field_label_number, number_or_none, label_check, letters_of}
use Rattle.label.specs.Weights.{right_weights, weighted}

-- P5: A = 1, Z = 26, AA = 27, AL = 38, ZZZZZZZZ = 217,180,147,158; and the last with three letters and the first with
-- four
labels : List (List ℕ × ℕ)
labels =
    (65 ∷ [], 1)
    ∷ ((90 ∷ [], 26)
    ∷ ((65 ∷ (65 ∷ []), 27)
    ∷ ((65 ∷ (76 ∷ []), 38)
    ∷ ((90 ∷ (90 ∷ (90 ∷ [])), 18278)
    ∷ ((65 ∷ (65 ∷ (65 ∷ (65 ∷ []))), 18279)
    ∷ ((90 ∷ (90 ∷ (90 ∷ (90 ∷ (90 ∷ (90 ∷ (90 ∷ (90 ∷ []))))))), 217180147158)
    ∷ []))))))

-- each is a label, has that number, and is that number's letters
Labels : List (List ℕ × ℕ) → Type 0
Labels [] = Unit {0}
Labels (c ∷ cs) = (number_or_none c.0 ≡ c.1) × (letters_of c.1 ≡ c.0) × Labels cs

labels-hold : Labels labels
unfolding labels Labels rank is_letter is_label label_number capital capitals is_label_field field_label_number number_or_none
    letters_of
labels-hold =
    (refl, refl, (refl, refl, (refl, refl, (refl, refl, (refl, refl, (refl, refl, (refl, refl, tt)))))))

-- document 02, (a): fields with small letters, and the labels that they stand for: a, z, eight small letters, mixed
-- cases of AL, and the letters next to the ends of the alphabet
fields : List (List ℕ × List ℕ)
fields =
    (97 ∷ [], 65 ∷ [])
    ∷ ((122 ∷ [], 90 ∷ [])
    ∷ ((replicate 8 122, replicate 8 90)
    ∷ ((97 ∷ (108 ∷ []), 65 ∷ (76 ∷ []))
    ∷ ((65 ∷ (108 ∷ []), 65 ∷ (76 ∷ []))
    ∷ ((97 ∷ (76 ∷ []), 65 ∷ (76 ∷ []))
    ∷ ((98 ∷ (121 ∷ []), 66 ∷ (89 ∷ []))
    ∷ []))))))

-- each has the number of its label, and what is printed is the label, in capitals; none is a label itself
fields-hold :
    (map (λ (c : List ℕ × List ℕ). number_or_none c.0) fields
    ≡ map (λ (c : List ℕ × List ℕ). label_number c.1) fields)
    × (map (λ (c : List ℕ × List ℕ). letters_of (number_or_none c.0)) fields
    ≡ map (λ (c : List ℕ × List ℕ). c.1) fields)
    × (map (λ (c : List ℕ × List ℕ). is_label c.0) fields ≡ map (λ (c : List ℕ × List ℕ). false) fields)
unfolding fields rank is_letter is_label label_number capital capitals is_label_field field_label_number number_or_none letters_of
fields-hold = (refl, refl, refl)

-- no label field: no letter, nine letters, capital and small, the bytes before A and after Z, before a and after z,
-- alone and after a letter, a digit, a byte above 127
no-labels : List (List ℕ)
no-labels =
    []
    ∷ (replicate 9 65
    ∷ (replicate 9 97
    ∷ ((64 ∷ [])
    ∷ ((91 ∷ [])
    ∷ ((96 ∷ [])
    ∷ ((123 ∷ [])
    ∷ ((97 ∷ (64 ∷ []))
    ∷ ((97 ∷ (91 ∷ []))
    ∷ ((97 ∷ (96 ∷ []))
    ∷ ((97 ∷ (123 ∷ []))
    ∷ ((97 ∷ (49 ∷ []))
    ∷ ((195 ∷ (132 ∷ []))
    ∷ []))))))))))))

no-labels-hold : map is_label_field no-labels ≡ map (λ (c : List ℕ). false) no-labels
unfolding no-labels rank is_letter is_label capital capitals is_label_field
no-labels-hold = refl

-- one more than the largest label's number, and 0: no letters
past-labels : (letters_of 217180147159 ≡ []) × (letters_of 0 ≡ [])
unfolding letters_of
past-labels = (refl, refl)

-- check 6 applies to these two, and to no label's number
check-6 : (label_check 217180147159 ≡ 6) × (label_check 0 ≡ 6) × (label_check 1 ≡ 0) × (label_check 217180147158 ≡ 0)
unfolding label_check
check-6 = (refl, refl, refl, refl)

-- document 02, (d): the powers of 26 pass the test of a table. These do not: a weight too few, one too many, one off by
-- one at the front, within and at the end, two exchanged, the powers from the last, those from the first power on, and
-- zeros, of which each is 26 times the one before
powers : List ℕ
powers = 1 ∷ 26 ∷ 676 ∷ 17576 ∷ 456976 ∷ 11881376 ∷ 308915776 ∷ 8031810176 ∷ []

tables : List (List ℕ × Bool)
tables =
    (powers, true)
    ∷ (1 ∷ 26 ∷ 676 ∷ 17576 ∷ 456976 ∷ 11881376 ∷ 308915776 ∷ [], false)
    ∷ (1 ∷ 26 ∷ 676 ∷ 17576 ∷ 456976 ∷ 11881376 ∷ 308915776 ∷ 8031810176 ∷ 208827064576 ∷ [], false)
    ∷ (0 ∷ 26 ∷ 676 ∷ 17576 ∷ 456976 ∷ 11881376 ∷ 308915776 ∷ 8031810176 ∷ [], false)
    ∷ (1 ∷ 26 ∷ 676 ∷ 17575 ∷ 456976 ∷ 11881376 ∷ 308915776 ∷ 8031810176 ∷ [], false)
    ∷ (1 ∷ 26 ∷ 676 ∷ 17576 ∷ 456976 ∷ 11881376 ∷ 308915776 ∷ 8031810177 ∷ [], false)
    ∷ (1 ∷ 26 ∷ 17576 ∷ 676 ∷ 456976 ∷ 11881376 ∷ 308915776 ∷ 8031810176 ∷ [], false)
    ∷ (8031810176 ∷ 308915776 ∷ 11881376 ∷ 456976 ∷ 17576 ∷ 676 ∷ 26 ∷ 1 ∷ [], false)
    ∷ (26 ∷ 676 ∷ 17576 ∷ 456976 ∷ 11881376 ∷ 308915776 ∷ 8031810176 ∷ 208827064576 ∷ [], false)
    ∷ (replicate 8 0, false)
    ∷ []

tables-hold : map (λ (c : List ℕ × Bool). right_weights c.0) tables ≡ map (λ (c : List ℕ × Bool). c.1) tables
unfolding powers tables
tables-hold = refl

-- by the first of them the sum of P5's labels is their number, and LA, with its letters the other way round than AL, is
-- 12 * 26 + 1
sums-hold :
    (map (λ (c : List ℕ × ℕ). weighted powers c.0) labels ≡ map (λ (c : List ℕ × ℕ). c.1) labels)
    × (weighted powers (76 ∷ 65 ∷ []) ≡ 313)
unfolding labels powers rank weighted
sums-hold = (refl, refl)
