-- Closed cases that compute, from the definitions that the promises cite. The plan has three partitions, with the last
-- chronons 34, 40 and 99999999, two tuples and one row in each: 27 words a tuple store, 18 the rows store.
-- In order: lengths; tuple stores that are sound and that are not; rows stores; all that a store holds; partitions
-- read; partitions changed, word for word.
-- Assumes nothing.
use mathlib.Core.Bool.{Bool, true, false, ◌&&◌}
use mathlib.Core.List.{List, [], ◌∷◌, ◌++◌, map}
use mathlib.Core.Path.{◌≡◌, refl}
use Prim.Native.Nat.{ℕ, ◌-◌}
use lib.ListN.{length, replicate}
use Rattle.lists.specs.Choice.{first_of}
use Rattle.label.specs.Label.{label_check}
use Rattle.interval.specs.Time.{durability, durable}
use Rattle.interval.specs.Tuple.{tuple, row, tuple_width, tuple_words, row_width, row_words, item_check, valid_check}
use Rattle.interval.specs.Tuple.{tuple_number, legal_tuple, row_number, legal_row}
use Rattle.interval.specs.declared.tuple.Tuple.{Tuple}
use Rattle.interval.specs.declared.tuple.Row.{Row}
use Rattle.plan.specs.Plan.{cuts_of, cover, minimum_check, plan_number, legal_plan, home_of, home}
use Rattle.plan.specs.declared.Partitioning.{Partitioning}
use Rattle.part.specs.Part.{counted, records_in, tuples_in, rows_in, sound_part, appended, removed}
use Rattle.store.specs.Store.{fits_tuples, fits_rows, on_partition, tuple_part, row_part}
use Rattle.store.specs.Store.{tuple_at_home, row_at_home, sound_tuple_part, sound_row_part, sound_tuples, sound_rows}
use Rattle.store.specs.Store.{stored_tuples, stored_rows, tuples_at, rows_at}

-- ---- the plan, in 64 places; those beyond its cuts hold 7; and stores of three partitions, written out

-- with that minimum, and with 1
abbrev lasting : ℕ → ℕ → List ℕ → ℕ → ℕ → Partitioning
lasting minimum count cs tuples rows = record {
  count = count;
  lasts = map (λ (n : ℕ). record { 0 = n }) (cs ++ replicate (64 - length cs) 7);
  tuples = tuples;
  rows = rows;
  minimum = minimum;
}

abbrev plan : ℕ → List ℕ → ℕ → ℕ → Partitioning
plan count cs tuples rows = lasting 1 count cs tuples rows

abbrev p : Partitioning
p = plan 3 (34 ∷ (40 ∷ (99999999 ∷ []))) 2 1

-- the same where a row lasts at least five minutes
abbrev p5 : Partitioning
p5 = lasting 5 3 (34 ∷ (40 ∷ (99999999 ∷ []))) 2 1

-- plans that are not legal: no partition, cuts that fall, a tuple capacity of 513, a row capacity of 0
abbrev none : Partitioning
none = plan 0 (34 ∷ (40 ∷ (99999999 ∷ []))) 2 1

abbrev falling : Partitioning
falling = plan 3 (40 ∷ (34 ∷ (99999999 ∷ []))) 2 1

abbrev large : Partitioning
large = plan 3 (34 ∷ (40 ∷ (99999999 ∷ []))) 513 1

abbrev rowless : Partitioning
rowless = plan 3 (34 ∷ (40 ∷ (99999999 ∷ []))) 2 0

-- the nine words of a partition of tuples: its count and two tuples
abbrev nine : ℕ → ℕ → ℕ → ℕ → ℕ → ℕ → ℕ → ℕ → ℕ → List ℕ
nine n a b c d e f g h = n ∷ (a ∷ (b ∷ (c ∷ (d ∷ (e ∷ (f ∷ (g ∷ (h ∷ []))))))))

-- the six words of a partition of rows: its count and one row
abbrev six : ℕ → ℕ → ℕ → ℕ → ℕ → ℕ → List ℕ
six n a b c d e = n ∷ (a ∷ (b ∷ (c ∷ (d ∷ (e ∷ [])))))

abbrev store : List ℕ → List ℕ → List ℕ → List ℕ
store a b c = a ++ (b ++ c)

-- partitions that hold nothing, one tuple, one row
abbrev no9 : List ℕ
no9 = nine 0 0 0 0 0 0 0 0 0

abbrev no6 : List ℕ
no6 = six 0 0 0 0 0 0

abbrev one9 : ℕ → ℕ → ℕ → ℕ → List ℕ
one9 label item first last = nine 1 label item first last 0 0 0 0

abbrev one6 : ℕ → ℕ → ℕ → ℕ → ℕ → List ℕ
one6 label outer inner first last = six 1 label outer inner first last

-- ---- lengths: the right one, one word less, one more, none; the other store's; and, of a plan that is not legal, none

Lengths : (Partitioning → ℕ → Bool) → List (Partitioning × ℕ × Bool) → Type 0
Lengths fits [] = Unit {0}
Lengths fits (c ∷ cs) = (fits c.0 c.1 ≡ c.2) × Lengths fits cs

tuple-lengths : List (Partitioning × ℕ × Bool)
tuple-lengths =
    (p, 27, true)
    ∷ ((p, 26, false)
    ∷ ((p, 28, false)
    ∷ ((p, 0, false)
    ∷ ((p, 18, false)
    ∷ ((none, 0, false)
    ∷ ((falling, 27, false)
    ∷ ((large, 6159, false)
    ∷ ((rowless, 27, false)
    ∷ []))))))))

row-lengths : List (Partitioning × ℕ × Bool)
row-lengths =
    (p, 18, true)
    ∷ ((p, 17, false)
    ∷ ((p, 19, false)
    ∷ ((p, 0, false)
    ∷ ((p, 27, false)
    ∷ ((none, 0, false)
    ∷ ((falling, 18, false)
    ∷ ((large, 18, false)
    ∷ ((rowless, 3, false)
    ∷ []))))))))

lengths-hold : Lengths fits_tuples tuple-lengths × Lengths fits_rows row-lengths
unfolding Lengths tuple-lengths row-lengths first_of cuts_of cover minimum_check plan_number legal_plan fits_tuples fits_rows
lengths-hold = (
  (refl, (refl, (refl, (refl, (refl, (refl, (refl, (refl, (refl, tt))))))))),
  (refl, (refl, (refl, (refl, (refl, (refl, (refl, (refl, (refl, tt))))))))),
)

-- ---- stores of the plan's length that are sound, and stores that are not

Sounds : (Partitioning → ℕ → Bool) → (Partitioning → List ℕ → Bool) → Bool → List (Partitioning × List ℕ) → Type 0
Sounds fits sound answer [] = Unit {0}
Sounds fits sound answer (c ∷ cs) =
    ((fits c.0 (length c.1) && sound c.0 c.1) ≡ answer) × Sounds fits sound answer cs

-- ---- tuple stores

abbrev Tuples : Bool → List (Partitioning × List ℕ) → Type 0
Tuples = Sounds fits_tuples sound_tuples

-- no tuple; the first and the last chronon of each partition, a tuple that starts partitions before, two that are
-- equal, the largest label and item number, all places taken
tuples-right : List (Partitioning × List ℕ)
tuples-right =
    (p, replicate 27 0)
    ∷ ((p, store (one9 38 10 0 0) no9 no9)
    ∷ ((p, store (one9 38 10 30 34) no9 no9)
    ∷ ((p, store no9 (one9 38 10 35 35) no9)
    ∷ ((p, store no9 (one9 38 10 33 40) no9)
    ∷ ((p, store no9 no9 (one9 38 10 41 41))
    ∷ ((p, store no9 no9 (one9 38 10 0 99999999))
    ∷ ((p, store (nine 2 38 10 30 31 38 10 30 31) no9 no9)
    ∷ ((p, store (one9 217180147158 999999 30 34) no9 no9)
    ∷ ((p, store (nine 2 38 10 30 31 1 0 0 34) (nine 2 38 10 33 40 2 1 35 35) (nine 2 38 11 41 48 3 2 0 99999999))
    ∷ [])))))))))

-- the same tuples in the partition before, in the one after; the second of two away from home
tuples-away : List (Partitioning × List ℕ)
tuples-away =
    (p, store no9 (one9 38 10 30 34) no9)
    ∷ ((p, store (one9 38 10 35 35) no9 no9)
    ∷ ((p, store no9 no9 (one9 38 10 33 40))
    ∷ ((p, store no9 (one9 38 10 41 41) no9)
    ∷ ((p, store (one9 38 10 0 99999999) no9 no9)
    ∷ ((p, store (nine 2 38 10 30 31 38 10 33 40) no9 no9)
    ∷ [])))))

-- a count above the capacity, over legal tuples, by one and by the most; a count below and above what is there
counts : List (Partitioning × List ℕ)
counts =
    (p, store (nine 3 38 10 30 31 38 11 32 32) no9 no9)
    ∷ ((p, store no9 no9 (nine 3 38 10 41 48 38 11 41 48))
    ∷ ((p, store no9 no9 (nine 18446744073709551615 38 10 41 48 38 11 41 48))
    ∷ ((p, store (nine 0 38 10 30 31 0 0 0 0) no9 no9)
    ∷ ((p, store (nine 1 38 10 30 31 38 11 32 32) no9 no9)
    ∷ ((p, store (nine 2 38 10 30 31 0 0 0 0) no9 no9)
    ∷ [])))))

-- one word after the counted tuples that is not 0: the first such word of a partition, its last, the store's last
tails : List (Partitioning × List ℕ)
tails =
    (p, store (nine 0 1 0 0 0 0 0 0 0) no9 no9)
    ∷ ((p, store (nine 0 0 0 0 0 0 0 0 1) no9 no9)
    ∷ ((p, store (nine 1 38 10 30 34 1 0 0 0) no9 no9)
    ∷ ((p, store (nine 1 38 10 30 34 0 0 0 1) no9 no9)
    ∷ ((p, store no9 no9 (nine 0 0 0 0 0 0 0 0 1))
    ∷ ((p, store no9 no9 (nine 1 38 10 41 48 0 0 0 18446744073709551615))
    ∷ [])))))

-- a tuple that is not legal: last before first, no label, a label past the last, an item number past the last, a last
-- chronon past the calendar; the second of two
illegals : List (Partitioning × List ℕ)
illegals =
    (p, store (one9 38 10 34 33) no9 no9)
    ∷ ((p, store (one9 0 10 30 34) no9 no9)
    ∷ ((p, store (one9 217180147159 10 30 34) no9 no9)
    ∷ ((p, store (one9 38 1000000 30 34) no9 no9)
    ∷ ((p, store no9 no9 (one9 38 10 41 100000000))
    ∷ ((p, store (nine 2 38 10 30 31 38 11 33 32) no9 no9)
    ∷ [])))))

-- zeros of another length; zeros of the length that a plan which is not legal would give
misfits : List (Partitioning × List ℕ)
misfits =
    (p, [])
    ∷ ((p, replicate 26 0)
    ∷ ((p, replicate 28 0)
    ∷ ((p, replicate 18 0)
    ∷ ((none, [])
    ∷ ((falling, replicate 27 0)
    ∷ ((rowless, replicate 27 0)
    ∷ []))))))

-- each of them computes
tuples-hold : Tuples true tuples-right
    × Tuples false tuples-away
    × Tuples false counts
    × Tuples false tails
    × Tuples false illegals
    × Tuples false misfits
unfolding Sounds tuples-right tuples-away counts tails illegals misfits first_of label_check item_check valid_check
    tuple_number legal_tuple cuts_of cover minimum_check plan_number legal_plan home_of home counted records_in sound_part
    fits_tuples tuple_at_home sound_tuple_part sound_tuples
tuples-hold = (
  (refl, (refl, (refl, (refl, (refl, (refl, (refl, (refl, (refl, (refl, tt)))))))))),
  (refl, (refl, (refl, (refl, (refl, (refl, tt)))))),
  (refl, (refl, (refl, (refl, (refl, (refl, tt)))))),
  (refl, (refl, (refl, (refl, (refl, (refl, tt)))))),
  (refl, (refl, (refl, (refl, (refl, (refl, tt)))))),
  (refl, (refl, (refl, (refl, (refl, (refl, (refl, tt))))))),
)

-- ---- rows stores

abbrev Rows : Bool → List (Partitioning × List ℕ) → Type 0
Rows = Sounds fits_rows sound_rows

-- no row; the first and the last chronon of each partition, a row that starts partitions before, all places taken; rows
-- of five minutes and of six, where five are asked for
rows_right : List (Partitioning × List ℕ)
rows_right =
    (p, replicate 18 0)
    ∷ ((p, store (one6 38 10 1 0 0) no6 no6)
    ∷ ((p, store (one6 38 10 1 30 34) no6 no6)
    ∷ ((p, store no6 (one6 38 10 1 35 35) no6)
    ∷ ((p, store no6 (one6 38 10 2 36 40) no6)
    ∷ ((p, store no6 no6 (one6 38 11 2 41 41))
    ∷ ((p, store no6 no6 (one6 38 11 2 0 99999999))
    ∷ ((p, store (one6 38 10 1 30 31) (one6 217180147158 999999 999999 33 35) (one6 1 0 0 41 48))
    ∷ ((p5, store (one6 38 10 1 30 34) (one6 38 10 1 35 40) no6)
    ∷ []))))))))

-- in the partition before, in the one after; a count above the capacity; a word that is not 0 after the counted rows,
-- the first and the last; rows that are not legal, a row of four minutes where five are asked for among them; zeros of
-- another length, and of the length of a plan that is not legal
rows-wrong : List (Partitioning × List ℕ)
rows-wrong =
    (p, store no6 (one6 38 10 1 30 34) no6)
    ∷ ((p, store (one6 38 10 1 35 35) no6 no6)
    ∷ ((p, store no6 no6 (one6 38 10 2 36 40))
    ∷ ((p, store no6 (one6 38 11 2 41 41) no6)
    ∷ ((p, store (six 2 38 10 1 30 34) no6 no6)
    ∷ ((p, store no6 no6 (six 18446744073709551615 38 11 2 41 48))
    ∷ ((p, store (six 0 1 0 0 0 0) no6 no6)
    ∷ ((p, store no6 no6 (six 0 0 0 0 0 1))
    ∷ ((p, store (one6 38 10 1 34 33) no6 no6)
    ∷ ((p, store (one6 0 10 1 30 34) no6 no6)
    ∷ ((p, store (one6 217180147159 10 1 30 34) no6 no6)
    ∷ ((p, store (one6 38 1000000 1 30 34) no6 no6)
    ∷ ((p, store (one6 38 10 1000000 30 34) no6 no6)
    ∷ ((p, store no6 no6 (one6 38 10 1 41 100000000))
    ∷ ((p5, store (one6 38 10 1 31 34) no6 no6)
    ∷ ((p, replicate 17 0)
    ∷ ((p, replicate 19 0)
    ∷ ((p, replicate 27 0)
    ∷ ((falling, replicate 18 0)
    ∷ []))))))))))))))))))

-- each of them computes
rows-hold : Rows true rows_right × Rows false rows-wrong
unfolding Sounds rows_right rows-wrong first_of label_check item_check valid_check row_number durability durable legal_row
    cuts_of cover minimum_check plan_number legal_plan home_of home counted records_in sound_part fits_rows row_at_home
    sound_row_part sound_rows
rows-hold = (
  (refl, (refl, (refl, (refl, (refl, (refl, (refl, (refl, (refl, tt))))))))),
  (
    refl,
    (
      refl,
      (
        refl,
        (
          refl,
          (
            refl,
            (
              refl,
              (
                refl,
                (refl, (refl, (refl, (refl, (refl, (refl, (refl, (refl, (refl, (refl, (refl, (refl, tt)))))))))))),
              ),
            ),
          ),
        ),
      ),
    ),
  ),
)

-- ---- all that a store holds, partition after partition: what is not counted is not held

abbrev t₁ : Tuple
t₁ = tuple 38 10 30 31

abbrev t₂ : Tuple
t₂ = tuple 38 11 32 32

abbrev t₃ : Tuple
t₃ = tuple 38 11 41 48

abbrev r₁ : Row
r₁ = row 38 10 1 30 31

abbrev r₃ : Row
r₃ = row 38 11 2 41 48

abbrev drawings : List ℕ
drawings = store (nine 2 38 10 30 31 38 11 32 32) no9 (nine 1 38 11 41 48 0 0 0 0)

abbrev made : List ℕ
made = store (six 1 38 10 1 30 31) no6 (six 1 38 11 2 41 48)

stored-tuples : (stored_tuples p drawings ≡ t₁ ∷ (t₂ ∷ (t₃ ∷ [])))
    × (stored_tuples p (replicate 27 0) ≡ [])
    × (stored_tuples p (store (nine 1 38 10 30 31 38 11 32 32) no9 (nine 0 38 11 41 48 0 0 0 0)) ≡ t₁ ∷ [])
unfolding counted records_in tuples_in stored_tuples
stored-tuples = (refl, refl, refl)

stored-rows : (stored_rows p made ≡ r₁ ∷ (r₃ ∷ []))
    × (stored_rows p (replicate 18 0) ≡ [])
    × (stored_rows p (store (six 1 38 10 1 30 31) no6 (six 0 38 11 2 41 48)) ≡ r₁ ∷ [])
unfolding counted records_in rows_in stored_rows
stored-rows = (refl, refl, refl)

-- those of a list that belong to each partition
tuples-of : (tuples_at p 0 (t₁ ∷ (t₃ ∷ (t₂ ∷ []))) ≡ t₁ ∷ (t₂ ∷ []))
    × (tuples_at p 1 (t₁ ∷ (t₃ ∷ (t₂ ∷ []))) ≡ [])
    × (tuples_at p 2 (t₁ ∷ (t₃ ∷ (t₂ ∷ []))) ≡ t₃ ∷ [])
unfolding cuts_of home_of home tuples_at
tuples-of = (refl, refl, refl)

rows_of : (rows_at p 0 (r₃ ∷ (r₁ ∷ [])) ≡ r₁ ∷ [])
    × (rows_at p 1 (r₃ ∷ (r₁ ∷ [])) ≡ [])
    × (rows_at p 2 (r₃ ∷ (r₁ ∷ [])) ≡ r₃ ∷ [])
unfolding cuts_of home_of home rows_at
rows_of = (refl, refl, refl)

-- ---- partitions read: the first, the second, the last; past the last there is none

Parts : (Partitioning → List ℕ → ℕ → List ℕ) → List (List ℕ × ℕ × List ℕ) → Type 0
Parts part [] = Unit {0}
Parts part (c ∷ cs) = (part p c.0 c.1 ≡ c.2) × Parts part cs

tuple-parts : List (List ℕ × ℕ × List ℕ)
tuple-parts =
    (drawings, 0, nine 2 38 10 30 31 38 11 32 32)
    ∷ ((drawings, 1, nine 0 0 0 0 0 0 0 0 0)
    ∷ ((drawings, 2, nine 1 38 11 41 48 0 0 0 0)
    ∷ ((drawings, 3, [])
    ∷ [])))

tuple-parts-hold : Parts tuple_part tuple-parts
unfolding Parts tuple-parts
tuple-parts-hold = (refl, (refl, (refl, (refl, tt))))

row-parts : List (List ℕ × ℕ × List ℕ)
row-parts =
    (made, 0, six 1 38 10 1 30 31)
    ∷ ((made, 1, six 0 0 0 0 0 0)
    ∷ ((made, 2, six 1 38 11 2 41 48)
    ∷ ((made, 3, [])
    ∷ [])))

row-parts-hold : Parts row_part row-parts
unfolding Parts row-parts
row-parts-hold = (refl, (refl, (refl, (refl, tt))))

-- ---- partitions changed: every word of the store

-- a tuple appended to the second partition, to the last beside one that is there, to the first
tuples-appended : (on_partition 9 1 (appended tuple_width (38 ∷ (10 ∷ (33 ∷ (40 ∷ []))))) drawings
    ≡ store (nine 2 38 10 30 31 38 11 32 32) (nine 1 38 10 33 40 0 0 0 0) (nine 1 38 11 41 48 0 0 0 0))
    × (on_partition 9 2 (appended tuple_width (38 ∷ (2 ∷ (36 ∷ (48 ∷ []))))) drawings
    ≡ store (nine 2 38 10 30 31 38 11 32 32) (nine 0 0 0 0 0 0 0 0 0) (nine 2 38 11 41 48 38 2 36 48))
    × (on_partition 9 0 (appended tuple_width (tuple_words t₁)) (replicate 27 0)
    ≡ store (nine 1 38 10 30 31 0 0 0 0) (nine 0 0 0 0 0 0 0 0 0) (nine 0 0 0 0 0 0 0 0 0))
unfolding counted appended
tuples-appended = (refl, refl, refl)

-- the first of two tuples taken out, so that the last moves over it; the last of two; the only one
tuples-removed : (on_partition 9 0 (removed tuple_width 0) drawings
    ≡ store (nine 1 38 11 32 32 0 0 0 0) (nine 0 0 0 0 0 0 0 0 0) (nine 1 38 11 41 48 0 0 0 0))
    × (on_partition 9 0 (removed tuple_width 1) drawings
    ≡ store (nine 1 38 10 30 31 0 0 0 0) (nine 0 0 0 0 0 0 0 0 0) (nine 1 38 11 41 48 0 0 0 0))
    × (on_partition 9 2 (removed tuple_width 0) drawings
    ≡ store (nine 2 38 10 30 31 38 11 32 32) (nine 0 0 0 0 0 0 0 0 0) (nine 0 0 0 0 0 0 0 0 0))
unfolding counted removed
tuples-removed = (refl, refl, refl)

-- a row appended to the second partition, to the last; a row taken out of the first, of the last
rows-changed : (on_partition 6 1 (appended row_width (38 ∷ (10 ∷ (2 ∷ (36 ∷ (40 ∷ [])))))) made
    ≡ store (six 1 38 10 1 30 31) (six 1 38 10 2 36 40) (six 1 38 11 2 41 48))
    × (on_partition 6 2 (appended row_width (row_words r₃)) (replicate 18 0)
    ≡ store (six 0 0 0 0 0 0) (six 0 0 0 0 0 0) (six 1 38 11 2 41 48))
    × (on_partition 6 0 (removed row_width 0) made
    ≡ store (six 0 0 0 0 0 0) (six 0 0 0 0 0 0) (six 1 38 11 2 41 48))
    × (on_partition 6 2 (removed row_width 0) made
    ≡ store (six 1 38 10 1 30 31) (six 0 0 0 0 0 0) (six 0 0 0 0 0 0))
unfolding counted appended removed
rows-changed = (refl, refl, refl, refl)
