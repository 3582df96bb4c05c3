-- Closed cases that compute: the number of a repartition, from the definition that its promise cites. The wall is that
-- of the cases of crate `repartitioning`: three partitions with the last chronons 34, 40 and 99999999, two tuples and
-- one row in each; drawings that end at 31, 32, 40 and 48, a spot that ends at 48, and the two rows that they make.
-- Assumes nothing.
use mathlib.Core.List.{List, [], ◌∷◌, ◌++◌, map}
use mathlib.Core.Path.{◌≡◌, refl}
use Prim.Native.Nat.{ℕ}
use lib.ListN.{replicate}
use Rattle.lists.specs.Choice.{first_of}
use Rattle.label.specs.Label.{label_check}
use Rattle.interval.specs.Time.{durability, durable}
use Rattle.interval.specs.Tuple.{item_check, valid_check, tuple_number, legal_tuple, row_number, legal_row}
use Rattle.interval.specs.declared.time.Chronon.{Chronon}
use Rattle.plan.specs.Plan.{cuts_of, cover, minimum_check, plan_number, legal_plan, home_of, home, with_cuts}
use Rattle.part.specs.Part.{counted, records_in, tuples_in, rows_in, sound_part}
use Rattle.store.specs.Store.{fits_tuples, fits_rows, tuple_at_home, row_at_home, sound_tuple_part, sound_row_part}
use Rattle.store.specs.Store.{sound_tuples, sound_rows, stored_tuples, stored_rows, tuples_at, rows_at}
use Rattle.checks.specs.Stores.{Stores, stores, lengths_number, store_number, tuples_length, rows_length, tuples_unsound}
use Rattle.checks.specs.Stores.{rows_unsound}
use Rattle.repartitioning.specs.Moving.{tuples_overfull, rows_overfull, move_number}
use Rattle.join.specs.Repartitioning.{repartition_number}

-- last chronons in 64 places, and the plan
abbrev cuts : ℕ → ℕ → List Chronon
cuts first second = map (λ (n : ℕ). record { 0 = n }) (first ∷ (second ∷ (99999999 ∷ replicate 61 7)))

abbrev nine : ℕ → ℕ → ℕ → ℕ → ℕ → ℕ → ℕ → ℕ → ℕ → List ℕ
nine n a b c d e f g h = n ∷ (a ∷ (b ∷ (c ∷ (d ∷ (e ∷ (f ∷ (g ∷ (h ∷ []))))))))

abbrev six : ℕ → ℕ → ℕ → ℕ → ℕ → ℕ → List ℕ
six n a b c d e = n ∷ (a ∷ (b ∷ (c ∷ (d ∷ (e ∷ [])))))

abbrev drawings : List ℕ
drawings = nine 2 1 10 30 31 1 11 32 32 ++ (nine 1 1 12 33 40 0 0 0 0 ++ nine 1 1 13 41 48 0 0 0 0)

abbrev spots : List ℕ
spots = replicate 18 0 ++ nine 1 1 7 36 48 0 0 0 0

abbrev rows : List ℕ
rows = replicate 6 0 ++ (six 1 1 12 7 36 40 ++ six 1 1 13 7 41 48)

abbrev meddled : List ℕ
meddled = six 1 1 12 7 36 40 ++ (replicate 6 0 ++ six 1 1 13 7 41 48)

abbrev wall : Stores
wall = stores drawings spots rows

-- the number with new cuts whose first two last chronons are these; and under a plan with that minimum
abbrev lasting : ℕ → ℕ → ℕ → Stores → ℕ
lasting minimum first second s =
    repartition_number (record { count = 3; lasts = cuts 34 40; tuples = 2; rows = 1; minimum = minimum })
    (cuts first second) s

abbrev with-cuts : ℕ → ℕ → Stores → ℕ
with-cuts first second s = lasting 1 first second s

-- In order: accepted, with two drawings that move; 2 for new cuts that fall, before 9; 5 before 2 of the new cuts, for
-- a row that stands in the wrong partition; 9 by the drawings; 10 by the rows; 9 where both apply. The
-- wall's shorter row has five minutes: a minimum of 5 accepts it, 6 gives 5; a minimum out of range gives 18, before 5.
abbrev numbers : List ℕ
numbers =
    with-cuts 31 47 wall
    ∷ (with-cuts 47 31 wall
    ∷ (with-cuts 47 31 (stores drawings spots meddled)
    ∷ (with-cuts 40 41 wall
    ∷ (with-cuts 39 50 wall
    ∷ (with-cuts 31 50 wall
    ∷ (lasting 5 31 47 wall
    ∷ (lasting 6 31 47 wall ∷ (lasting 1441 31 47 (stores drawings spots meddled) ∷ []))))))))

numbers-hold : numbers ≡ 0 ∷ (2 ∷ (5 ∷ (9 ∷ (10 ∷ (9 ∷ (0 ∷ (5 ∷ (18 ∷ []))))))))
unfolding repartition_number first_of store_number lengths_number tuples_length rows_length tuples_unsound rows_unsound
    plan_number minimum_check cover cuts_of with_cuts legal_plan fits_tuples fits_rows sound_tuples sound_rows sound_tuple_part
    sound_row_part sound_part tuple_at_home row_at_home legal_tuple legal_row durable durability tuple_number row_number label_check
    item_check valid_check move_number
    tuples_overfull rows_overfull tuples_at rows_at stored_tuples stored_rows tuples_in rows_in records_in counted home home_of
numbers-hold = refl
