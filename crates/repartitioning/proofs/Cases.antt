-- Closed cases that compute, from the definitions that the promises cite: checks 9 and 10 of a wall of three partitions
-- with the last chronons 34, 40 and 99999999, two tuples and one row in each.
-- It holds drawings that end at 31, 32, 40 and 48, a spot that ends at 48, and the rows of the last two drawings with
-- it, which end at 40 and 48. Each case gives the first two last chronons of the new cuts. The minimum is 1, but where
-- a case gives it.
-- Assumes nothing.
use mathlib.Core.Bool.{Bool, true, false}
use mathlib.Core.List.{List, [], ◌∷◌, ◌++◌, map}
use mathlib.Core.Path.{◌≡◌, refl}
use Prim.Native.Nat.{ℕ}
use lib.ListN.{replicate}
use Rattle.lists.specs.Choice.{first_of}
use Rattle.label.specs.Label.{label_check}
use Rattle.interval.specs.Time.{durability, durable}
use Rattle.interval.specs.Tuple.{item_check, valid_check, row_number, legal_row}
use Rattle.plan.specs.Plan.{cuts_of, home_of, home}
use Rattle.plan.specs.declared.Partitioning.{Partitioning}
use Rattle.part.specs.Part.{counted, records_in, tuples_in, rows_in, sound_part}
use Rattle.store.specs.Store.{row_at_home, sound_row_part, sound_rows, stored_tuples, stored_rows, tuples_at, rows_at}
use Rattle.checks.specs.Stores.{Stores, stores}
use Rattle.repartitioning.specs.Moving.{tuples_overfull, rows_overfull, move_number}

-- ---- the plan by its cuts, and the stores, a partition to a line

-- with that minimum, and with 1
abbrev lasting : ℕ → ℕ → ℕ → Partitioning
lasting minimum first second = record {
  count = 3;
  lasts = map (λ (n : ℕ). record { 0 = n }) (first ∷ (second ∷ (99999999 ∷ replicate 61 7)));
  tuples = 2;
  rows = 1;
  minimum = minimum;
}

abbrev plan : ℕ → ℕ → Partitioning
plan first second = lasting 1 first second

abbrev p : Partitioning
p = plan 34 40

abbrev nine : ℕ → ℕ → ℕ → ℕ → ℕ → ℕ → ℕ → ℕ → ℕ → List ℕ
nine n a b c d e f g h = n ∷ (a ∷ (b ∷ (c ∷ (d ∷ (e ∷ (f ∷ (g ∷ (h ∷ []))))))))

abbrev six : ℕ → ℕ → ℕ → ℕ → ℕ → ℕ → List ℕ
six n a b c d e = n ∷ (a ∷ (b ∷ (c ∷ (d ∷ (e ∷ [])))))

abbrev drawings : List ℕ
drawings = nine 2 1 10 30 31 1 11 32 32 ++ (nine 1 1 12 33 40 0 0 0 0 ++ nine 1 1 13 41 48 0 0 0 0)

abbrev spots : List ℕ
spots = replicate 18 0 ++ nine 1 1 7 36 48 0 0 0 0

abbrev rows : List ℕ
rows = replicate 6 0 ++ (six 1 1 12 7 36 40 ++ six 1 1 13 7 41 48)

abbrev empty : List ℕ
empty = replicate 27 0

abbrev wall : Stores
wall = stores drawings spots rows

-- ---- each store by itself

-- Drawings: with the cuts 31 and 47 one that ends on a partition's last chronon belongs to it, one that ends a chronon
-- later to the next; with 32 and 39 two fill a partition; with 40 and 41 three are too many
abbrev drawings-overfull : List Bool
drawings-overfull =
    tuples_overfull p (plan 31 47) drawings
    ∷ (tuples_overfull p (plan 32 39) drawings ∷ (tuples_overfull p (plan 40 41) drawings ∷ []))

drawings-hold : drawings-overfull ≡ false ∷ (false ∷ (true ∷ []))
unfolding tuples_overfull tuples_at stored_tuples tuples_in records_in counted home home_of cuts_of
drawings-hold = refl

-- rows: one fills a partition, two are too many
abbrev rows-overfull : List Bool
rows-overfull = rows_overfull p (plan 39 47) rows ∷ (rows_overfull p (plan 39 48) rows ∷ [])

rows-hold : rows-overfull ≡ false ∷ (true ∷ [])
unfolding rows_overfull rows_at stored_rows rows_in records_in counted home home_of cuts_of
rows-hold = refl

-- rows of five minutes and of eight that stand by both cuts, 34 and 40, and 39 and 47: where the minimum is kept they
-- are sound by the new plan as by the old, and not where it grows
abbrev rows-sound : List Bool
rows-sound =
    sound_rows (lasting 5 34 40) rows ∷ (sound_rows (lasting 5 39 47) rows ∷ (sound_rows (lasting 6 39 47) rows ∷ []))

minimum-kept : rows-sound ≡ true ∷ (true ∷ (false ∷ []))
unfolding first_of label_check item_check valid_check row_number durability durable legal_row cuts_of home_of home
    counted records_in sound_part row_at_home sound_row_part sound_rows
minimum-kept = refl

-- ---- the numbers: none; 9 by the drawings; 9 by the same tuples as spots; 10 by the rows, with a minimum of 1 and of
-- 5; 9 where both apply

abbrev numbers : List ℕ
numbers =
    move_number p (plan 31 47) wall
    ∷ (move_number p (plan 40 41) wall
    ∷ (move_number p (plan 40 41) (stores empty drawings (replicate 18 0))
    ∷ (move_number p (plan 39 50) wall
    ∷ (move_number (lasting 5 34 40) (lasting 5 39 50) wall
    ∷ (move_number p (plan 31 50) wall
    ∷ [])))))

numbers-hold : numbers ≡ 0 ∷ (9 ∷ (9 ∷ (10 ∷ (10 ∷ (9 ∷ [])))))
unfolding move_number first_of tuples_overfull tuples_at stored_tuples tuples_in rows_overfull rows_at stored_rows
    rows_in records_in counted home home_of cuts_of
numbers-hold = refl
