-- The stores: "A store is n lanes in order." Their lengths, their partitions, soundness, and all that they hold.
-- The laws are in proofs/Stores.antt.
use Rattle.std.specs.Prelude.{Bool, ◌&&◌, List, ℕ, ◌*◌, ◌<◌, eqb}
use Rattle.lists.specs.Members.{all, keep, gather, below}
use Rattle.lists.specs.Same.{Same}
use Rattle.lists.specs.Words.{part_at, on_part}
use Rattle.interval.specs.Tuple.{tuple_width, tuple_of, to, legal_tuple, same_tuple, row_width, row_of, row_to, legal_row}
use Rattle.interval.specs.Tuple.{same_row}
use Rattle.interval.specs.declared.tuple.Tuple.{Tuple}
use Rattle.interval.specs.declared.tuple.Row.{Row}
use Rattle.plan.specs.Plan.{legal_plan, home}
use Rattle.part.specs.Part.{room_of, sound_part, tuples_in, rows_in}
use Rattle.plan.specs.declared.Partitioning.{Partitioning}

-- the words of one partition, of a tuple store and of the rows store
abbrev pub tuple_room : Partitioning → ℕ
tuple_room p = room_of tuple_width p.tuples

abbrev pub row_room : Partitioning → ℕ
row_room p = room_of row_width p.rows

-- a length is what the plan gives (check 4); a plan that is not legal gives none
unfoldable pub fits_tuples : Partitioning → ℕ → Bool
fits_tuples p length = legal_plan p && eqb length (p.count * tuple_room p)

unfoldable pub fits_rows : Partitioning → ℕ → Bool
fits_rows p length = legal_plan p && eqb length (p.count * row_room p)

-- partition i of a store of partitions of that room; "Each lane is handed on as its own part of the store"
abbrev pub partition_at : ℕ → List ℕ → ℕ → List ℕ
partition_at room ws i = part_at (i * room) room ws

-- the store with partition i changed by f, and every other word as it was
abbrev pub on_partition : ℕ → ℕ → (List ℕ → List ℕ) → List ℕ → List ℕ
on_partition room i f ws = on_part (i * room) room f ws

abbrev pub tuple_part : Partitioning → List ℕ → ℕ → List ℕ
tuple_part p ws i = partition_at (tuple_room p) ws i

abbrev pub row_part : Partitioning → List ℕ → ℕ → List ℕ
row_part p ws i = partition_at (row_room p) ws i

-- "each counted record is legal and belongs to its lane": "A tuple or a row belongs to the lane that contains its last
-- minute."
unfoldable pub tuple_at_home : Partitioning → ℕ → Tuple → Bool
tuple_at_home p i t = legal_tuple t && eqb (home p (to t)) i

unfoldable pub row_at_home : Partitioning → ℕ → Row → Bool
row_at_home p i r = legal_row p.minimum r && eqb (home p (row_to r)) i

-- partition i of a tuple store, of the rows store is sound
unfoldable pub sound_tuple_part : Partitioning → ℕ → List ℕ → Bool
sound_tuple_part p i part = sound_part tuple_width p.tuples (λ ws. tuple_at_home p i (tuple_of ws)) part

unfoldable pub sound_row_part : Partitioning → ℕ → List ℕ → Bool
sound_row_part p i part = sound_part row_width p.rows (λ ws. row_at_home p i (row_of ws)) part

-- a tuple store, the rows store is sound
unfoldable pub sound_tuples : Partitioning → List ℕ → Bool
sound_tuples p ws = all (λ i. sound_tuple_part p i (tuple_part p ws i)) (below p.count)

unfoldable pub sound_rows : Partitioning → List ℕ → Bool
sound_rows p ws = all (λ i. sound_row_part p i (row_part p ws i)) (below p.count)

-- all the tuples, all the rows of a store
unfoldable pub stored_tuples : Partitioning → List ℕ → List Tuple
stored_tuples p ws = gather (λ i. tuples_in (tuple_part p ws i)) (below p.count)

unfoldable pub stored_rows : Partitioning → List ℕ → List Row
stored_rows p ws = gather (λ i. rows_in (row_part p ws i)) (below p.count)

-- the rows of a list that belong to partition i
unfoldable pub rows_at : Partitioning → ℕ → List Row → List Row
rows_at p i rs = keep (λ (r : Row). eqb (home p (row_to r)) i) rs

unfoldable pub tuples_at : Partitioning → ℕ → List Tuple → List Tuple
tuples_at p i ts = keep (λ (t : Tuple). eqb (home p (to t)) i) ts

-- the store holds these tuples, these rows: each partition exactly those that belong to it, each as often, in some
-- order
abbrev pub TuplesHeld : Partitioning → List ℕ → List Tuple → Type 0
TuplesHeld p ws ts = (i : ℕ) → i < p.count → Same same_tuple (tuples_in (tuple_part p ws i)) (tuples_at p i ts)

abbrev pub RowsHeld : Partitioning → List ℕ → List Row → Type 0
RowsHeld p ws rs = (i : ℕ) → i < p.count → Same same_row (rows_in (row_part p ws i)) (rows_at p i rs)
