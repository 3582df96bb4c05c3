-- One partition (document 01: lane) as words: "one count word, then its full capacity of records". What is read of it,
-- and what the writers leave. The width w of a record is a tuple's or a row's.
-- The laws are in proofs/Parts.antt, those of `copied` and `swapped` in the crate `records`, which has the writers.
use Rattle.std.specs.Prelude.{Bool, ◌&&◌, List, map, ℕ, ◌+◌, ◌-◌, ◌*◌, get_or, drop, set, replicate, leb}
use Rattle.std.proofs.lemmas.List.Edits.{sets}
use Rattle.lists.specs.Members.{all, place_of}
use Rattle.lists.specs.Same.{times}
use Rattle.lists.specs.Words.{part_at, zeros, records_of, record_at}
use Rattle.interval.specs.Tuple.{tuple_width, tuple_of, same_tuple, row_width, row_of, same_row}
use Rattle.interval.specs.declared.tuple.Tuple.{Tuple}
use Rattle.interval.specs.declared.tuple.Row.{Row}

-- the words of n records and the count word before them: a partition's length, where n is its capacity
abbrev pub room_of : ℕ → ℕ → ℕ
room_of w n = 1 + w * n

-- the count word
unfoldable pub counted : List ℕ → ℕ
counted part = get_or part 0 0

-- the counted records, as words
unfoldable pub records_in : ℕ → List ℕ → List (List ℕ)
records_in w part = records_of w (counted part) (drop 1 part)

-- the counted records, as tuples and as rows
unfoldable pub tuples_in : List ℕ → List Tuple
tuples_in part = map tuple_of (records_in tuple_width part)

unfoldable pub rows_in : List ℕ → List Row
rows_in part = map row_of (records_in row_width part)

-- record k, counted from 0, whether counted or not
unfoldable pub tuple_at : List ℕ → ℕ → Tuple
tuple_at part k = tuple_of (record_at tuple_width k (drop 1 part))

unfoldable pub row_at : List ℕ → ℕ → Row
row_at part k = row_of (record_at row_width k (drop 1 part))

-- "A store is sound if each count is within capacity, each counted record is legal and belongs to its lane, and all
-- words after the counted records are 0": of one partition, where ok says that a record is legal and belongs here
unfoldable pub sound_part : ℕ → ℕ → (List ℕ → Bool) → List ℕ → Bool
sound_part w capacity ok part =
    leb (counted part) capacity && (all ok (records_in w part) && zeros (drop (room_of w (counted part)) part))

-- a record appended: the count word one up, and the record's words in the first free place
unfoldable pub appended : ℕ → List ℕ → List ℕ → List ℕ
appended w words part = sets (set part 0 (counted part + 1)) (room_of w (counted part)) words

-- record i's words over record k
unfoldable pub copied : ℕ → ℕ → ℕ → List ℕ → List ℕ
copied w i k part = sets part (room_of w k) (part_at (room_of w i) w part)

-- records i and k, each in the other's place
unfoldable pub swapped : ℕ → ℕ → ℕ → List ℕ → List ℕ
swapped w i k part = sets (copied w k i part) (room_of w k) (part_at (room_of w i) w part)

-- record k "overwritten by the lane's last record, whose words become 0", the count word one down
unfoldable pub removed : ℕ → ℕ → List ℕ → List ℕ
removed w k part =
    let last = room_of w (counted part - 1) in
    sets (sets (set part 0 (counted part - 1)) (room_of w k) (part_at last w part)) last (replicate w 0)

-- how often a row stands in a partition, and the place of the first equal tuple, of the first equal row, or the count
-- where there is none
unfoldable pub times_of_row : Row → List ℕ → ℕ
times_of_row r part = times same_row r (rows_in part)

unfoldable pub place_of_tuple : Tuple → List ℕ → ℕ
place_of_tuple t part = place_of (same_tuple t) (tuples_in part)

unfoldable pub place_of_row : Row → List ℕ → ℕ
place_of_row r part = place_of (same_row r) (rows_in part)
