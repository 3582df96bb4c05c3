-- What the definitions of specs/Part say of a kind of record, in terms of its words: the laws of the trait `Held`, of
-- tuples and of rows.
use Rattle.std.specs.Prelude.{List, ◌≡◌, refl, map, ℕ, drop}
use Rattle.lists.specs.Members.{place_of}
use Rattle.lists.specs.Words.{record_at}
use Rattle.interval.specs.Tuple.{tuple_width, tuple_of, same_tuple, row_width, row_of, same_row}
use Rattle.interval.specs.declared.tuple.Tuple.{Tuple}
use Rattle.interval.specs.declared.tuple.Row.{Row}
use Rattle.part.specs.Part.{records_in, tuples_in, rows_in, tuple_at, row_at, place_of_tuple, place_of_row}

-- tuples
pub tuples_are : (part : List ℕ) → tuples_in part ≡ map tuple_of (records_in tuple_width part)
unfolding tuples_in
tuples_are part = refl

pub tuple_is : (part : List ℕ) (k : ℕ) → tuple_at part k ≡ tuple_of (record_at tuple_width k (drop 1 part))
unfolding tuple_at
tuple_is part k = refl

pub tuple_place_is : (t : Tuple) (part : List ℕ) → place_of_tuple t part ≡ place_of (same_tuple t) (tuples_in part)
unfolding place_of_tuple
tuple_place_is t part = refl

-- rows
pub rows_are : (part : List ℕ) → rows_in part ≡ map row_of (records_in row_width part)
unfolding rows_in
rows_are part = refl

pub row_is : (part : List ℕ) (k : ℕ) → row_at part k ≡ row_of (record_at row_width k (drop 1 part))
unfolding row_at
row_is part k = refl

pub row_place_is : (r : Row) (part : List ℕ) → place_of_row r part ≡ place_of (same_row r) (rows_in part)
unfolding place_of_row
row_place_is r part = refl
