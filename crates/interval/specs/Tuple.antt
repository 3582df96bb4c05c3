-- Tuples and rows: their words, their checks, their equality.
-- The laws are in proofs/Tuples.antt.
use Rattle.std.specs.Prelude.{Bool, ◌&&◌, List, [], ◌∷◌, ℕ, get_or, ltb, eqb}
use Rattle.lists.specs.Choice.{refuse_if, first_of}
use Rattle.label.specs.Label.{label_check}
use Rattle.interval.specs.Time.{calendar_end, span, durable}
use Rattle.interval.specs.declared.time.Interval.{Interval}
use Rattle.interval.specs.declared.tuple.Tuple.{Tuple}
use Rattle.interval.specs.declared.tuple.Row.{Row}

-- the largest item number: "a drawing's number or a spot's"
abbrev pub item_end : ℕ
item_end = 999999

-- the first and the last chronon of a tuple, and the last of a row
abbrev pub from : Tuple → ℕ
from t = t.valid.first.0

abbrev pub to : Tuple → ℕ
to t = t.valid.last.0

abbrev pub row_to : Row → ℕ
row_to r = r.valid.last.0

-- "A tuple is four 64-bit words: label number, item number, first minute, last minute."
abbrev pub tuple_width : ℕ
tuple_width = 4

abbrev pub tuple : ℕ → ℕ → ℕ → ℕ → Tuple
tuple label item first last = record { label = label; item = item; valid = span first last }

abbrev pub tuple_words : Tuple → List ℕ
tuple_words t = t.label ∷ (t.item ∷ (t.valid.first.0 ∷ (t.valid.last.0 ∷ [])))

abbrev pub tuple_of : List ℕ → Tuple
tuple_of ws = tuple (get_or ws 0 0) (get_or ws 1 0) (get_or ws 2 0) (get_or ws 3 0)

-- the tuple with another interval, all else as it is
abbrev pub during : Tuple → Interval → Tuple
during t v = record { label = t.label; item = t.item; valid = v }

-- "A row is five: label, drawing number, spot number, first, last."
abbrev pub row_width : ℕ
row_width = 5

abbrev pub row : ℕ → ℕ → ℕ → ℕ → ℕ → Row
row label outer inner first last = record { label = label; outer = outer; inner = inner; valid = span first last }

abbrev pub row_words : Row → List ℕ
row_words r = r.label ∷ (r.outer ∷ (r.inner ∷ (r.valid.first.0 ∷ (r.valid.last.0 ∷ []))))

abbrev pub row_of : List ℕ → Row
row_of ws = row (get_or ws 0 0) (get_or ws 1 0) (get_or ws 2 0) (get_or ws 3 0) (get_or ws 4 0)

-- check 7: item number above 999,999
unfoldable pub item_check : ℕ → ℕ
item_check n = refuse_if (ltb item_end n) 7

-- checks 8 and 17 (document 02, (c)): "a span entered backward" "keeps 8, also where both errors are present"; one
-- "that runs past the calendar", "with first not after last and last above 99,999,999, gets 17, checked straight after
-- 8"
unfoldable pub valid_check : Interval → ℕ
valid_check v =
    first_of (refuse_if (ltb v.last.0 v.first.0) 8 ∷ (refuse_if (ltb calendar_end v.last.0) 17 ∷ []))

-- checks 6, 7, 8 and 17 of a tuple, in that order
unfoldable pub tuple_number : Tuple → ℕ
tuple_number t = first_of (label_check t.label ∷ (item_check t.item ∷ (valid_check t.valid ∷ [])))

-- "A tuple is legal if none of 6 to 8 below applies to it", nor 17: "Neither is legal in a stored tuple or row."
unfoldable pub legal_tuple : Tuple → Bool
legal_tuple t = eqb (tuple_number t) 0

-- "A row is legal if its label, both numbers and its span are."
unfoldable pub row_number : Row → ℕ
row_number r =
    first_of (label_check r.label ∷ (item_check r.outer ∷ (item_check r.inner ∷ (valid_check r.valid ∷ []))))

-- "A stored row with fewer minutes is not legal." (document 02, (f))
unfoldable pub legal_row : ℕ → Row → Bool
legal_row minimum r = eqb (row_number r) 0 && durable minimum r.valid

-- "equal labels", of an outer and an inner tuple
unfoldable pub same_label : Tuple → Tuple → Bool
same_label d s = eqb d.label s.label

-- equal in all words
unfoldable pub same_interval : Interval → Interval → Bool
same_interval a b = eqb a.first.0 b.first.0 && eqb a.last.0 b.last.0

unfoldable pub same_tuple : Tuple → Tuple → Bool
same_tuple t u = eqb t.label u.label && (eqb t.item u.item && same_interval t.valid u.valid)

unfoldable pub same_row : Row → Row → Bool
same_row r s =
    eqb r.label s.label
    && (eqb r.outer s.outer && (eqb r.inner s.inner && same_interval r.valid s.valid))
