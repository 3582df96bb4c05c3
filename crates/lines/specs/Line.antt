-- A line (document 01, "Lines and the program"): its form, its value, and the line that a value prints as.
use Rattle.std.specs.Prelude.{◌&&◌, List, [], ◌∷◌, ◌++◌, ℕ, leb, eqb, length}
use Rattle.lists.specs.Choice.{pick}
use Rattle.label.specs.Label.{letters_of, capitals, is_label_field, field_label_number}
use Rattle.interval.specs.Tuple.{from, to, tuple}
use Rattle.interval.specs.declared.tuple.Tuple.{Tuple}
use Rattle.lines.specs.Fields.{comma, fields_of, joined, same_bytes, is_number, value_of, digits_of}
use Rattle.lines.specs.declared.Word.{Word}
use Rattle.lines.specs.declared.Word.TheVariants.{DrawIn, DrawOut, SpotIn, SpotOut}
use Rattle.lines.specs.declared.Line.{Line}
use Rattle.lines.specs.declared.Line.TheVariants.{Lane, Least, Change, Malformed}

-- "A line is at most 80 bytes before its byte 10"
abbrev pub line_length : ℕ
line_length = 80

-- the words, as bytes: `lane`, `least`, `drawin`, `drawout`, `spotin`, `spotout`
abbrev pub lane_bytes : List ℕ
lane_bytes = 108 ∷ (97 ∷ (110 ∷ (101 ∷ [])))

abbrev pub least_bytes : List ℕ
least_bytes = 108 ∷ (101 ∷ (97 ∷ (115 ∷ (116 ∷ []))))

abbrev pub bytes_of : Word → List ℕ
bytes_of DrawIn = 100 ∷ (114 ∷ (97 ∷ (119 ∷ (105 ∷ (110 ∷ [])))))
bytes_of DrawOut = 100 ∷ (114 ∷ (97 ∷ (119 ∷ (111 ∷ (117 ∷ (116 ∷ []))))))
bytes_of SpotIn = 115 ∷ (112 ∷ (111 ∷ (116 ∷ (105 ∷ (110 ∷ [])))))
bytes_of SpotOut = 115 ∷ (112 ∷ (111 ∷ (116 ∷ (111 ∷ (117 ∷ (116 ∷ []))))))

-- `lane,LAST`
unfoldable pub lane_of : List ℕ → Line
lane_of m = pick (is_number m) (Lane (record { 0 = value_of m })) Malformed

-- "a line `least,NUMBER`" (document 02, (f)), whatever its number: that it is out of range is not of the form but of
-- the session
unfoldable pub least_of : List ℕ → Line
least_of m = pick (is_number m) (Least (value_of m)) Malformed

-- the tuple that a change's fields after its word say: label, number, first minute, last minute
abbrev pub tuple_read : List ℕ → List ℕ → List ℕ → List ℕ → Tuple
tuple_read l n a b = tuple (field_label_number l) (value_of n) (value_of a) (value_of b)

-- a word, then `,LABEL,NUMBER,FIRST,LAST`; "A label field may now hold a to z" (document 02, (a)), no other field may
unfoldable pub change_of : Word → List ℕ → List ℕ → List ℕ → List ℕ → Line
change_of w l n a b =
    pick (is_label_field l && (is_number n && (is_number a && is_number b)))
    (Change w (tuple_read l n a b))
    Malformed

-- the fields of a change after its word; those after its label; and those after its label and its number
unfoldable pub change_form : Word → List (List ℕ) → Line
change_form w (l ∷ (n ∷ (a ∷ (b ∷ [])))) = change_of w l n a b
change_form w [] = Malformed
change_form w (l ∷ []) = Malformed
change_form w (l ∷ (n ∷ [])) = Malformed
change_form w (l ∷ (n ∷ (a ∷ []))) = Malformed
change_form w (l ∷ (n ∷ (a ∷ (b ∷ (c ∷ more))))) = Malformed

unfoldable pub numbers_form : Word → ℕ → List (List ℕ) → Line
numbers_form w label (n ∷ (a ∷ (b ∷ []))) =
    pick (is_number n && (is_number a && is_number b))
    (Change w (tuple label (value_of n) (value_of a) (value_of b)))
    Malformed
numbers_form w label [] = Malformed
numbers_form w label (n ∷ []) = Malformed
numbers_form w label (n ∷ (a ∷ [])) = Malformed
numbers_form w label (n ∷ (a ∷ (b ∷ (c ∷ more)))) = Malformed

unfoldable pub span_form : Word → ℕ → ℕ → List (List ℕ) → Line
span_form w label item (a ∷ (b ∷ [])) =
    pick (is_number a && is_number b) (Change w (tuple label item (value_of a) (value_of b))) Malformed
span_form w label item [] = Malformed
span_form w label item (a ∷ []) = Malformed
span_form w label item (a ∷ (b ∷ (c ∷ more))) = Malformed

-- the change of the word that the first field is
unfoldable pub worded : List ℕ → (Word → Line) → Line
worded w f =
    pick (same_bytes w (bytes_of DrawIn)) (f DrawIn)
    (pick (same_bytes w (bytes_of DrawOut)) (f DrawOut)
    (pick (same_bytes w (bytes_of SpotIn)) (f SpotIn) (pick (same_bytes w (bytes_of SpotOut)) (f SpotOut) Malformed)))

-- "Fields stand in fixed order": two for a lane and for a minimum, five for a change
unfoldable pub form_of : List (List ℕ) → Line
form_of (w ∷ (m ∷ [])) = pick (same_bytes w lane_bytes) (lane_of m) (pick (same_bytes w least_bytes) (least_of m) Malformed)
form_of (w ∷ (l ∷ (n ∷ (a ∷ (b ∷ []))))) = worded w (λ v. change_of v l n a b)
form_of [] = Malformed
form_of (w ∷ []) = Malformed
form_of (w ∷ (l ∷ (n ∷ []))) = Malformed
form_of (w ∷ (l ∷ (n ∷ (a ∷ [])))) = Malformed
form_of (w ∷ (l ∷ (n ∷ (a ∷ (b ∷ (c ∷ more)))))) = Malformed

-- the value of a line, given the bytes before its byte 10
unfoldable pub line_of : List ℕ → Line
line_of bs = pick (leb (length bs) line_length) (form_of (fields_of bs)) Malformed

-- document 01's number for it: 15, "not of the form below"
abbrev pub line_number : Line → ℕ
line_number (Lane m) = 0
line_number (Least n) = 0
line_number (Change w t) = 0
line_number Malformed = 15

-- the line that prints a value ("Output still prints capitals.")
abbrev pub printed : Line → List ℕ
printed (Lane m) = lane_bytes ++ (comma ∷ digits_of m.0)
printed (Least n) = least_bytes ++ (comma ∷ digits_of n)
printed (Change w t) =
    bytes_of w
    ++ (comma ∷ (letters_of t.label
    ++ (comma ∷ (digits_of t.item ++ (comma ∷ (digits_of (from t) ++ (comma ∷ digits_of (to t))))))))
printed Malformed = []

-- the fields of a line with its label in capitals, the second of a change's five; and such a line
unfoldable pub label_in_capitals : List (List ℕ) → List (List ℕ)
label_in_capitals [] = []
label_in_capitals (w ∷ []) = w ∷ []
label_in_capitals (w ∷ (l ∷ more)) = w ∷ (pick (eqb (length more) 3) (capitals l) l ∷ more)

unfoldable pub in_capitals : List ℕ → List ℕ
in_capitals bs = joined (label_in_capitals (fields_of bs))
