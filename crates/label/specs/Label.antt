-- Labels, their numbers and their letters; label fields, in which a letter may stand small (document 02, (a)).
-- That each label has a number of its own, and each number from 1 to the end its label, is proved in
-- proofs/Labels.antt; what a field says, in proofs/Fields.antt.
use Rattle.std.specs.Prelude.{Bool, not, ◌&&◌, ◌||◌, List, [], ◌∷◌, ◌++◌, map, ◌≡◌, ℕ, zero, suc, ◌+◌, ◌-◌, ◌*◌, ◌/◌, ◌%◌, length, replicate, leb, ltb}
use Rattle.std.specs.Prelude.{Option, Some, None}
use Rattle.lists.specs.Choice.{pick, refuse_if}
use Rattle.lists.specs.Members.{all}
use Rattle.label.specs.declared.Letters.{Letters}

-- the largest label's number, ZZZZZZZZ
abbrev pub label_end : ℕ
label_end = 217180147158

-- a label's most letters
abbrev pub label_length : ℕ
label_length = 8

-- "the letter's rank (A = 1, Z = 26)"; a byte that is no letter A to Z has 0
unfoldable pub rank : ℕ → ℕ
rank b = pick (leb 65 b && leb b 90) (b - 64) 0

unfoldable pub is_letter : ℕ → Bool
is_letter b = ltb 0 (rank b)

-- "A label is 1 to 8 letters A to Z."
unfoldable pub is_label : List ℕ → Bool
is_label bs = leb 1 (length bs) && (leb (length bs) label_length && all is_letter bs)

-- "for each letter becomes 26 times itself plus the letter's rank"
abbrev pub number_from : ℕ → List ℕ → ℕ
number_from n [] = n
number_from n (b ∷ bs) = number_from (26 * n + rank b) bs

-- "Its number starts at 0"
unfoldable pub label_number : List ℕ → ℕ
label_number bs = number_from 0 bs

-- "A label field may now hold a to z, each with the rank of its capital.": the capital of a small letter, 32 below it;
-- any other byte is its own
unfoldable pub capital : ℕ → ℕ
capital b = pick (leb 97 b && leb b 122) (b - 32) b

-- a field's bytes with each small letter as its capital: a field is read as these
unfoldable pub capitals : List ℕ → List ℕ
capitals bs = map capital bs

-- bytes that are a label once their small letters are capitals, and that label's number
unfoldable pub is_label_field : List ℕ → Bool
is_label_field bs = is_label (capitals bs)

unfoldable pub field_label_number : List ℕ → ℕ
field_label_number bs = label_number (capitals bs)

-- the number of a field's bytes, or 0, which is no label's number, where they are no label field
unfoldable pub number_or_none : List ℕ → ℕ
number_or_none bs = pick (is_label_field bs) (field_label_number bs) 0

-- check 6: label number out of range
unfoldable pub label_check : ℕ → ℕ
label_check n = refuse_if (ltb n 1 || ltb label_end n) 6

-- the letters of n, at most k of them, in front of those in hand: the last has the rank, from 1 to 26, that 26 leaves
-- of n, and those before it are the letters of what n then has left
abbrev pub letters_before : ℕ → ℕ → List ℕ → List ℕ
letters_before zero n after = after
letters_before (suc k) zero after = after
letters_before (suc k) (suc m) after = letters_before k (m / 26) ((65 + m % 26) ∷ after)

-- the letters of a label's number; a number of no label has none
unfoldable pub letters_of : ℕ → List ℕ
letters_of n = pick (ltb n 1 || ltb label_end n) [] (letters_before label_length n [])

-- the reader's answer in document 01's terms: the refusal number (15: not of the form) and the label's number
abbrev pub field_number : Option ℕ → ℕ
field_number (Some n) = 0
field_number None = 15

abbrev pub field_label : Option ℕ → ℕ
field_label (Some n) = n
field_label None = 0

-- a label field that was read: 15 exactly where the bytes are no label field, else its number ("A small letter in a
-- label no longer gives 15.")
pub record LabelRead (bs : List ℕ) (r : Option ℕ) : Type 0 where
  pub number : field_number r ≡ refuse_if (not (is_label_field bs)) 15
  pub label : field_label r ≡ number_or_none bs

-- the letters of a number that were written: so many, in order, and zeros after them
pub record LettersWritten (n : ℕ) (r : Letters) : Type 0 where
  pub count : r.count ≡ length (letters_of n)
  pub bytes : r.bytes ≡ letters_of n ++ replicate (label_length - length (letters_of n)) 0
