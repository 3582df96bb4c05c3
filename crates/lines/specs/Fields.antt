-- The fields of a line: bytes parted by commas, numbers, and words.
-- The laws are in proofs/.
use Rattle.std.specs.Prelude.{Bool, true, false, not, ◌&&◌, ◌||◌, List, [], ◌∷◌, ◌++◌, ◌≡◌, ℕ, zero, suc, ◌+◌, ◌-◌, ◌*◌, ◌/◌, ◌%◌, leb, eqb, length, get_or}
use Rattle.std.specs.Prelude.{Option, Some, None}
use Rattle.lists.specs.Choice.{pick, refuse_if}
use Rattle.lists.specs.Members.{all}

-- the byte of a comma, and the byte that ends a line
abbrev pub comma : ℕ
comma = 44

abbrev pub line_end : ℕ
line_end = 10

-- b is that byte
abbrev pub is_byte : ℕ → ℕ → Bool
is_byte byte b = eqb b byte

abbrev pub is_comma : ℕ → Bool
is_comma b = is_byte comma b

-- a byte in front of a list of fields: the first field's first
abbrev pub on_first : ℕ → List (List ℕ) → List (List ℕ)
on_first b [] = (b ∷ []) ∷ []
on_first b (f ∷ fs) = (b ∷ f) ∷ fs

-- "parted by commas, no quoting": what stands before, between and after the commas
abbrev pub fields_of : List ℕ → List (List ℕ)
fields_of [] = [] ∷ []
fields_of (b ∷ bs) = pick (is_comma b) ([] ∷ fields_of bs) (on_first b (fields_of bs))

-- fields with commas between them: of the fields of bytes, these bytes (proofs/Fields.antt, join-fields)
abbrev pub joined : List (List ℕ) → List ℕ
joined [] = []
joined (f ∷ []) = f
joined (f ∷ (g ∷ more)) = f ++ (comma ∷ joined (g ∷ more))

-- two runs of bytes are the same
abbrev pub same_bytes : List ℕ → List ℕ → Bool
same_bytes [] [] = true
same_bytes [] (b ∷ bs) = false
same_bytes (a ∷ rest) [] = false
same_bytes (a ∷ rest) (b ∷ bs) = eqb a b && same_bytes rest bs

-- "A number is 1 to 8 decimal digits, no leading 0 but `0` itself."
abbrev pub most_digits : ℕ
most_digits = 8

abbrev pub is_digit : ℕ → Bool
is_digit b = leb 48 b && leb b 57

unfoldable pub is_number : List ℕ → Bool
is_number bs =
    leb 1 (length bs)
    && (leb (length bs) most_digits && (all is_digit bs && (eqb (length bs) 1 || not (eqb (get_or bs 0 0) 48))))

-- its value
abbrev pub value_from : ℕ → List ℕ → ℕ
value_from n [] = n
value_from n (b ∷ bs) = value_from (10 * n + (b - 48)) bs

unfoldable pub value_of : List ℕ → ℕ
value_of bs = value_from 0 bs

-- the value that a number field's answer stands for, and document 01's number for it
abbrev pub field_number : Option ℕ → ℕ
field_number (Some n) = 0
field_number None = 15

abbrev pub field_value : Option ℕ → ℕ
field_value (Some n) = n
field_value None = 0

-- a number field that was read: 15 exactly where the bytes are no number, else its value
pub record NumberRead (bs : List ℕ) (r : Option ℕ) : Type 0 where
  pub number : field_number r ≡ refuse_if (not (is_number bs)) 15
  pub value : field_value r ≡ pick (is_number bs) (value_of bs) 0

-- the decimal digits of n, at most k of them, in front of those in hand
abbrev pub digits_before : ℕ → ℕ → List ℕ → List ℕ
digits_before zero n after = after
digits_before (suc k) zero after = after
digits_before (suc k) (suc m) after = digits_before k (suc m / 10) ((48 + suc m % 10) ∷ after)

-- a number below 10^20 in decimal digits, `0` for 0
unfoldable pub digits_of : ℕ → List ℕ
digits_of n = pick (eqb n 0) (48 ∷ []) (digits_before 20 n [])
