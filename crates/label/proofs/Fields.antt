-- Label fields: a field is read as the capitals of its bytes.
-- In order: the capital of a byte; the capitals of bytes; a label is a field and keeps its number; what a field's
-- number is and what it prints as (field-range, letters-of-field), and that fields with one number differ only in which
-- of their letters are small (field-unique).
-- Assumes nothing.
use mathlib.Core.Bool.{true, ◌&&◌}
use mathlib.Core.List.{List, [], ◌∷◌}
use mathlib.Core.Logic.{◌⊎◌, inl, inr, ⊎_elim}
use mathlib.Core.Path.{◌≡◌, refl, sym, ◌∙◌, ap, ap₂}
use Prim.Native.Nat.{ℕ, ◌+◌, ◌-◌, ◌≤◌, ◌<◌}
use native.Mathlib.Omega.{arith}
use lib.ListN.{length, length-map}
use lib.Dec.{leb}
use borrow.Author.Tests.{le-leb, lt-leb, leb-true}
use Rattle.lists.specs.Members.{all}
use Rattle.lists.proofs.Choice.{bool_cases, and_left, and_right, pick_true, pick-false}
use Rattle.label.specs.Label.{label_end, label_length, is_letter, is_label, label_number, letters_of, capital, capitals}
use Rattle.label.specs.Label.{is_label_field, field_label_number}
use Rattle.label.proofs.Labels.{rank_most, letter-is, parts-of-label, label-range, letters-of-label}

-- ---- the capital of a byte

-- "each with the rank of its capital": the r-th small letter from a, counted from 0, is read as the r-th from A
pub capital-of-small : (r : ℕ) → r < 26 → capital (97 + r) ≡ 65 + r
unfolding capital
capital-of-small r h = rw (le-leb 97 (97 + r) (omega arith), le-leb (97 + r) 122 (omega arith)) (omega arith)

-- any other byte is its own
pub capital-below : (b : ℕ) → b < 97 → capital b ≡ b
unfolding capital
capital-below b h = rw (lt-leb 97 b h)

pub capital-above : (b : ℕ) → 122 < b → capital b ≡ b
unfolding capital
capital-above b h = rw (le-leb 97 b (omega arith), lt-leb b 122 h)

-- a byte is a small letter, and its capital 32 below it, or it is its own capital
pub capital-cases : (b : ℕ) → ((97 ≤ b) × (b ≤ 122) × (capital b ≡ b - 32)) ⊎ (capital b ≡ b)
unfolding capital
capital-cases b =
    ⊎_elim
    (λ e. inl (
      leb-true 97 b (and_left (leb 97 b) (leb b 122) e),
      leb-true b 122 (and_right (leb 97 b) (leb b 122) e),
      pick_true (leb 97 b && leb b 122) (b - 32) b e,
    ))
    (λ e. inr (pick-false (leb 97 b && leb b 122) (b - 32) b e))
    (bool_cases (leb 97 b && leb b 122))

-- a capital is its own
capital-again : (b : ℕ) → capital (capital b) ≡ capital b
capital-again b = ⊎_elim (λ p. capital-below (capital b) (omega (arith, p))) (ap capital) (capital-cases b)

-- ---- the capitals of bytes

pub capitals-length : (bs : List ℕ) → length (capitals bs) ≡ length bs
unfolding capitals
capitals-length bs = length-map bs capital

capitals-again : (bs : List ℕ) → capitals (capitals bs) ≡ capitals bs
unfolding capitals
capitals-again [] = refl
capitals-again (b ∷ bs) = ap₂ ◌∷◌ (capital-again b) (capitals-again bs)

-- ---- a label is a field and keeps its number

letters-own : (bs : List ℕ) → all is_letter bs ≡ true → capitals bs ≡ bs
unfolding capitals
letters-own [] h = refl
letters-own (b ∷ bs) h =
    ap₂ ◌∷◌ (capital-below b (omega (arith, rank_most b, letter-is b (and_left (is_letter b) (all is_letter bs) h))))
    (letters-own bs (and_right (is_letter b) (all is_letter bs) h))

label-own : (bs : List ℕ) → is_label bs ≡ true → capitals bs ≡ bs
label-own bs h = letters-own bs (parts-of-label bs h).2

pub label-is-field : (bs : List ℕ) → is_label bs ≡ true
    → (is_label_field bs ≡ true) × (field_label_number bs ≡ label_number bs)
unfolding is_label_field field_label_number
label-is-field bs h = (ap is_label (label-own bs h) ∙ h, ap label_number (label-own bs h))

-- ---- what a field says

-- it has at most eight bytes
pub field-short : (bs : List ℕ) → is_label_field bs ≡ true → length bs ≤ label_length
unfolding is_label_field
field-short bs h = omega (arith, capitals-length bs, parts-of-label (capitals bs) h)

-- in capitals it is a field, with the same number, or none as before
pub field-again : (bs : List ℕ) → is_label_field (capitals bs) ≡ is_label_field bs
unfolding is_label_field
field-again bs = ap is_label (capitals-again bs)

pub number-again : (bs : List ℕ) → field_label_number (capitals bs) ≡ field_label_number bs
unfolding field_label_number
number-again bs = ap label_number (capitals-again bs)

-- its number is a label's
pub field-range : (bs : List ℕ) → is_label_field bs ≡ true
    → (1 ≤ field_label_number bs) × (field_label_number bs ≤ label_end)
unfolding is_label_field field_label_number
field-range bs h = label-range (capitals bs) h

-- "Output still prints capitals.": the letters of its number are the field in capitals
pub letters-of-field : (bs : List ℕ) → is_label_field bs ≡ true → letters_of (field_label_number bs) ≡ capitals bs
unfolding is_label_field field_label_number
letters-of-field bs h = letters-of-label (capitals bs) h

-- two fields with one number are one label in capitals
pub field-unique : (xs ys : List ℕ) → is_label_field xs ≡ true → is_label_field ys ≡ true
    → field_label_number xs ≡ field_label_number ys → capitals xs ≡ capitals ys
field-unique xs ys hx hy e = sym (letters-of-field xs hx) ∙ ap letters_of e ∙ letters-of-field ys hy
