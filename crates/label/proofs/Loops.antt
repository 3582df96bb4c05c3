-- The loops of this crate: summing a label's letters, and writing a number's letters, each from the last.
-- In order: numbers of other bytes; `Read`, the invariant of `label_number`, with its laws; `Written`, that of
-- `letters_of`, with its laws.
-- Assumes nothing.
use mathlib.Core.Bool.{true, false, ◌&&◌, ◌||◌, and-false}
use mathlib.Core.List.{List, [], ◌∷◌, ◌++◌, map}
use mathlib.Core.Logic.{◌⊎◌, inl, inr, ⊎_elim}
use mathlib.Core.Path.{◌≡◌, refl, sym, ◌∙◌, ap}
use Prim.Native.Nat.{ℕ, zero, suc, ◌+◌, ◌-◌, ◌*◌, ◌/◌, ◌%◌, ◌^◌, ◌≤◌, ◌<◌}
use native.Mathlib.Nat.{add_comm, mul-le-mul}
use native.Mathlib.Omega.{arith}
use lib.ListN.{length, length-drop, get_or, take, drop, drop_of_length-le, replicate}
use lib.Seq.{drop-cons, take-append-add}
use lib.Dec.{leb, ltb}
use borrow.Author.Tests.{lt-ltb, le-leb, lt-leb}
use Rattle.lists.specs.Members.{all}
use Rattle.lists.proofs.Choice.{bool_cases, or_right, pick_true, pick-false}
use Rattle.lists.proofs.Members.{all_map, all-get_or}
use Rattle.label.specs.Label.{label_end, label_length, rank, is_letter, is_label}
use Rattle.label.specs.Label.{capital, capitals, is_label_field, field_label_number, number_or_none}
use Rattle.label.specs.Label.{letters_before, letters_of, LabelRead, LettersWritten}
use Rattle.label.specs.Weights.{right_weights, weighted}
use Rattle.std.specs.Prelude.{Some, None}
use Rattle.label.proofs.Labels.{letter-is, largest, letters-are, none_left}
use Rattle.label.proofs.Fields.{capitals-length, field-range}
use Rattle.label.proofs.Weights.{weight-most, weighted-number, sum-most}

-- ---- bytes that are no label field

none_of : (bs : List ℕ) → is_label_field bs ≡ false → 0 ≡ number_or_none bs
unfolding number_or_none
none_of bs e = sym (pick-false (is_label_field bs) (field_label_number bs) 0 e)

label_of : (bs : List ℕ) → is_label_field bs ≡ true → number_or_none bs ≡ field_label_number bs
unfolding number_or_none
label_of bs e = pick_true (is_label_field bs) (field_label_number bs) 0 e

-- a field's length, and its letters
field_is : (bs : List ℕ)
    → is_label_field bs ≡ (leb 1 (length bs) && (leb (length bs) label_length && all is_letter (capitals bs)))
unfolding is_label_field is_label
field_is bs = rw (capitals-length bs)

pub none-short : (bs : List ℕ) → length bs < 1 → 0 ≡ number_or_none bs
none-short bs h = none_of bs (field_is bs ∙ rw (lt-leb 1 (length bs) h))

pub none-long : (bs : List ℕ) → 8 < length bs → 0 ≡ number_or_none bs
none-long bs h = none_of bs (field_is bs ∙ rw (lt-leb (length bs) 8 h) (and-false (leb 1 (length bs))))

-- ---- reading from the last: the k bytes at the end are read, all of them letters, and n is their sum

pub record Read (weights bs : List ℕ) (k n : ℕ) : Type 0 where
  pub within : k ≤ length bs
  pub letters : all is_letter (capitals (drop (length bs - k) bs)) ≡ true
  pub number : n ≡ weighted weights (capitals (drop (length bs - k) bs))

pub read_none : (ws bs : List ℕ) → Read ws bs 0 0
unfolding capitals weighted
read_none ws bs =
    let none : drop (length bs - 0) bs ≡ [] = drop_of_length-le bs {i = length bs - 0} (omega arith) in
    record { within = omega arith; letters = rw none; number = rw none }

-- the place of the byte that k bytes follow
abbrev pub place : List ℕ → ℕ → ℕ
place bs k = length bs - 1 - k

-- its capital stands before those of the k bytes
capitals-from : (bs : List ℕ) (k : ℕ) → k < length bs
    → capitals (drop (length bs - (k + 1)) bs) ≡ capital (get_or bs (place bs k) 0) ∷ capitals (drop (length bs - k) bs)
unfolding capitals
capitals-from bs k h =
    let here : length bs - (k + 1) ≡ place bs k = omega arith in
    let next : suc (place bs k) ≡ length bs - k = omega arith in
    rw (here, ← next) (ap (map capital) (drop-cons bs (place bs k) 0 (omega arith)))

-- so many are read
read_length : (bs : List ℕ) (k : ℕ) → k ≤ length bs → length (capitals (drop (length bs - k) bs)) ≡ k
read_length bs k h =
    omega (arith, capitals-length (drop (length bs - k) bs), length-drop (length bs - k) bs)

-- a letter more: its rank times the weight for the k letters after it
pub read_more : (ws bs : List ℕ) (k n : ℕ) → k < length bs → 0 < rank (capital (get_or bs (place bs k) 0))
    → Read ws bs k n → Read ws bs (k + 1) (n + rank (capital (get_or bs (place bs k) 0)) * get_or ws k 0)
unfolding is_letter weighted
read_more ws bs k n h g r = record {
  within = omega arith;
  letters = rw (capitals-from bs k h, lt-ltb 0 (rank (capital (get_or bs (place bs k) 0))) g) r.letters;
  number = rw (capitals-from bs k h, read_length bs k r.within, ← r.number)
      (add_comm n (rank (capital (get_or bs (place bs k) 0)) * get_or ws k 0));
}

-- a rank's product with any weight fits, and can be added to n, which is at most the largest label's number
pub product-fits : (ws : List ℕ) (r j : ℕ) → right_weights ws ≡ true → r ≤ 26 → j < 8
    → r * get_or ws j 0 ≤ 26 * 26 ^ 7
product-fits ws r j t h g = mul-le-mul h (weight-most ws t j g)

pub sum_fits : (ws bs : List ℕ) (k n r j : ℕ) → right_weights ws ≡ true → length bs ≤ 8 → Read ws bs k n → r ≤ 26
    → j < 8 → n + r * get_or ws j 0 ≤ label_end + 26 * 26 ^ 7
sum_fits ws bs k n r j t hi read h g =
    omega (
      arith,
      read.number,
      sum-most ws (capitals (drop (length bs - k) bs)) t (omega (arith, read_length bs k read.within, read.within)),
      product-fits ws r j t h g,
    )

-- a byte that is no letter
pub read-stop : (bs : List ℕ) (i : ℕ) → rank (capital (get_or bs i 0)) ≡ 0 → i < length bs → 0 ≡ number_or_none bs
unfolding capitals
read-stop bs i g h = ⊎_elim (λ e. absurd (letter e)) other (bool_cases (all is_letter (capitals bs)))
  where
    letter : all is_letter (capitals bs) ≡ true → ⊥
    letter e =
        let at : is_letter (capital (get_or bs i 0)) ≡ true =
        all-get_or (λ b. is_letter (capital b)) bs 0 (sym (all_map is_letter capital bs) ∙ e) i h in
        omega (arith, letter-is (capital (get_or bs i 0)) at)

    other : all is_letter (capitals bs) ≡ false → 0 ≡ number_or_none bs
    other e =
        none_of bs
        (field_is bs ∙ rw (e, and-false (leb (length bs) label_length)) (and-false (leb 1 (length bs))))

-- all letters
pub read_all : (ws bs : List ℕ) (k n : ℕ) → right_weights ws ≡ true → 1 ≤ length bs → length bs ≤ 8 → length bs ≤ k
    → Read ws bs k n → n ≡ number_or_none bs
unfolding field_label_number
read_all ws bs k n t lo hi h r =
    let all_read : length bs - k ≡ 0 = omega arith in
    let letters : all is_letter (capitals bs) ≡ true = rw all_read at r.letters in
    let number : n ≡ weighted ws (capitals bs) = rw all_read at r.number in
    number
    ∙ weighted-number ws (capitals bs) t (omega (arith, capitals-length bs))
    ∙ sym (label_of bs (field_is bs ∙ rw (le-leb 1 (length bs) lo, le-leb (length bs) label_length hi) letters))

-- ---- the field: 0 stands for no label, and is no label's number

label-or-none : (bs : List ℕ) → ((is_label_field bs ≡ true) × (1 ≤ number_or_none bs)) ⊎
    ((is_label_field bs ≡ false) × (number_or_none bs ≡ 0))
label-or-none bs = ⊎_elim (λ e. inl (e, is e)) (λ e. inr (e, sym (none_of bs e))) (bool_cases (is_label_field bs))
  where
    is : is_label_field bs ≡ true → 1 ≤ number_or_none bs
    is e = omega (arith, field-range bs e, label_of bs e)

pub read-refused : (bs : List ℕ) (n : ℕ) → n ≡ number_or_none bs → n ≡ 0 → LabelRead bs None
read-refused bs n e z = ⊎_elim (λ p. absurd (omega arith)) (λ p. record { number = rw p.0; label = sym p.1 })
    (label-or-none bs)

pub read-accepted : (bs : List ℕ) (n : ℕ) → n ≡ number_or_none bs → (n ≡ 0 → ⊥) → LabelRead bs (Some n)
read-accepted bs n e z = ⊎_elim (λ p. record { number = rw p.0; label = e }) (λ p. absurd (omega arith))
    (label-or-none bs)

-- ---- writing: the letters in hand are the first `count` bytes, zeros after them, and n has the letters before them

pub record Written (number : ℕ) (bytes : List ℕ) (count n : ℕ) : Type 0 where
  pub after : List ℕ
  pub counted : count ≡ length after
  pub most : count ≤ 8
  pub small : n ≤ largest (8 - count)
  pub holds : bytes ≡ after ++ replicate (8 - count) 0
  pub letters : letters_of number ≡ letters_before (8 - count) n after

-- the letters of any number up to the largest label's
letters-within : (n : ℕ) → n ≤ label_end → letters_of n ≡ letters_before 8 n []
unfolding letters_of
letters-within zero h = refl
letters-within (suc n) h = letters-are (suc n) (omega arith) h

pub written_none : (number : ℕ) → number ≤ label_end → Written number (replicate 8 0) 0 number
written_none number h = record {
  after = [];
  counted = refl;
  most = omega arith;
  small = h;
  holds = refl;
  letters = letters-within number h;
}

-- a first letter more, the last of eight bytes falls away
shifted : (xs : List ℕ) (k : ℕ) → length xs + k ≡ 7 → take 7 (xs ++ replicate (suc k) 0) ≡ xs ++ replicate k 0
shifted xs k e =
    ap (λ (m : ℕ). take m (xs ++ replicate (suc k) 0)) (sym e)
    ∙ take-append-add xs (replicate (suc k) 0) k
    ∙ ap (λ (ys : List ℕ). xs ++ ys) (fewer k)
  where
    fewer : (k : ℕ) → ◌≡◌ {A = List ℕ} (take k (replicate (suc k) 0)) (replicate k 0)
    fewer zero = refl
    fewer (suc k) = ap (λ (ys : List ℕ). 0 ∷ ys) (fewer k)

pub written-fits : (number : ℕ) (bytes : List ℕ) (count n : ℕ) → (n ≡ 0 → ⊥) → Written number bytes count n → count < 8
written-fits number bytes count n h w = room (8 - count) refl w.small
  where
    room : (k : ℕ) → 8 - count ≡ k → n ≤ largest k → count < 8
    room zero e s = absurd (h (omega arith))
    room (suc k) e s = omega arith

pub written-more : (number : ℕ) (bytes : List ℕ) (count n : ℕ) → (n ≡ 0 → ⊥) → Written number bytes count n
    → Written number ((65 + (n - 1) % 26) ∷ take 7 bytes) (count + 1) ((n - 1) / 26)
written-more number bytes count zero h w = absurd (h refl)
written-more number bytes count (suc m) h w =
    let fits : count < 8 = written-fits number bytes count (suc m) h w in
    step (7 - count) (omega arith) (omega arith) (omega arith)
  where
    step : (k : ℕ) → 8 - count ≡ suc k → 8 - (count + 1) ≡ k → suc m - 1 ≡ m
        → Written number ((65 + (suc m - 1) % 26) ∷ take 7 bytes) (count + 1) ((suc m - 1) / 26)
    step k e f g = record {
      after = (65 + (suc m - 1) % 26) ∷ w.after;
      counted = omega (arith, w.counted);
      most = omega arith;
      small =
          let s : suc m ≤ largest (suc k) = rw e at w.small in
          rw (f, g) (omega arith);
      holds =
          rw f
          (ap (λ (ys : List ℕ). (65 + (suc m - 1) % 26) ∷ ys)
          (ap (λ (ys : List ℕ). take 7 ys) (rw e at w.holds) ∙ shifted w.after k (omega (arith, w.counted))));
      letters = rw (f, g) (rw e at w.letters);
    }

-- all letters are in hand
pub written_all : (number : ℕ) (bytes : List ℕ) (count n : ℕ) → n ≡ 0 → Written number bytes count n
    → LettersWritten number (record { bytes = bytes; count = count })
written_all number bytes count n z w =
    let e : letters_of number ≡ w.after =
    w.letters ∙ ap (λ (m : ℕ). letters_before (8 - count) m w.after) z ∙ none_left (8 - count) w.after in
    record {
      count = w.counted ∙ sym (ap length e);
      bytes = rw (e, ← w.counted) w.holds;
    }

-- a number of no label has no letters
no-letters : (number : ℕ) → label_end < number → letters_of number ≡ []
unfolding letters_of
no-letters number h =
    pick_true (ltb number 1 || ltb label_end number) [] (letters_before label_length number [])
    (or_right (ltb number 1) (ltb label_end number) (lt-ltb label_end number h))

pub never : (number : ℕ) → label_end < number → LettersWritten number (record { bytes = replicate 8 0; count = 0 })
never number h = record { count = sym (ap length (no-letters number h)); bytes = rw (no-letters number h) }
