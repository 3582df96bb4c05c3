-- Labels and their numbers: each label's number is from 1 to label_end, the letters of a label's number are that label,
-- and the number of a number's letters is that number. So no two labels share a number.
-- In order: ranks of letters; the bounds of a number; letters of a number and back; the theorems (label-range,
-- letters-of-label, label-of-letters, number-of-letters, label-unique).
-- Assumes nothing.
use mathlib.Core.Bool.{true, false, ◌&&◌, ◌||◌, false≢true}
use mathlib.Core.List.{List, [], ◌∷◌, ◌++◌, append-nil}
use mathlib.Core.Logic.{⊎_elim}
use mathlib.Core.Path.{◌≡◌, refl, sym, ◌∙◌, ap, subst}
use Prim.Native.Nat.{ℕ, zero, suc, ◌+◌, ◌-◌, ◌*◌, ◌/◌, ◌%◌, ◌≤◌, ◌<◌}
use native.Mathlib.Nat.{add-zero}
use native.Mathlib.Omega.{arith}
use lib.ListN.{length}
use lib.Dec.{leb, ltb}
use borrow.Author.Tests.{lt-ltb, le-ltb, le-leb, leb-true}
use Rattle.lists.specs.Choice.{pick}
use Rattle.lists.specs.Members.{all}
use Rattle.lists.proofs.Choice.{bool_cases, and_left, and_right, and_both, or-none, pick-false}
use Rattle.label.specs.Label.{label_end, label_length, rank, is_letter, is_label, number_from, label_number}
use Rattle.label.specs.Label.{letters_before, letters_of}

-- ---- ranks

-- a rank is at most 26, and a letter is the byte 64 above its rank
pub rank_most : (b : ℕ) → rank b ≤ 26
unfolding rank
rank_most b = ⊎_elim letter other (bool_cases (leb 65 b && leb b 90))
  where
    letter : (leb 65 b && leb b 90) ≡ true → pick (leb 65 b && leb b 90) (b - 64) 0 ≤ 26
    letter e = rw e (omega (arith, leb-true b 90 (and_right (leb 65 b) (leb b 90) e)))

    other : (leb 65 b && leb b 90) ≡ false → pick (leb 65 b && leb b 90) (b - 64) 0 ≤ 26
    other e = rw e (omega arith)

pub letter-is : (b : ℕ) → is_letter b ≡ true → (1 ≤ rank b) × (64 + rank b ≡ b)
unfolding rank is_letter
letter-is b h = ⊎_elim letter other (bool_cases (leb 65 b && leb b 90))
  where
    letter :
        (leb 65 b && leb b 90) ≡ true
        → (1 ≤ pick (leb 65 b && leb b 90) (b - 64) 0) × (64 + pick (leb 65 b && leb b 90) (b - 64) 0 ≡ b)
    letter e = rw e (omega (arith, leb-true 65 b (and_left (leb 65 b) (leb b 90) e)))

    other :
        (leb 65 b && leb b 90) ≡ false
        → (1 ≤ pick (leb 65 b && leb b 90) (b - 64) 0) × (64 + pick (leb 65 b && leb b 90) (b - 64) 0 ≡ b)
    other e = absurd (false≢true (rw e at h))

-- the r-th letter from A, counted from 0
pub rank-of-letter : (r : ℕ) → r < 26 → rank (65 + r) ≡ r + 1
unfolding rank
rank-of-letter r h =
    rw (le-leb 65 (65 + r) (omega arith), le-leb (65 + r) 90 (omega arith)) (omega arith)

pub letter-there : (r : ℕ) → r < 26 → is_letter (65 + r) ≡ true
unfolding is_letter
letter-there r h = lt-ltb 0 (rank (65 + r)) (omega (arith, rank-of-letter r h))

-- ---- the bounds of a number

-- the largest number of k letters: Z, k times
abbrev pub largest : ℕ → ℕ
largest zero = 0
largest (suc k) = 26 * largest k + 26

largest-rises : (i j : ℕ) → i ≤ j → largest i ≤ largest j
largest-rises zero j h = omega arith
largest-rises (suc i) zero h = absurd (omega arith)
largest-rises (suc i) (suc j) h = omega (arith, largest-rises i j (omega arith))

-- a letter more: what n becomes
number_step : (k n b : ℕ) → n ≤ largest k → 26 * n + rank b ≤ largest (suc k)
number_step k n b h = omega (arith, rank_most b)

shift : (k m : ℕ) → suc k + m ≡ k + suc m
shift k m = omega arith

number-within : (k n : ℕ) (bs : List ℕ) → n ≤ largest k → number_from n bs ≤ largest (k + length bs)
number-within k n [] h = subst (λ (m : ℕ). n ≤ largest m) (sym (add-zero k)) h
number-within k n (b ∷ bs) h =
    subst (λ (m : ℕ). number_from (26 * n + rank b) bs ≤ largest m) (shift k (length bs))
    (number-within (suc k) (26 * n + rank b) bs (number_step k n b h))

-- the number of at most eight bytes, whatever they are
pub number-most : (bs : List ℕ) → length bs ≤ label_length → label_number bs ≤ label_end
unfolding label_number
number-most bs h =
    omega (arith, number-within 0 0 bs (omega arith), largest-rises (0 + length bs) label_length (omega arith))

number-above : (n : ℕ) (bs : List ℕ) → all is_letter bs ≡ true → n + length bs ≤ number_from n bs
number-above n [] h = omega arith
number-above n (b ∷ bs) h =
    omega (
      arith,
      number-above (26 * n + rank b) bs (and_right (is_letter b) (all is_letter bs) h),
      letter-is b (and_left (is_letter b) (all is_letter bs) h),
    )

-- ---- letters of a number and back

-- the number of the letters of n, put in front of others, is n's with those others after it
letters-number : (k n : ℕ) (after : List ℕ) → n ≤ largest k
    → number_from 0 (letters_before k n after) ≡ number_from n after
letters-number zero zero after h = refl
letters-number zero (suc n) after h = absurd (omega arith)
letters-number (suc k) zero after h = refl
letters-number (suc k) (suc m) after h =
    letters-number k (m / 26) ((65 + m % 26) ∷ after) (omega arith)
    ∙ ap (λ (n : ℕ). number_from n after) again
  where
    again : 26 * (m / 26) + rank (65 + m % 26) ≡ suc m
    again = omega (arith, rank-of-letter (m % 26) (omega arith))

-- the letters of the number of bs are bs, with those of what it started from before them
number-letters :
    (k n : ℕ) (bs after : List ℕ)
    → all is_letter bs ≡ true
    → letters_before (k + length bs) (number_from n bs) after ≡ letters_before k n (bs ++ after)
number-letters k n [] after h = ap (λ (m : ℕ). letters_before m n after) (add-zero k)
number-letters k n (b ∷ bs) after h =
    ap (λ (m : ℕ). letters_before m (number_from (26 * n + rank b) bs) after) (sym (shift k (length bs)))
    ∙ number-letters (suc k) (26 * n + rank b) bs after (and_right (is_letter b) (all is_letter bs) h)
    ∙ last (rank b) (letter-is b (and_left (is_letter b) (all is_letter bs) h)) (rank_most b)
  where
    pulled : (r m : ℕ) → 26 * n + r ≡ suc m → 1 ≤ r → r ≤ 26 → 64 + r ≡ b
        → letters_before (suc k) (26 * n + r) (bs ++ after) ≡ letters_before k n (b ∷ (bs ++ after))
    pulled r m e lo hi at =
        let before : m / 26 ≡ n = omega arith in
        let letter : 65 + m % 26 ≡ b = omega arith in
        rw (e, before, letter)

    last : (r : ℕ) → (1 ≤ r) × (64 + r ≡ b) → r ≤ 26
        → letters_before (suc k) (26 * n + r) (bs ++ after) ≡ letters_before k n (b ∷ (bs ++ after))
    last r p hi = pulled r (26 * n + r - 1) (omega (arith, p.0)) p.0 hi p.1

pub none_left : (k : ℕ) (after : List ℕ) → letters_before k 0 after ≡ after
none_left zero after = refl
none_left (suc k) after = refl

-- the letters are letters, at most k and at least one
letters-all : (k n : ℕ) (after : List ℕ) → all is_letter after ≡ true → all is_letter (letters_before k n after) ≡ true
letters-all zero n after h = h
letters-all (suc k) zero after h = h
letters-all (suc k) (suc m) after h =
    letters-all k (m / 26) ((65 + m % 26) ∷ after)
    (and_both (is_letter (65 + m % 26)) (all is_letter after) (letter-there (m % 26) (omega arith)) h)

letters-most : (k n : ℕ) (after : List ℕ) → length (letters_before k n after) ≤ k + length after
letters-most zero n after = omega arith
letters-most (suc k) zero after = omega arith
letters-most (suc k) (suc m) after = omega (arith, letters-most k (m / 26) ((65 + m % 26) ∷ after))

letters-least : (k n : ℕ) (after : List ℕ) → length after ≤ length (letters_before k n after)
letters-least zero n after = omega arith
letters-least (suc k) zero after = omega arith
letters-least (suc k) (suc m) after = omega (arith, letters-least k (m / 26) ((65 + m % 26) ∷ after))

letters-some : (k n : ℕ) → 1 ≤ n → 1 ≤ length (letters_before (suc k) n [])
letters-some k zero h = absurd (omega arith)
letters-some k (suc m) h = letters-least k (m / 26) ((65 + m % 26) ∷ [])

-- ---- the theorems

-- where n is a label's number, its letters
pub letters-are : (n : ℕ) → 1 ≤ n → n ≤ label_end → letters_of n ≡ letters_before label_length n []
unfolding letters_of
letters-are n lo hi =
    pick-false (ltb n 1 || ltb label_end n) [] (letters_before label_length n [])
    (or-none (ltb n 1) (ltb label_end n) (le-ltb n 1 lo) (le-ltb label_end n hi))

-- a label has one to eight letters
pub parts-of-label : (bs : List ℕ) → is_label bs ≡ true
    → (1 ≤ length bs) × (length bs ≤ label_length) × (all is_letter bs ≡ true)
unfolding is_label
parts-of-label bs h = (
  leb-true 1 (length bs) (and_left (leb 1 (length bs)) (leb (length bs) label_length && all is_letter bs) h),
  leb-true (length bs) label_length (and_left (leb (length bs) label_length) (all is_letter bs) rest),
  and_right (leb (length bs) label_length) (all is_letter bs) rest,
)
  where
    rest : (leb (length bs) label_length && all is_letter bs) ≡ true
    rest = and_right (leb 1 (length bs)) (leb (length bs) label_length && all is_letter bs) h

-- each label's number is from 1 to 217,180,147,158
pub label-range : (bs : List ℕ) → is_label bs ≡ true → (1 ≤ label_number bs) × (label_number bs ≤ label_end)
unfolding label_number
label-range bs h =
    let p = parts-of-label bs h in (
      omega (arith, number-above 0 bs p.2, p.0),
      number-most bs p.1,
    )

-- the letters of a label's number are that label
pub letters-of-label : (bs : List ℕ) → is_label bs ≡ true → letters_of (label_number bs) ≡ bs
unfolding label_number
letters-of-label bs h =
    let p = parts-of-label bs h in
    let r = label-range bs h in
    letters-are (number_from 0 bs) r.0 r.1
    ∙ ap (λ (m : ℕ). letters_before m (number_from 0 bs) []) (all-eight (length bs) p.1)
    ∙ number-letters (8 - length bs) 0 bs [] p.2
    ∙ none_left (8 - length bs) (bs ++ [])
    ∙ append-nil bs
  where
    all-eight : (m : ℕ) → m ≤ 8 → 8 ≡ 8 - m + m
    all-eight m le = omega arith

-- the letters of a number from 1 to 217,180,147,158 are a label
pub label-of-letters : (n : ℕ) → 1 ≤ n → n ≤ label_end → is_label (letters_of n) ≡ true
unfolding is_label
label-of-letters n lo hi =
    rw (letters-are n lo hi)
    (and_both _ _ (le-leb 1 (length (letters_before 8 n [])) (letters-some 7 n lo))
    (and_both _ _ (le-leb (length (letters_before 8 n [])) 8 (omega (arith, letters-most 8 n [])))
    (letters-all 8 n [] refl)))

-- and their number is that number
pub number-of-letters : (n : ℕ) → 1 ≤ n → n ≤ label_end → label_number (letters_of n) ≡ n
unfolding label_number
number-of-letters n lo hi = rw (letters-are n lo hi) (letters-number 8 n [] hi)

-- no two labels share a number
pub label-unique : (xs ys : List ℕ) → is_label xs ≡ true → is_label ys ≡ true → label_number xs ≡ label_number ys → xs ≡ ys
label-unique xs ys hx hy e = sym (letters-of-label xs hx) ∙ ap letters_of e ∙ letters-of-label ys hy
