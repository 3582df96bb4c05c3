-- Laws of numbers (specs/Fields).
-- In order: the parts of a number, from it and to it; no comma stands in it; its value's bounds; the digits of its
-- value are it again.
-- Assumes nothing.
use mathlib.Core.Bool.{Bool, true, false, not, ◌&&◌, ◌||◌}
use mathlib.Core.List.{List, [], ◌∷◌, ◌++◌, append-nil}
use mathlib.Core.Logic.{◌⊎◌, inl, inr, ⊎_elim}
use mathlib.Core.Path.{◌≡◌, refl, sym, ◌∙◌, ap, subst}
use Prim.Native.Nat.{ℕ, zero, suc, ◌+◌, ◌-◌, ◌*◌, ◌/◌, ◌%◌, ◌≤◌, ◌<◌}
use native.Mathlib.Nat.{add-zero, zero-add}
use native.Mathlib.Omega.{arith}
use lib.Dec.{leb, eqb}
use lib.ListN.{length, get_or}
use borrow.Author.Tests.{leb-true, le-leb, eqb-true, eqb-false, eq-eqb, ne_eqb, not-true}
use Rattle.lists.specs.Members.{all, any}
use Rattle.lists.proofs.Choice.{bool_cases, and_left, and_right, and_both, or-none, or_left, or_right, pick-false}
use Rattle.lines.specs.Fields.{is_comma, most_digits, is_digit, is_number, value_from, value_of, digits_before, digits_of}

-- ---- the parts of a number

pub digit-is : (b : ℕ) → is_digit b ≡ true → (48 ≤ b) × (b ≤ 57)
digit-is b h =
    (leb-true 48 b (and_left (leb 48 b) (leb b 57) h), leb-true b 57 (and_right (leb 48 b) (leb b 57) h))

pub record IsNumber (bs : List ℕ) : Type 0 where
  pub least : 1 ≤ length bs
  pub most : length bs ≤ most_digits
  pub digits : all is_digit bs ≡ true
  pub lead : (length bs ≡ 1) ⊎ (get_or bs 0 0 ≡ 48 → ⊥)

pub number-parts : (bs : List ℕ) → is_number bs ≡ true → IsNumber bs
unfolding is_number
number-parts bs h = record {
  least = leb-true 1 (length bs) (and_left (leb 1 (length bs)) _ h);
  most = leb-true (length bs) most_digits (and_left (leb (length bs) most_digits) _ one);
  digits = and_left (all is_digit bs) _ two;
  lead = lead_is (eqb (length bs) 1) (eqb (get_or bs 0 0) 48) refl refl (and_right (all is_digit bs) _ two);
}
  where
    one : (leb (length bs) most_digits && (all is_digit bs && (eqb (length bs) 1 || not (eqb (get_or bs 0 0) 48)))) ≡ true
    one = and_right (leb 1 (length bs)) _ h

    two : (all is_digit bs && (eqb (length bs) 1 || not (eqb (get_or bs 0 0) 48))) ≡ true
    two = and_right (leb (length bs) most_digits) _ one

    lead_is : (s t : Bool) → eqb (length bs) 1 ≡ s → eqb (get_or bs 0 0) 48 ≡ t → (s || not t) ≡ true
        → (length bs ≡ 1) ⊎ (get_or bs 0 0 ≡ 48 → ⊥)
    lead_is true t e f g = inl (eqb-true (length bs) 1 e)
    lead_is false t e f g = inr (eqb-false (get_or bs 0 0) 48 (f ∙ not-true t g))

pub number-made : (bs : List ℕ) → IsNumber bs → is_number bs ≡ true
unfolding is_number
number-made bs p =
    and_both (leb 1 (length bs)) _ (le-leb 1 (length bs) p.least)
    (and_both (leb (length bs) most_digits) _ (le-leb (length bs) most_digits p.most)
    (and_both (all is_digit bs) _ p.digits
    (⊎_elim (λ e. or_left (eqb (length bs) 1) _ (eq-eqb (length bs) 1 e))
    (λ e. or_right (eqb (length bs) 1) _ (ap not (ne_eqb (get_or bs 0 0) 48 e))) p.lead)))

-- where one part fails, it is no number
pub no_number : (bs : List ℕ) → (IsNumber bs → ⊥) → is_number bs ≡ false
no_number bs f = ⊎_elim (λ e. absurd (f (number-parts bs e))) (λ e. e) (bool_cases (is_number bs))

-- ---- no comma stands in a number

digits-no-comma : (bs : List ℕ) → all is_digit bs ≡ true → any is_comma bs ≡ false
digits-no-comma [] h = refl
digits-no-comma (b ∷ bs) h =
    let d : 48 ≤ b = (digit-is b (and_left (is_digit b) (all is_digit bs) h)).0 in
    or-none (is_comma b) (any is_comma bs) (ne_eqb b 44 (λ e. omega arith))
    (digits-no-comma bs (and_right (is_digit b) (all is_digit bs) h))

pub comma-no-number : (bs : List ℕ) → any is_comma bs ≡ true → is_number bs ≡ false
comma-no-number bs e =
    no_number bs (λ p. let z : true ≡ false = sym e ∙ digits-no-comma bs p.digits in absurd (true-false z))
  where
    true-false : true ≡ false → ⊥
    true-false z = let w : ◌≡◌ {A = ℕ} 0 1 = cc in omega arith

-- ---- the bounds of a value

-- one more than the largest number of k digits
abbrev pub tens : ℕ → ℕ
tens zero = 1
tens (suc k) = 10 * tens k

pub tens-rise : (i j : ℕ) → i ≤ j → tens i ≤ tens j
tens-rise zero zero h = omega arith
tens-rise zero (suc j) h = omega (arith, tens-rise zero j (omega arith))
tens-rise (suc i) zero h = absurd (omega arith)
tens-rise (suc i) (suc j) h = omega (arith, tens-rise i j (omega arith))

-- a digit more: what n becomes
pub value-step : (k n b : ℕ) → b ≤ 57 → n < tens k → 10 * n + (b - 48) < tens (suc k)
value-step k n b hi h = omega arith

shift : (k m : ℕ) → suc k + m ≡ k + suc m
shift k m = omega arith

value-within : (k n : ℕ) (bs : List ℕ) → all is_digit bs ≡ true → n < tens k → value_from n bs < tens (k + length bs)
value-within k n [] d h = subst (λ (m : ℕ). n < tens m) (sym (add-zero k)) h
value-within k n (b ∷ bs) d h =
    subst (λ (m : ℕ). value_from (10 * n + (b - 48)) bs < tens m) (shift k (length bs))
    (value-within (suc k) (10 * n + (b - 48)) bs (and_right (is_digit b) (all is_digit bs) d)
    (value-step k n b (digit-is b (and_left (is_digit b) (all is_digit bs) d)).1 h))

value-above : (n : ℕ) (bs : List ℕ) → n ≤ value_from n bs
value-above n [] = omega arith
value-above n (b ∷ bs) = omega (arith, value-above (10 * n + (b - 48)) bs)

-- "A number is 1 to 8 decimal digits": at most 99,999,999
pub value-most : (bs : List ℕ) → is_number bs ≡ true → value_of bs ≤ 99999999
unfolding value_of
value-most bs h =
    let p = number-parts bs h in
    omega (
      arith,
      value-within 0 0 bs p.digits (omega arith),
      tens-rise (0 + length bs) 8 (omega (arith, p.most)),
    )

-- ---- the digits of a number's value

none_left : (k : ℕ) (after : List ℕ) → digits_before k 0 after ≡ after
none_left zero after = refl
none_left (suc k) after = refl

-- the digits of the value of bs are bs, with those of what it started from, not 0, before them
digits-back : (k n : ℕ) (bs after : List ℕ) → 1 ≤ n → all is_digit bs ≡ true
    → digits_before (k + length bs) (value_from n bs) after ≡ digits_before k n (bs ++ after)
digits-back k n [] after lo d = ap (λ (m : ℕ). digits_before m n after) (add-zero k)
digits-back k n (b ∷ bs) after lo d =
    let is = digit-is b (and_left (is_digit b) (all is_digit bs) d) in
    ap (λ (m : ℕ). digits_before m (value_from (10 * n + (b - 48)) bs) after) (sym (shift k (length bs)))
    ∙ digits-back (suc k) (10 * n + (b - 48)) bs after (omega arith) (and_right (is_digit b) (all is_digit bs) d)
    ∙ pulled (10 * n + (b - 48) - 1) (omega arith) is.0 is.1
  where
    pulled : (m : ℕ) → 10 * n + (b - 48) ≡ suc m → 48 ≤ b → b ≤ 57
        → digits_before (suc k) (10 * n + (b - 48)) (bs ++ after) ≡ digits_before k n (b ∷ (bs ++ after))
    pulled m e lo hi =
        let before : suc m / 10 ≡ n = omega arith in
        let digit : 48 + suc m % 10 ≡ b = omega arith in
        rw (e, before, digit)

-- a first digit that is not 0, and up to seven after it
digits-led : (b : ℕ) (bs : List ℕ) → length bs ≤ 7 → all is_digit (b ∷ bs) ≡ true → (b ≡ 48 → ⊥)
    → digits_of (value_from (b - 48) bs) ≡ b ∷ bs
unfolding digits_of
digits-led b bs short d lead =
    let is = digit-is b (and_left (is_digit b) (all is_digit bs) d) in
    let low : 1 ≤ b - 48 = omega arith in
    pick-false (eqb (value_from (b - 48) bs) 0) (48 ∷ []) (digits_before 20 (value_from (b - 48) bs) [])
    (ne_eqb (value_from (b - 48) bs) 0 (λ z. omega (arith, value-above (b - 48) bs)))
    ∙ ap (λ (m : ℕ). digits_before m (value_from (b - 48) bs) []) (all-twenty (length bs) short)
    ∙ digits-back (suc (19 - length bs)) (b - 48) bs [] low (and_right (is_digit b) (all is_digit bs) d)
    ∙ first (19 - length bs) (b - 48 - 1) (omega arith) is.0 is.1
  where
    all-twenty : (m : ℕ) → m ≤ 7 → 20 ≡ suc (19 - m) + m
    all-twenty m le = omega arith

    first : (k m : ℕ) → b - 48 ≡ suc m → 48 ≤ b → b ≤ 57 → digits_before (suc k) (b - 48) (bs ++ []) ≡ b ∷ bs
    first k m e lo hi =
        let before : suc m / 10 ≡ 0 = omega arith in
        let digit : 48 + suc m % 10 ≡ b = omega arith in
        rw (e, before, digit) (none_left k (b ∷ (bs ++ [])) ∙ ap (λ (cs : List ℕ). b ∷ cs) (append-nil bs))

-- `0` alone
digits-nought : (b : ℕ) (bs : List ℕ) → length (b ∷ bs) ≡ 1 → b ≡ 48 → digits_of (value_from (b - 48) bs) ≡ b ∷ bs
unfolding digits_of
digits-nought b [] one e = rw e
digits-nought b (c ∷ cs) one e = absurd (omega arith)

-- the digits of a number's value are that number
pub digits-of-number : (bs : List ℕ) → is_number bs ≡ true → digits_of (value_of bs) ≡ bs
unfolding value_of
digits-of-number [] h = absurd (omega (arith, (number-parts [] h).least))
digits-of-number (b ∷ bs) h = rw (zero-add (b - 48)) (go (bool_cases (eqb b 48)) (number-parts (b ∷ bs) h))
  where
    go : (eqb b 48 ≡ true) ⊎ (eqb b 48 ≡ false) → IsNumber (b ∷ bs) → digits_of (value_from (b - 48) bs) ≡ b ∷ bs
    go (inl e) p =
        ⊎_elim (λ one. digits-nought b bs one (eqb-true b 48 e)) (λ lead. absurd (lead (eqb-true b 48 e))) p.lead
    go (inr e) p = digits-led b bs (omega (arith, p.most)) p.digits (eqb-false b 48 e)
