-- The decimal digits of a number, written from the last: the invariant of `put_number`'s loop, and how many there are.
-- Assumes nothing.
use mathlib.Core.List.{List, [], ◌∷◌, ◌++◌}
use mathlib.Core.Path.{◌≡◌, refl, sym, ap, ◌∙◌}
use Prim.Native.Nat.{ℕ, zero, suc, ◌+◌, ◌-◌, ◌*◌, ◌/◌, ◌%◌, ◌^◌, ◌≤◌, ◌<◌}
use native.Mathlib.Nat.{pow-succ'}
use native.Mathlib.Omega.{arith}
use lib.ListN.{length, take, drop, set, replicate, length-set, length-drop}
use lib.Seq.{take_all, drop-cons, drop-set-lt, get_or-set_same}
use borrow.Author.Tests.{ne_eqb}
use Rattle.lines.specs.Fields.{digits_before, digits_of}
use Rattle.text_buffer.specs.Buffer.{ended}

-- ---- digits in front of others

-- with bytes after them
digits-then : (k n : ℕ) (after rest : List ℕ) → digits_before k n after ++ rest ≡ digits_before k n (after ++ rest)
digits-then zero n after rest = refl
digits-then (suc k) zero after rest = refl
digits-then (suc k) (suc m) after rest = digits-then k (suc m / 10) ((48 + suc m % 10) ∷ after) rest

-- none are left of 0
digits-none : (k : ℕ) (after : List ℕ) → digits_before k 0 after ≡ after
digits-none zero after = refl
digits-none (suc k) after = refl

-- a number above 0
digits_above : (m : ℕ) → digits_of (suc m) ≡ digits_before 20 (suc m) []
unfolding digits_of
digits_above m = rw (ne_eqb (suc m) 0 (λ e. absurd (omega arith)))

-- the last digit, and the others before it
digits-first : (n b : ℕ) → ended (digits_of n) b ≡ digits_before 19 (n / 10) ((48 + n % 10) ∷ (b ∷ []))
unfolding digits_of
digits-first zero b = refl
digits-first (suc m) b = ap (λ (ds : List ℕ). ds ++ (b ∷ [])) (digits_above m) ∙ digits-then 20 (suc m) [] (b ∷ [])

-- ---- writing them: the bytes from place i on are the last digits and the byte after them, `left` has those before

pub record DigitsLeft (n b : ℕ) (bytes : List ℕ) (left i : ℕ) : Type 0 where
  pub long : length bytes ≡ 21
  pub within : i ≤ 19
  pub small : left < 10 ^ i
  pub holds : ended (digits_of n) b ≡ digits_before i left (drop i bytes)

pub digits-start : (n b : ℕ) → n < 2 ^ 64
    → DigitsLeft n b (set (set (replicate 21 0) 20 b) 19 (48 + n % 10)) (n / 10) 19
digits-start n b h = record {
  long = refl;
  within = omega arith;
  small = omega arith;
  holds = digits-first n b;
}

-- some are left: there is a place for the next
pub digits-room : (n b : ℕ) (bytes : List ℕ) (left i : ℕ) → (left ≡ 0 → ⊥) → DigitsLeft n b bytes left i → 1 ≤ i
digits-room n b bytes left zero h d = absurd (h (omega (arith, d.small)))
digits-room n b bytes left (suc i) h d = omega arith

pub digits_more : (n b : ℕ) (bytes : List ℕ) (left i : ℕ) → (left ≡ 0 → ⊥) → DigitsLeft n b bytes left i
    → DigitsLeft n b (set bytes (i - 1) (48 + left % 10)) (left / 10) (i - 1)
digits_more n b bytes left zero h d = absurd (h (omega (arith, d.small)))
digits_more n b bytes zero (suc i) h d = absurd (h refl)
digits_more n b bytes (suc m) (suc i) h d =
    let e : suc i - 1 ≡ i = omega arith in
    rw e (record {
      long = length-set bytes i (48 + suc m % 10) ∙ d.long;
      within = omega (arith, d.within);
      small = let p : 10 ^ suc i ≡ 10 * 10 ^ i = pow-succ' 10 i in omega (arith, d.small);
      holds = d.holds ∙ ap (digits_before i (suc m / 10)) (sym next);
    })
  where
    inside : i < length bytes
    inside = omega (arith, d.long, d.within)

    next : drop i (set bytes i (48 + suc m % 10)) ≡ (48 + suc m % 10) ∷ drop (suc i) bytes
    next =
        let long = length-set bytes i (48 + suc m % 10) in
        rw
        (drop-cons (set bytes i (48 + suc m % 10)) i 0 (omega arith), get_or-set_same bytes i (48 + suc m % 10) 0 inside)
        (ap (λ (ds : List ℕ). (48 + suc m % 10) ∷ ds) (drop-set-lt (suc i) bytes i (48 + suc m % 10) (omega arith)))

-- none is left: the bytes from place i on, as the code lends them
pub digits-end : (n b : ℕ) (bytes : List ℕ) (left i : ℕ) → left ≡ 0 → DigitsLeft n b bytes left i
    → take (21 - i) (drop i bytes) ≡ ended (digits_of n) b
digits-end n b bytes left i e d =
    take_all (21 - i) (drop i bytes) (omega (arith, length-drop i bytes, d.long))
    ∙ sym (d.holds ∙ ap (λ (m : ℕ). digits_before i m (drop i bytes)) e ∙ digits-none i (drop i bytes))

-- ---- how many there are

digits-most : (k m n : ℕ) (after : List ℕ) → n < 10 ^ m → length (digits_before k n after) ≤ m + length after
digits-most zero m n after h = omega arith
digits-most (suc k) m zero after h = omega arith
digits-most (suc k) zero (suc n) after h = absurd (omega arith)
digits-most (suc k) (suc m) (suc n) after h =
    let p : 10 ^ suc m ≡ 10 * 10 ^ m = pow-succ' 10 m in
    omega (arith, digits-most k m (suc n / 10) ((48 + suc n % 10) ∷ after) (omega arith))

pub digits-length : (m n : ℕ) → 1 ≤ m → n < 10 ^ m → length (digits_of n) ≤ m
unfolding digits_of
digits-length m zero l h = omega arith
digits-length m (suc n) l h = rw (digits_above n) (omega (arith, digits-most 20 m (suc n) [] h))

-- however large the number is
digits-bound : (k n : ℕ) (after : List ℕ) → length (digits_before k n after) ≤ k + length after
digits-bound zero n after = omega arith
digits-bound (suc k) zero after = omega arith
digits-bound (suc k) (suc m) after = omega (arith, digits-bound k (suc m / 10) ((48 + suc m % 10) ∷ after))

pub digits-twenty : (n : ℕ) → length (digits_of n) ≤ 20
unfolding digits_of
digits-twenty zero = omega arith
digits-twenty (suc n) = rw (digits_above n) (omega (arith, digits-bound 20 (suc n) []))
