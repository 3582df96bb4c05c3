-- The weights of a label's letters (specs/Weights).
-- In order: a table that passes the test has the power of 26 at each place (right-at-each), so no weight is above the
-- seventh; the sum by such a table is the number of the letters (weighted-number), so at most the largest label's.
-- Assumes nothing.
use mathlib.Core.Bool.{true}
use mathlib.Core.List.{List, [], ◌∷◌}
use mathlib.Core.Path.{◌≡◌, refl, sym, ◌∙◌, ap, subst}
use Prim.Native.Nat.{ℕ, zero, suc, ◌+◌, ◌*◌, ◌^◌, ◌≤◌, ◌<◌}
use native.Mathlib.Nat.{add-zero, zero-add, add_assoc, add-mul, zero-mul, mul-one, mul_assoc, mul_comm, pow-succ'}
use native.Mathlib.Nat.{pow-le-pow_right}
use native.Mathlib.Omega.{arith}
use lib.Dec.{eqb}
use lib.ListN.{length, get_or}
use borrow.Author.Tests.{eqb-true}
use Rattle.lists.proofs.Choice.{and_left, and_right}
use Rattle.label.specs.Label.{label_end, label_length, rank, number_from, label_number}
use Rattle.label.specs.Weights.{powers_from, right_weights, RightAtEach, weighted, WeightedNumber}
use Rattle.label.proofs.Labels.{number-most}

-- ---- the table

-- from place j on
right-from : (j w : ℕ) (ws : List ℕ) → w ≡ 26 ^ j → powers_from w ws ≡ true
    → (k : ℕ) → k < length ws → get_or ws k 0 ≡ 26 ^ (j + k)
right-from j w [] e t k h = absurd (omega arith)
right-from j w (x ∷ xs) e t zero h =
    eqb-true x w (and_left (eqb x w) _ t) ∙ e ∙ ap (λ (m : ℕ). 26 ^ m) (sym (add-zero j))
right-from j w (x ∷ xs) e t (suc k) h =
    let here : x ≡ 26 ^ j = eqb-true x w (and_left (eqb x w) _ t) ∙ e in
    right-from (suc j) _ xs (ap (λ (m : ℕ). 26 * m) here ∙ sym (pow-succ' 26 j)) (and_right (eqb x w) _ t) k
    (omega arith)
    ∙ ap (λ (m : ℕ). 26 ^ m) (omega arith)

pub right-at-each : RightAtEach
right-at-each ws t k h =
    let eight : length ws ≡ label_length =
    eqb-true (length ws) label_length (and_left (eqb (length ws) label_length) (powers_from 1 ws) t) in
    right-from 0 1 ws refl (and_right (eqb (length ws) label_length) (powers_from 1 ws) t) k (omega arith)
    ∙ ap (λ (m : ℕ). 26 ^ m) (zero-add k)

-- no weight is above the seventh power
pub weight-most : (ws : List ℕ) → right_weights ws ≡ true → (k : ℕ) → k < label_length → get_or ws k 0 ≤ 26 ^ 7
weight-most ws t k h =
    subst (λ (m : ℕ). m ≤ 26 ^ 7) (sym (right-at-each ws t k h))
    (pow-le-pow_right {n = 26} (omega arith) {i = k} {j = 7} (omega arith))

-- ---- the sum

-- 26 n + r at a place is n at the place before it and r at that place
carried : (n r w : ℕ) → (26 * n + r) * w ≡ n * (26 * w) + r * w
carried n r w =
    add-mul (26 * n) r w
    ∙ ap (λ (m : ℕ). m + r * w) (ap (λ (m : ℕ). m * w) (mul_comm 26 n) ∙ mul_assoc n 26 w)

-- a number that goes on from n: n at the place before the letters, and their sum
weighted-from :
    (ws : List ℕ) → right_weights ws ≡ true
    → (n : ℕ) (bs : List ℕ) → length bs ≤ label_length → number_from n bs ≡ n * 26 ^ length bs + weighted ws bs
unfolding weighted
weighted-from ws t n [] h = sym (add-zero (n * 1) ∙ mul-one n)
weighted-from ws t n (b ∷ bs) h =
    weighted-from ws t (26 * n + rank b) bs (omega arith)
    ∙ ap (λ (m : ℕ). m + weighted ws bs)
    (carried n (rank b) (26 ^ length bs)
    ∙ ap (λ (m : ℕ). n * m + rank b * 26 ^ length bs) (sym (pow-succ' 26 (length bs)))
    ∙ ap (λ (m : ℕ). n * 26 ^ suc (length bs) + rank b * m) (sym (right-at-each ws t (length bs) (omega arith))))
    ∙ add_assoc (n * 26 ^ suc (length bs)) (rank b * get_or ws (length bs) 0) (weighted ws bs)

pub weighted-number : WeightedNumber
unfolding label_number
weighted-number ws bs t h =
    sym
    (weighted-from ws t 0 bs h
    ∙ ap (λ (m : ℕ). m + weighted ws bs) (zero-mul (26 ^ length bs))
    ∙ zero-add (weighted ws bs))

-- so no sum is above the largest label's number
pub sum-most : (ws bs : List ℕ) → right_weights ws ≡ true → length bs ≤ label_length → weighted ws bs ≤ label_end
sum-most ws bs t h = omega (arith, weighted-number ws bs t h, number-most bs h)
