-- Laws of tests and of specs/Choice: a test's two cases, and, or, equal tests; pick; refuse_if; first_of.
use mathlib.Core.Bool.{Bool, true, false, ◌&&◌, ◌||◌, true≢false, false≢true}
use mathlib.Core.List.{List, [], ◌∷◌}
use mathlib.Core.Logic.{◌⊎◌, inl, inr}
use mathlib.Core.Path.{◌≡◌, refl, sym, ◌∙◌}
use Prim.Native.Nat.{ℕ, zero, suc}
use native.Mathlib.Omega.{arith}
use Rattle.lists.specs.Choice.{pick, refuse_if, first_of}

-- a test holds or fails
pub bool_cases : (b : Bool) → (b ≡ true) ⊎ (b ≡ false)
bool_cases true = inl refl
bool_cases false = inr refl

-- and: from it, and to it
pub and_left : (a b : Bool) → (a && b) ≡ true → a ≡ true
and_left true b e = refl
and_left false b e = e

pub and_right : (a b : Bool) → (a && b) ≡ true → b ≡ true
and_right true b e = e
and_right false b e = absurd (false≢true e)

pub and_both : (a b : Bool) → a ≡ true → b ≡ true → (a && b) ≡ true
and_both a b p q = rw (p, q)

-- or: to it; from and to its failure
pub or_left : (a b : Bool) → a ≡ true → (a || b) ≡ true
or_left a b p = rw p

pub or_right : (a b : Bool) → b ≡ true → (a || b) ≡ true
or_right true b q = refl
or_right false b q = q

pub or-none : (a b : Bool) → a ≡ false → b ≡ false → (a || b) ≡ false
or-none a b p q = rw (p, q)

pub or-neither-left : (a b : Bool) → (a || b) ≡ false → a ≡ false
or-neither-left true b e = e
or-neither-left false b e = refl

pub or-neither-right : (a b : Bool) → (a || b) ≡ false → b ≡ false
or-neither-right true b e = absurd (true≢false e)
or-neither-right false b e = e

-- tests that hold together are equal
pub same_test : (a b : Bool) → (a ≡ true → b ≡ true) → (b ≡ true → a ≡ true) → a ≡ b
same_test true b f g = sym (f refl)
same_test false true f g = g refl
same_test false false f g = refl

-- a choice between equals; by a test that is known; under a function
pub pick_same : {A : Type 0} (b : Bool) (a : A) → pick b a a ≡ a
pick_same true a = refl
pick_same false a = refl

pub pick_true : {A : Type 0} (b : Bool) (x y : A) → b ≡ true → pick b x y ≡ x
pick_true b x y e = rw e

pub pick-false : {A : Type 0} (b : Bool) (x y : A) → b ≡ false → pick b x y ≡ y
pick-false b x y e = rw e

pub pick-ap : {A B : Type 0} (f : A → B) (b : Bool) (x y : A) → f (pick b x y) ≡ pick b (f x) (f y)
pick-ap f true x y = refl
pick-ap f false x y = refl

-- one check: it applies, and it does not
pub refuse-met : (b : Bool) (n : ℕ) → b ≡ true → refuse_if b n ≡ n
refuse-met b n e = pick_true b n 0 e

pub refuse-passed : (b : Bool) (n : ℕ) → b ≡ false → refuse_if b n ≡ 0
refuse-passed b n e = pick-false b n 0 e

-- the same for a function that made the test
pub refusal-met : (n : ℕ) {answer b : Bool} → answer ≡ b → answer ≡ true → n ≡ refuse_if b n
refusal-met n {answer} {b} e h = sym (refuse-met b n (sym e ∙ h))

pub refusal-passed : (n : ℕ) {answer b : Bool} → answer ≡ b → answer ≡ false → 0 ≡ refuse_if b n
refusal-passed n {answer} {b} e h = sym (refuse-passed b n (sym e ∙ h))

-- it gave 0
pub refuse-none : (b : Bool) (n : ℕ) → refuse_if b (suc n) ≡ 0 → b ≡ false
refuse-none true n e = absurd (omega arith)
refuse-none false n e = refl

-- the first check that applies answers; where none does, each gave 0
pub first-here : (n : ℕ) (ns : List ℕ) → (n ≡ 0 → ⊥) → first_of (n ∷ ns) ≡ n
unfolding first_of
first-here zero ns h = absurd (h refl)
first-here (suc n) ns h = refl

pub first_next : (n : ℕ) (ns : List ℕ) → n ≡ 0 → first_of (n ∷ ns) ≡ first_of ns
unfolding first_of
first_next n ns e = rw e

pub first-none : (n : ℕ) (ns : List ℕ) → first_of (n ∷ ns) ≡ 0 → (n ≡ 0) × (first_of ns ≡ 0)
unfolding first_of
first-none zero ns e = (refl, e)
first-none (suc n) ns e = absurd (omega arith)

-- for a function that goes down the checks: its answer r is this check's number m, where that is not 0; it is that of
-- the checks after it, where this one's is 0; and it is the last check's
pub answer-here : {r m : ℕ} (ns : List ℕ) → r ≡ m → (r ≡ 0 → ⊥) → r ≡ first_of (m ∷ ns)
answer-here {r} {m} ns e h = e ∙ sym (first-here m ns (λ z. h (e ∙ z)))

pub answer-next : {r n m : ℕ} (ns : List ℕ) → n ≡ m → n ≡ 0 → r ≡ first_of ns → r ≡ first_of (m ∷ ns)
answer-next {r} {n} {m} ns e z a = a ∙ sym (first_next m ns (sym e ∙ z))

pub answer-last : {r m : ℕ} → r ≡ m → r ≡ first_of (m ∷ [])
unfolding first_of
answer-last {r} {m} e = e ∙ sym (only m)
  where
    only : (m : ℕ) → first_of (m ∷ []) ≡ m
    only zero = refl
    only (suc m) = refl
