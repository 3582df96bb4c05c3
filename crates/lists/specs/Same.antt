-- The same members, each as often, in some order (document 01: "each as often as the machine has it, in some order").
-- The laws are in proofs/Same.antt.
use Rattle.std.specs.Prelude.{Bool, true, List, ◌≡◌, ℕ}
use Rattle.lists.specs.Members.{tally}

-- a test that holds of equal values and of no others
pub record IsEquality {A : Type 0} (same : A → A → Bool) : Type 0 where
  pub equal : (x y : A) → same x y ≡ true → x ≡ y
  pub itself : (x : A) → same x x ≡ true

-- how often x stands in a list
abbrev pub times : {A : Type 0} → (A → A → Bool) → A → List A → ℕ
times same x xs = tally (same x) xs

-- two lists that have every value equally often
abbrev pub Same : {A : Type 0} → (A → A → Bool) → List A → List A → Type 0
Same {A} same xs ys = (x : A) → times same x xs ≡ times same x ys
