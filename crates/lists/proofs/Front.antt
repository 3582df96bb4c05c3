-- A list of which the first i members were changed by f, one after the other: what a loop that changes each member has
-- after i turns.
-- Assumes nothing.
use mathlib.Core.List.{List, [], ◌∷◌, map}
use mathlib.Core.Path.{◌≡◌, refl, ap}
use Prim.Native.Nat.{ℕ, zero, suc, ◌<◌}
use native.Mathlib.Nat.{not-suc-le-zero, le_of_suc-le-suc}
use lib.ListN.{length, get_or, set}

module _ {A : Type 0} (f : A → A) where
  abbrev pub front : ℕ → List A → List A
  front zero xs = xs
  front (suc i) [] = []
  front (suc i) (x ∷ xs) = f x ∷ front i xs

  pub front_length : (i : ℕ) (xs : List A) → length (front i xs) ≡ length xs
  front_length zero xs = refl
  front_length (suc i) [] = refl
  front_length (suc i) (x ∷ xs) = ap suc (front_length i xs)

  -- the next member is as it was
  pub front-next : (i : ℕ) (xs : List A) (d : A) → get_or (front i xs) i d ≡ get_or xs i d
  front-next zero xs d = refl
  front-next (suc i) [] d = refl
  front-next (suc i) (x ∷ xs) d = front-next i xs d

  -- changed by f, it is one more
  pub front-set : (i : ℕ) (xs : List A) (d : A) → i < length xs
      → set (front i xs) i (f (get_or (front i xs) i d)) ≡ front (suc i) xs
  front-set i [] d l = absurd (not-suc-le-zero l)
  front-set zero (x ∷ xs) d l = refl
  front-set (suc i) (x ∷ xs) d l = ap (λ (ys : List A). f x ∷ ys) (front-set i xs d (le_of_suc-le-suc l))

  -- and so it is where f leaves it as it was
  pub front_same : (i : ℕ) (xs : List A) (d : A) → i < length xs → f (get_or xs i d) ≡ get_or xs i d
      → front (suc i) xs ≡ front i xs
  front_same i [] d l e = absurd (not-suc-le-zero l)
  front_same zero (x ∷ xs) d l e = ap (λ (y : A). y ∷ xs) e
  front_same (suc i) (x ∷ xs) d l e = ap (λ (ys : List A). f x ∷ ys) (front_same i xs d (le_of_suc-le-suc l) e)

  pub front-all : (xs : List A) → front (length xs) xs ≡ map f xs
  front-all [] = refl
  front-all (x ∷ xs) = ap (λ (ys : List A). f x ∷ ys) (front-all xs)
