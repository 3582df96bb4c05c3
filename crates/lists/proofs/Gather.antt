-- Laws of gather (specs/Members): the lists made of each member, one after the other.
-- In order: of equal and of empty lists, of ++, along a loop that goes up; gather and map; how much, how many, which of what is gathered; a test.
use mathlib.Core.Bool.{Bool, true, false}
use mathlib.Core.List.{List, [], ◌∷◌, ◌++◌, map, map-append, append_assoc}
use mathlib.Core.Path.{◌≡◌, refl, ap, fun_ext}
use Prim.Native.Nat.{ℕ, ◌+◌, ◌≤◌, ◌<◌}
use native.Mathlib.Numerals.{add-one}
use lib.ListN.{length, get_or, drop, drop_of_length-le}
use lib.Seq.{drop-cons}
use Rattle.lists.specs.Choice.{pick}
use Rattle.lists.specs.Members.{all, any, keep, tally, total, gather}
use Rattle.lists.proofs.Members.{all_append, any_append, keep_append}
use Rattle.lists.proofs.Tally.{total-append, tally-total, length-total}

module _ {A B : Type 0} where
  -- lists that are equal at each value, and that are empty at each
  pub gather_cong : (f g : A → List B) (xs : List A) → ((x : A) → f x ≡ g x) → gather f xs ≡ gather g xs
  gather_cong f g xs h = ap (λ (r : A → List B). gather r xs) (fun_ext h)

  pub gather-nil : (f : A → List B) (xs : List A) → ((x : A) → f x ≡ []) → gather f xs ≡ []
  gather-nil f [] h = refl
  gather-nil f (x ∷ xs) h = rw (h x, gather-nil f xs h)

  -- a list after another
  pub gather_append : (f : A → List B) (xs ys : List A) → gather f (xs ++ ys) ≡ gather f xs ++ gather f ys
  gather_append f [] ys = refl
  gather_append f (x ∷ xs) ys = rw (gather_append f xs ys, append_assoc)

  -- what a loop that goes up has still to gather
  pub gather-end : (f : A → List B) (xs : List A) (i : ℕ) → length xs ≤ i → gather f (drop i xs) ≡ []
  gather-end f xs i h = rw drop_of_length-le

  pub gather-next : (f : A → List B) (xs : List A) (i : ℕ) (x : A) → i < length xs → get_or xs i x ≡ x
      → gather f (drop i xs) ≡ f x ++ gather f (drop (i + 1) xs)
  gather-next f xs i x h e = rw (add-one, drop-cons xs i x, e)

module _ {A B C : Type 0} where
  -- gathered twice, of a value made of each member, and a value made of each that is gathered
  pub gather-gather : (g : B → List C) (f : A → List B) (xs : List A)
      → gather g (gather f xs) ≡ gather (λ x. gather g (f x)) xs
  gather-gather g f [] = refl
  gather-gather g f (x ∷ xs) = rw (gather_append g (f x) (gather f xs), gather-gather g f xs)

  pub gather-map : (f : B → List C) (g : A → B) (xs : List A) → gather f (map g xs) ≡ gather (λ x. f (g x)) xs
  gather-map f g [] = refl
  gather-map f g (x ∷ xs) = rw (gather-map f g xs)

  pub map-gather : (g : B → C) (f : A → List B) (xs : List A) → map g (gather f xs) ≡ gather (λ x. map g (f x)) xs
  map-gather g f [] = refl
  map-gather g f (x ∷ xs) = rw (map-append g (f x) (gather f xs), map-gather g f xs)

module _ {A B : Type 0} where
  -- a number for each that is gathered, how many they are, and how many of them pass a test
  pub total-gather : (g : B → ℕ) (f : A → List B) (xs : List A)
      → total g (gather f xs) ≡ total (λ x. total g (f x)) xs
  total-gather g f [] = refl
  total-gather g f (x ∷ xs) = rw (total-append g (f x) (gather f xs), total-gather g f xs)

  pub length-gather : (f : A → List B) (xs : List A) → length (gather f xs) ≡ total (λ x. length (f x)) xs
  length-gather f xs = simp length-total (total-gather (λ y. 1) f xs)

  pub tally-gather : (p : B → Bool) (f : A → List B) (xs : List A)
      → tally p (gather f xs) ≡ total (λ x. tally p (f x)) xs
  tally-gather p f xs = simp tally-total (total-gather (λ y. pick (p y) 1 0) f xs)

  -- which of them pass, whether all do, whether some does
  pub keep-gather : (p : B → Bool) (f : A → List B) (xs : List A)
      → keep p (gather f xs) ≡ gather (λ x. keep p (f x)) xs
  keep-gather p f [] = refl
  keep-gather p f (x ∷ xs) = rw (keep_append p (f x) (gather f xs), keep-gather p f xs)

  pub all-gather : (p : B → Bool) (f : A → List B) (xs : List A) → all p (gather f xs) ≡ all (λ x. all p (f x)) xs
  all-gather p f [] = refl
  all-gather p f (x ∷ xs) = rw (all_append p (f x) (gather f xs), all-gather p f xs)

  pub any-gather : (p : B → Bool) (f : A → List B) (xs : List A) → any p (gather f xs) ≡ any (λ x. any p (f x)) xs
  any-gather p f [] = refl
  any-gather p f (x ∷ xs) = rw (any_append p (f x) (gather f xs), any-gather p f xs)

  -- of the members that pass a test
  pub gather-pick : (p : A → Bool) (f : A → List B) (xs : List A)
      → gather (λ x. pick (p x) (f x) []) xs ≡ gather f (keep p xs)
  gather-pick p f [] = refl
  gather-pick p f (x ∷ xs) = rw (gather-pick p f xs) (go (p x))
    where
      go : (b : Bool) → pick b (f x) [] ++ gather f (keep p xs) ≡ gather f (pick b (x ∷ keep p xs) (keep p xs))
      go true = refl
      go false = refl
