-- Laws of all, any and keep (specs/Members).
-- In order: equal tests; all and any of ++ and map, member by member, along a loop that goes up, of one another; keep.
use mathlib.Core.Bool.{Bool, true, false, not, ◌&&◌, ◌||◌, and_assoc, or_assoc}
use mathlib.Core.List.{List, [], ◌∷◌, ◌++◌, map}
use mathlib.Core.Path.{◌≡◌, refl, sym, ap, ◌∙◌, fun_ext}
use Prim.Native.Nat.{ℕ, zero, suc, ◌+◌, ◌≤◌, ◌<◌, suc-le-suc}
use native.Mathlib.Nat.{le_of_suc-le-suc, not-suc-le-zero, zero-lt-suc}
use native.Mathlib.Numerals.{add-one}
use lib.Dec.{eqb}
use lib.ListN.{length, get_or, drop, drop_of_length-le}
use lib.Seq.{drop-cons}
use borrow.Author.Tests.{eqb-true}
use Rattle.lists.specs.Choice.{pick}
use Rattle.lists.specs.Members.{all, any, keep}
use Rattle.lists.proofs.Choice.{and_left, and_right, and_both, or-neither-left, or-neither-right}
use Rattle.lists.proofs.Choice.{same_test, pick_same, pick-ap}

-- tests that are equal at each value
module _ {A : Type 0} (p q : A → Bool) (xs : List A) (h : (x : A) → p x ≡ q x) where
  pub all-cong : all p xs ≡ all q xs
  all-cong = ap (λ (r : A → Bool). all r xs) (fun_ext h)

  pub any-cong : any p xs ≡ any q xs
  any-cong = ap (λ (r : A → Bool). any r xs) (fun_ext h)

  pub keep-cong : keep p xs ≡ keep q xs
  keep-cong = ap (λ (r : A → Bool). keep r xs) (fun_ext h)

module _ {A : Type 0} (p : A → Bool) where
  -- a list after another
  pub all_append : (xs ys : List A) → all p (xs ++ ys) ≡ (all p xs && all p ys)
  all_append [] ys = refl
  all_append (x ∷ xs) ys = rw (all_append xs ys, and_assoc)

  pub any_append : (xs ys : List A) → any p (xs ++ ys) ≡ (any p xs || any p ys)
  any_append [] ys = refl
  any_append (x ∷ xs) ys = rw (any_append xs ys, or_assoc)

  -- a value made of each member
  pub all_map : {B : Type 0} (f : B → A) (xs : List B) → all p (map f xs) ≡ all (λ x. p (f x)) xs
  all_map f [] = refl
  all_map f (x ∷ xs) = rw (all_map f xs)

  pub any-map : {B : Type 0} (f : B → A) (xs : List B) → any p (map f xs) ≡ any (λ x. p (f x)) xs
  any-map f [] = refl
  any-map f (x ∷ xs) = rw (any-map f xs)

  -- all, member by member: from it, and to it
  pub all-get_or : (xs : List A) (d : A) → all p xs ≡ true → (i : ℕ) → i < length xs → p (get_or xs i d) ≡ true
  all-get_or [] d h i l = absurd (not-suc-le-zero l)
  all-get_or (x ∷ xs) d h zero l = and_left (p x) (all p xs) h
  all-get_or (x ∷ xs) d h (suc i) l = all-get_or xs d (and_right (p x) (all p xs) h) i (le_of_suc-le-suc l)

  pub get_or-all : (xs : List A) (d : A) → ((i : ℕ) → i < length xs → p (get_or xs i d) ≡ true) → all p xs ≡ true
  get_or-all [] d h = refl
  get_or-all (x ∷ xs) d h =
      and_both (p x) (all p xs) (h 0 (zero-lt-suc (length xs))) (get_or-all xs d (λ i l. h (suc i) (suc-le-suc l)))

  -- all of what a loop that goes up has still to see: nothing left, the next member passes, it fails
  pub all_end : (xs : List A) (i : ℕ) → length xs ≤ i → all p (drop i xs) ≡ true
  all_end xs i h = rw drop_of_length-le

  pub all-next : (xs : List A) (i : ℕ) (d : A) → i < length xs → p (get_or xs i d) ≡ true
      → all p (drop i xs) ≡ all p (drop (i + 1) xs)
  all-next xs i d h e = rw (add-one, drop-cons xs i d, e)

  pub all-stop : (xs : List A) (i : ℕ) (d : A) → i < length xs → p (get_or xs i d) ≡ false → all p (drop i xs) ≡ false
  all-stop xs i d h e = rw (drop-cons xs i d, e)

  -- any of it: nothing left, the next member fails, it passes
  pub any-end : (xs : List A) (i : ℕ) → length xs ≤ i → any p (drop i xs) ≡ false
  any-end xs i h = rw drop_of_length-le

  pub any_next : (xs : List A) (i : ℕ) (d : A) → i < length xs → p (get_or xs i d) ≡ false
      → any p (drop i xs) ≡ any p (drop (i + 1) xs)
  any_next xs i d h e = rw (add-one, drop-cons xs i d, e)

  pub any-stop : (xs : List A) (i : ℕ) (d : A) → i < length xs → p (get_or xs i d) ≡ true → any p (drop i xs) ≡ true
  any-stop xs i d h e = rw (drop-cons xs i d, e)

  -- some member passes where not every one fails
  pub any-not-all : (xs : List A) → any p xs ≡ not (all (λ x. not (p x)) xs)
  any-not-all [] = refl
  any-not-all (x ∷ xs) = rw (any-not-all xs) (or-not (p x) (all (λ x. not (p x)) xs))
    where
      or-not : (a b : Bool) → (a || not b) ≡ not (not a && b)
      or-not true b = refl
      or-not false b = refl

  -- a weaker test
  pub all-imply : (q : A → Bool) (xs : List A) → ((x : A) → p x ≡ true → q x ≡ true) → all p xs ≡ true → all q xs ≡ true
  all-imply q [] h e = refl
  all-imply q (x ∷ xs) h e =
      and_both (q x) (all q xs) (h x (and_left (p x) (all p xs) e)) (all-imply q xs h (and_right (p x) (all p xs) e))

  -- keep: a list after another, every member passes, none does
  pub keep_append : (xs ys : List A) → keep p (xs ++ ys) ≡ keep p xs ++ keep p ys
  keep_append [] ys = refl
  keep_append (x ∷ xs) ys = rw (keep_append xs ys, pick-ap (λ (l : List A). l ++ keep p ys) (p x))

  pub keep_all : (xs : List A) → all p xs ≡ true → keep p xs ≡ xs
  keep_all [] e = refl
  keep_all (x ∷ xs) e = rw (and_left (p x) (all p xs) e, keep_all xs (and_right (p x) (all p xs) e))

  pub keep-none : (xs : List A) → any p xs ≡ false → keep p xs ≡ []
  keep-none [] e = refl
  keep-none (x ∷ xs) e =
      rw (or-neither-left (p x) (any p xs) e, keep-none xs (or-neither-right (p x) (any p xs) e))

  -- keep: twice, what it leaves, and of a value made of each member
  pub keep-keep : (q : A → Bool) (xs : List A) → keep p (keep q xs) ≡ keep (λ x. q x && p x) xs
  keep-keep q [] = refl
  keep-keep q (x ∷ xs) = rw (← keep-keep q xs) (go (q x))
    where
      go : (b : Bool) → keep p (pick b (x ∷ keep q xs) (keep q xs))
          ≡ pick (b && p x) (x ∷ keep p (keep q xs)) (keep p (keep q xs))
      go true = refl
      go false = refl

  pub all_keep : (xs : List A) → all p (keep p xs) ≡ true
  all_keep [] = refl
  all_keep (x ∷ xs) = go (p x) refl (all_keep xs)
    where
      go : (b : Bool) → p x ≡ b → all p (keep p xs) ≡ true → all p (pick b (x ∷ keep p xs) (keep p xs)) ≡ true
      go true e h = rw e h
      go false e h = h

  pub keep-map : {B : Type 0} (f : B → A) (xs : List B) → keep p (map f xs) ≡ map f (keep (λ x. p (f x)) xs)
  keep-map f [] = refl
  keep-map f (x ∷ xs) = rw (keep-map f xs, pick-ap (map f) (p (f x)))

-- the members that pass a test are those that pass it of those that pass a weaker one
pub keep-weaker : {A : Type 0} (p q : A → Bool) (xs : List A) → ((x : A) → p x ≡ true → q x ≡ true)
    → keep p (keep q xs) ≡ keep p xs
keep-weaker p q xs h =
    keep-keep p q xs
    ∙ keep-cong (λ x. q x && p x) p xs
    (λ x. same_test (q x && p x) (p x) (and_right (q x) (p x)) (λ e. and_both (q x) (p x) (h x e) e))

-- of members that all have the number k, those whose number passes a test: all or none
pub keep_at : {A : Type 0} (h : A → ℕ) (r : ℕ → Bool) (k : ℕ) (xs : List A) → all (λ x. eqb (h x) k) xs ≡ true
    → keep (λ x. r (h x)) xs ≡ pick (r k) xs []
keep_at h r k [] e = sym (pick_same (r k) [])
keep_at h r k (x ∷ xs) e =
    let here = and_left (eqb (h x) k) (all (λ x. eqb (h x) k) xs) e in
    let rest = and_right (eqb (h x) k) (all (λ x. eqb (h x) k) xs) e in
    rw (eqb-true (h x) k here, keep_at h r k xs rest) (go (r k))
  where
    go : (b : Bool) → pick b (x ∷ pick b xs []) (pick b xs []) ≡ pick b (x ∷ xs) []
    go true = refl
    go false = refl
