-- Laws of total, tally, place_of and without (specs/Members).
-- In order: total; tally as a total, and keep, tally and any; the first member that passes: its place, and without.
use mathlib.Core.Bool.{Bool, true, false, not, ◌&&◌, ◌||◌, false≢true}
use mathlib.Core.List.{List, [], ◌∷◌, ◌++◌, map}
use mathlib.Core.Logic.{◌⊎◌, inl, inr}
use mathlib.Core.Path.{◌≡◌, refl, sym, ap, ◌∙◌, fun_ext}
use Prim.Native.Nat.{ℕ, zero, suc, ◌+◌, ◌*◌, ◌≤◌, ◌<◌, suc-le-suc}
use native.Mathlib.Nat.{le_of_suc-le-suc, not-suc-le-zero, zero-lt-suc, suc-mul}
use native.Mathlib.Numerals.{add-one}
use native.Mathlib.Omega.{arith}
use lib.ListN.{length, get_or, drop, drop_of_length-le}
use lib.Seq.{drop-cons}
use Rattle.lists.specs.Choice.{pick}
use Rattle.lists.specs.Members.{all, any, keep, tally, total, without, place_of}
use Rattle.lists.proofs.Choice.{bool_cases, and_left, and_right, or-neither-left, or-neither-right}
use Rattle.lists.proofs.Members.{keep-keep, keep-none}

-- numbers that are equal at each value
pub total-cong : {A : Type 0} (f g : A → ℕ) (xs : List A) → ((x : A) → f x ≡ g x) → total f xs ≡ total g xs
total-cong {A} f g xs h = ap (λ (r : A → ℕ). total r xs) (fun_ext h)

-- numbers that are equal at each member that passes a test
pub total-agree : {A : Type 0} (p : A → Bool) (f g : A → ℕ) (xs : List A) → all p xs ≡ true
    → ((x : A) → p x ≡ true → f x ≡ g x) → total f xs ≡ total g xs
total-agree p f g [] e h = refl
total-agree p f g (x ∷ xs) e h =
    rw (h x (and_left (p x) (all p xs) e), total-agree p f g xs (and_right (p x) (all p xs) e) h)

-- at most b for each member
pub total-most : {A : Type 0} (f : A → ℕ) (b : ℕ) (xs : List A) → ((x : A) → f x ≤ b) → total f xs ≤ length xs * b
total-most f b [] h = omega arith
total-most f b (x ∷ xs) h = omega (arith, h x, total-most f b xs h, suc-mul (length xs) b)

-- no number at each member, one, and the sum of two
pub total-zero : {A : Type 0} (xs : List A) → total (λ x. 0) xs ≡ 0
total-zero [] = refl
total-zero (x ∷ xs) = omega (arith, total-zero xs)

pub length-total : {A : Type 0} (xs : List A) → length xs ≡ total (λ x. 1) xs
length-total [] = refl
length-total (x ∷ xs) = omega (arith, length-total xs)

pub total-add : {A : Type 0} (f g : A → ℕ) (xs : List A) → total (λ x. f x + g x) xs ≡ total f xs + total g xs
total-add f g [] = refl
total-add f g (x ∷ xs) = omega (arith, total-add f g xs)

-- a table's numbers, by rows and by columns
pub total-swap : {A B : Type 0} (f : A → B → ℕ) (xs : List A) (ys : List B)
    → total (λ x. total (λ y. f x y) ys) xs ≡ total (λ y. total (λ x. f x y) xs) ys
total-swap f [] ys = sym (total-zero ys)
total-swap f (x ∷ xs) ys = rw (total-swap f xs ys) (sym (total-add (λ y. f x y) (λ y. total (λ z. f z y) xs) ys))

module _ {A : Type 0} (f : A → ℕ) where
  -- a list after another, and a value made of each member
  pub total-append : (xs ys : List A) → total f (xs ++ ys) ≡ total f xs + total f ys
  total-append [] ys = omega arith
  total-append (x ∷ xs) ys = omega (arith, total-append xs ys)

  pub total-map : {B : Type 0} (g : B → A) (xs : List B) → total f (map g xs) ≡ total (λ x. f (g x)) xs
  total-map g [] = refl
  total-map g (x ∷ xs) = rw (total-map g xs)

  -- what a loop that goes up has still to add
  pub total-end : (xs : List A) (i : ℕ) → length xs ≤ i → total f (drop i xs) ≡ 0
  total-end xs i h = rw drop_of_length-le

  pub total-next : (xs : List A) (i : ℕ) (d : A) → i < length xs
      → total f (drop i xs) ≡ f (get_or xs i d) + total f (drop (i + 1) xs)
  total-next xs i d h = rw (add-one, drop-cons xs i d)

  -- of the members that pass a test
  pub total-keep : (p : A → Bool) (xs : List A) → total f (keep p xs) ≡ total (λ x. pick (p x) (f x) 0) xs
  total-keep p [] = refl
  total-keep p (x ∷ xs) = rw (← total-keep p xs) (go (p x))
    where
      go : (b : Bool) → total f (pick b (x ∷ keep p xs) (keep p xs)) ≡ pick b (f x) 0 + total f (keep p xs)
      go true = refl
      go false = omega arith

-- one more where the test holds
one_more : (b : Bool) (n : ℕ) → pick b (suc n) n ≡ pick b 1 0 + n
one_more true n = omega arith
one_more false n = omega arith

module _ {A : Type 0} (p : A → Bool) where
  -- a tally is a total of ones
  pub tally-total : (xs : List A) → tally p xs ≡ total (λ x. pick (p x) 1 0) xs
  tally-total [] = refl
  tally-total (x ∷ xs) = rw (← tally-total xs) (one_more (p x) (tally p xs))

  -- equal tests, and a list after another
  pub tally-cong : (q : A → Bool) (xs : List A) → ((x : A) → p x ≡ q x) → tally p xs ≡ tally q xs
  tally-cong q xs h = ap (λ (r : A → Bool). tally r xs) (fun_ext h)

  pub tally-append : (xs ys : List A) → tally p (xs ++ ys) ≡ tally p xs + tally p ys
  tally-append xs ys = simp tally-total (total-append (λ x. pick (p x) 1 0) xs ys)

  -- what a loop that goes up has still to count
  pub tally-end : (xs : List A) (i : ℕ) → length xs ≤ i → tally p (drop i xs) ≡ 0
  tally-end xs i h = simp tally-total (total-end (λ x. pick (p x) 1 0) xs i h)

  pub tally-next : (xs : List A) (i : ℕ) (d : A) → i < length xs
      → tally p (drop i xs) ≡ pick (p (get_or xs i d)) 1 0 + tally p (drop (i + 1) xs)
  tally-next xs i d h = simp tally-total (total-next (λ x. pick (p x) 1 0) xs i d h)

  -- the members that pass are as many
  pub length-keep : (xs : List A) → length (keep p xs) ≡ tally p xs
  length-keep xs = length-total (keep p xs) ∙ total-keep (λ x. 1) p xs ∙ sym (tally-total xs)

-- of a value made of each member, and of the members that pass another test
pub tally-map : {A B : Type 0} (p : A → Bool) (g : B → A) (xs : List B) → tally p (map g xs) ≡ tally (λ x. p (g x)) xs
tally-map p g xs = simp tally-total (total-map (λ x. pick (p x) 1 0) g xs)

pub tally-keep : {A : Type 0} (p q : A → Bool) (xs : List A) → tally p (keep q xs) ≡ tally (λ x. q x && p x) xs
tally-keep p q xs = sym (length-keep p (keep q xs)) ∙ ap length (keep-keep p q xs) ∙ length-keep (λ x. q x && p x) xs

module _ {A : Type 0} (p : A → Bool) where
  -- at most every member; none where none passes, and some where one does
  pub tally-le : (xs : List A) → tally p xs ≤ length xs
  tally-le [] = omega arith
  tally-le (x ∷ xs) = go (p x) (tally-le xs)
    where
      go : (b : Bool) → tally p xs ≤ length xs → pick b (suc (tally p xs)) (tally p xs) ≤ suc (length xs)
      go true h = omega arith
      go false h = omega arith

  pub tally-none : (xs : List A) → any p xs ≡ false → tally p xs ≡ 0
  tally-none xs e = sym (length-keep p xs) ∙ ap length (keep-none p xs e)

  pub tally-some : (xs : List A) → any p xs ≡ true → 0 < tally p xs
  tally-some [] e = absurd (false≢true e)
  tally-some (x ∷ xs) e = go (p x) e (tally-some xs)
    where
      go : (b : Bool) → (b || any p xs) ≡ true → (any p xs ≡ true → 0 < tally p xs)
          → 0 < pick b (suc (tally p xs)) (tally p xs)
      go true e h = omega arith
      go false e h = h e

  pub some-tally : (xs : List A) → 0 < tally p xs → any p xs ≡ true
  some-tally xs l = go (bool_cases (any p xs))
    where
      go : (any p xs ≡ true) ⊎ (any p xs ≡ false) → any p xs ≡ true
      go (inl e) = e
      go (inr e) = absurd (omega (arith, tally-none xs e))

  -- the first member's place: in the list, of a member that passes; else the list's length
  pub place_found : (xs : List A) → any p xs ≡ true → place_of p xs < length xs
  place_found [] e = absurd (false≢true e)
  place_found (x ∷ xs) e = go (p x) e (place_found xs)
    where
      go : (b : Bool) → (b || any p xs) ≡ true → (any p xs ≡ true → place_of p xs < length xs)
          → pick b 0 (suc (place_of p xs)) < suc (length xs)
      go true e h = omega arith
      go false e h = suc-le-suc (h e)

  pub place_is : (xs : List A) (d : A) → any p xs ≡ true → p (get_or xs (place_of p xs) d) ≡ true
  place_is [] d e = absurd (false≢true e)
  place_is (x ∷ xs) d e = go (p x) refl e (place_is xs d)
    where
      go : (b : Bool) → p x ≡ b → (b || any p xs) ≡ true → (any p xs ≡ true → p (get_or xs (place_of p xs) d) ≡ true)
          → p (get_or (x ∷ xs) (pick b 0 (suc (place_of p xs))) d) ≡ true
      go true q e h = q
      go false q e h = h e

  pub place_none : (xs : List A) → any p xs ≡ false → place_of p xs ≡ length xs
  place_none [] e = refl
  place_none (x ∷ xs) e =
      rw (or-neither-left (p x) (any p xs) e) (ap suc (place_none xs (or-neither-right (p x) (any p xs) e)))

  -- no member before it passes, and that tells the place
  pub place-before : (xs : List A) (i : ℕ) (d : A) → i < place_of p xs → p (get_or xs i d) ≡ false
  place-before [] i d l = absurd (not-suc-le-zero l)
  place-before (x ∷ xs) i d l = go (p x) refl i l (λ j. place-before xs j d)
    where
      go : (b : Bool) → p x ≡ b → (i : ℕ) → i < pick b 0 (suc (place_of p xs))
          → ((j : ℕ) → j < place_of p xs → p (get_or xs j d) ≡ false) → p (get_or (x ∷ xs) i d) ≡ false
      go true q i l h = absurd (not-suc-le-zero l)
      go false q zero l h = q
      go false q (suc j) l h = h j (le_of_suc-le-suc l)

  pub place_here : (xs : List A) (k : ℕ) (d : A) → k < length xs → p (get_or xs k d) ≡ true
      → ((i : ℕ) → i < k → p (get_or xs i d) ≡ false) → place_of p xs ≡ k
  place_here [] k d l e h = absurd (not-suc-le-zero l)
  place_here (x ∷ xs) zero d l e h = rw e
  place_here (x ∷ xs) (suc k) d l e h =
      rw (h 0 (zero-lt-suc k)) (ap suc (place_here xs k d (le_of_suc-le-suc l) e (λ i m. h (suc i) (suc-le-suc m))))

  -- the first member that passes, taken out
  pub total-without : (f : A → ℕ) (xs : List A) (d : A) → any p xs ≡ true
      → total f xs ≡ f (get_or xs (place_of p xs) d) + total f (without p xs)
  total-without f [] d e = absurd (false≢true e)
  total-without f (x ∷ xs) d e = go (p x) e (total-without f xs d)
    where
      go : (b : Bool) → (b || any p xs) ≡ true
          → (any p xs ≡ true → total f xs ≡ f (get_or xs (place_of p xs) d) + total f (without p xs))
          → f x + total f xs
          ≡ f (get_or (x ∷ xs) (pick b 0 (suc (place_of p xs))) d) + total f (pick b xs (x ∷ without p xs))
      go true e h = refl
      go false e h = omega (arith, h e)

  pub without-none : (xs : List A) → any p xs ≡ false → without p xs ≡ xs
  without-none [] e = refl
  without-none (x ∷ xs) e =
      rw (or-neither-left (p x) (any p xs) e, without-none xs (or-neither-right (p x) (any p xs) e))

-- the members that fail a test and those that pass it make up the list
pub tally-not : {A : Type 0} (p : A → Bool) (xs : List A) → tally (λ x. not (p x)) xs + tally p xs ≡ length xs
tally-not p [] = refl
tally-not p (x ∷ xs) = go (p x) (tally-not p xs)
  where
    no : ℕ
    no = tally (λ x. not (p x)) xs

    go : (b : Bool) → no + tally p xs ≡ length xs
        → pick (not b) (suc no) no + pick b (suc (tally p xs)) (tally p xs) ≡ suc (length xs)
    go true h = omega arith
    go false h = omega arith

-- no more members pass a test than there are
pub keep-most : {A : Type 0} (p : A → Bool) (xs : List A) → length (keep p xs) ≤ length xs
keep-most p xs = omega (arith, length-keep p xs, tally-le p xs)
