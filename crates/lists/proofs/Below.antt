-- Laws of up_from and below (specs/Members): rising numbers.
-- In order: length and members; the next number, the end, a cut, the last number; tests of the numbers below n;
-- functions that agree below n; functions that give nothing at every number below n but one, or more at one.
use mathlib.Core.Bool.{Bool, true, false}
use mathlib.Core.List.{List, [], ◌∷◌, ◌++◌, map, append-nil}
use mathlib.Core.Logic.{◌⊎◌, inl, inr}
use mathlib.Core.Path.{◌≡◌, refl, sym, ap, ◌∙◌}
use Prim.Native.Nat.{ℕ, zero, suc, ◌+◌, ◌-◌, ◌≤◌, ◌<◌}
use native.Mathlib.Nat.{add-zero, zero-add, not-suc-le-zero, le_of_suc-le-suc}
use native.Mathlib.Numerals.{add-one}
use native.Mathlib.Omega.{arith}
use lib.Dec.{eqb, leb}
use lib.ListN.{length, get_or}
use borrow.Author.Tests.{eqb-true, eqb-false, eq-eqb, ne_eqb, le-leb, lt-leb}
use Rattle.lists.specs.Choice.{pick}
use Rattle.lists.specs.Members.{all, any, keep, total, gather, place_of, up_from, below}
use Rattle.lists.proofs.Choice.{bool_cases, or_left, or_right}
use Rattle.lists.proofs.Members.{all-get_or, get_or-all, keep_append}
use Rattle.lists.proofs.Tally.{total-add, total-map, total-keep, place_found, place_is}
use Rattle.lists.proofs.Gather.{gather-map, gather-pick}

-- how many they are
pub length_up : (i n : ℕ) → length (up_from i n) ≡ n
length_up i zero = refl
length_up i (suc n) = ap suc (length_up (suc i) n)

pub length-below : (n : ℕ) → length (below n) ≡ n
length-below n = length_up 0 n

-- number k of them
pub get_or-up : (i n k d : ℕ) → k < n → get_or (up_from i n) k d ≡ i + k
get_or-up i zero k d l = absurd (not-suc-le-zero l)
get_or-up i (suc n) zero d l = sym (add-zero i)
get_or-up i (suc n) (suc k) d l = omega (arith, get_or-up (suc i) n k d (le_of_suc-le-suc l))

pub get_or-below : (n k d : ℕ) → k < n → get_or (below n) k d ≡ k
get_or-below n k d l = get_or-up 0 n k d l ∙ zero-add k

-- the numbers from i on below n: the next of them, and none
pub up_next : (i n : ℕ) → i < n → up_from i (n - i) ≡ i ∷ up_from (i + 1) (n - (i + 1))
up_next i n l = let e : n - i ≡ suc (n - (i + 1)) = omega arith in rw (e, add-one)

pub up-end : (i n : ℕ) → n ≤ i → up_from i (n - i) ≡ []
up-end i n l = let e : n - i ≡ 0 = omega arith in rw e

-- a cut, and the last number
pub up_split : (i m n : ℕ) → up_from i (m + n) ≡ up_from i m ++ up_from (i + m) n
up_split i zero n = rw (zero-add, add-zero)
up_split i (suc m) n =
    let e : suc m + n ≡ suc (m + n) = omega arith in
    let r : i + suc m ≡ suc i + m = omega arith in
    rw (e, r, up_split (suc i) m n)

module _ (p : ℕ → Bool) (n : ℕ) where
  -- every number below n passes: from it, and to it
  pub all-below : all p (below n) ≡ true → (i : ℕ) → i < n → p i ≡ true
  all-below h i l =
      let m : i < length (below n) = rw (length-below n) l in
      rw (get_or-below n i 0) at (all-get_or p (below n) 0 h i m)

  pub below_all : ((i : ℕ) → i < n → p i ≡ true) → all p (below n) ≡ true
  below_all h = get_or-all p (below n) 0 (λ i l. each i (rw (length-below n) at l))
    where
      each : (i : ℕ) → i < n → p (get_or (below n) i 0) ≡ true
      each i l = rw (get_or-below n i 0) (h i l)

  -- some number below n passes: from it, and to it
  pub any_below : any p (below n) ≡ true → (i : ℕ) × (i < n) × (p i ≡ true)
  any_below e =
      let k : ℕ = place_of p (below n) in
      let l : k < n = rw (length-below n) at (place_found p (below n) e) in
      (k, l, rw (get_or-below n k 0) at (place_is p (below n) 0 e))

  pub below-any : (i : ℕ) → i < n → p i ≡ true → any p (below n) ≡ true
  below-any i l e = here (below n) i (rw (length-below n) l) (rw (get_or-below n i 0) e)
    where
      here : (xs : List ℕ) (k : ℕ) → k < length xs → p (get_or xs k 0) ≡ true → any p xs ≡ true
      here [] k l e = absurd (not-suc-le-zero l)
      here (x ∷ xs) zero l e = or_left (p x) (any p xs) e
      here (x ∷ xs) (suc k) l e = or_right (p x) (any p xs) (here xs k (le_of_suc-le-suc l) e)

-- functions that agree on the numbers
map-cong-up : {A : Type 0} (f g : ℕ → A) (i n : ℕ) → ((k : ℕ) → i ≤ k → k < i + n → f k ≡ g k)
    → map f (up_from i n) ≡ map g (up_from i n)
map-cong-up f g i zero h = refl
map-cong-up f g i (suc n) h =
    rw (h i (omega arith) (omega arith), map-cong-up f g (suc i) n (λ k l m. h k (omega arith) (omega arith)))

map-cong-below : {A : Type 0} (f g : ℕ → A) (n : ℕ) → ((i : ℕ) → i < n → f i ≡ g i) → map f (below n) ≡ map g (below n)
map-cong-below f g n h = map-cong-up f g 0 n (λ k l m. h k (omega arith))

pub gather-cong-below : {A : Type 0} (f g : ℕ → List A) (n : ℕ) → ((i : ℕ) → i < n → f i ≡ g i)
    → gather f (below n) ≡ gather g (below n)
gather-cong-below f g n h =
    sym (gather-map (λ l. l) f (below n)) ∙ ap (gather (λ l. l)) (map-cong-below f g n h)
    ∙ gather-map (λ l. l) g (below n)

pub total-cong-below : (f g : ℕ → ℕ) (n : ℕ) → ((i : ℕ) → i < n → f i ≡ g i) → total f (below n) ≡ total g (below n)
total-cong-below f g n h =
    sym (total-map (λ k. k) f (below n)) ∙ ap (total (λ k. k)) (map-cong-below f g n h) ∙ total-map (λ k. k) g (below n)

-- the one number of them that is i
keep-past : (i a n : ℕ) → i < a → keep (λ j. eqb j i) (up_from a n) ≡ []
keep-past i a zero l = refl
keep-past i a (suc n) l = rw (ne_eqb a i (omega arith)) (keep-past i (suc a) n (omega arith))

keep-up : (i a n : ℕ) → a ≤ i → i < a + n → keep (λ j. eqb j i) (up_from a n) ≡ i ∷ []
keep-up i a zero l m = absurd (omega arith)
keep-up i a (suc n) l m = go (bool_cases (eqb a i)) (keep-up i (suc a) n)
  where
    go : (eqb a i ≡ true) ⊎ (eqb a i ≡ false)
        → (suc a ≤ i → i < suc a + n → keep (λ j. eqb j i) (up_from (suc a) n) ≡ i ∷ [])
        → keep (λ j. eqb j i) (up_from a (suc n)) ≡ i ∷ []
    go (inl e) h =
        let q : a ≡ i = eqb-true a i e in
        rw (e, keep-past i (suc a) n (omega arith), q)
    go (inr e) h = rw e (h (omega (arith, eqb-false a i e)) (omega arith))

-- a function that gives nothing elsewhere, picked by the test
picked : {A : Type 0} (f : ℕ → A) (z : A) (i j : ℕ) → ((j ≡ i → ⊥) → f j ≡ z) → f j ≡ pick (eqb j i) (f j) z
picked f z i j h = go (bool_cases (eqb j i))
  where
    go : (eqb j i ≡ true) ⊎ (eqb j i ≡ false) → f j ≡ pick (eqb j i) (f j) z
    go (inl e) = rw e
    go (inr e) = rw e (h (eqb-false j i e))

-- functions that give nothing at every number below n but i
pub gather-one : {A : Type 0} (f : ℕ → List A) (n i : ℕ) → i < n → ((j : ℕ) → j < n → (j ≡ i → ⊥) → f j ≡ [])
    → gather f (below n) ≡ f i
gather-one f n i l h =
    gather-cong-below f (λ j. pick (eqb j i) (f j) []) n (λ j m. picked f [] i j (h j m))
    ∙ gather-pick (λ j. eqb j i) f (below n) ∙ rw (keep-up i 0 n (omega arith) (omega arith)) (append-nil (f i))

pub total-one : (f : ℕ → ℕ) (n i : ℕ) → i < n → ((j : ℕ) → j < n → (j ≡ i → ⊥) → f j ≡ 0) → total f (below n) ≡ f i
total-one f n i l h =
    total-cong-below f (λ j. pick (eqb j i) (f j) 0) n (λ j m. picked f 0 i j (h j m))
    ∙ sym (total-keep f (λ j. eqb j i) (below n)) ∙ rw (keep-up i 0 n (omega arith) (omega arith)) (add-zero (f i))

-- a function that gives c more at i, and the same elsewhere
pub total-more : (f g : ℕ → ℕ) (n i c : ℕ) → i < n → ((j : ℕ) → j < n → (j ≡ i → ⊥) → g j ≡ f j) → g i ≡ c + f i
    → total g (below n) ≡ c + total f (below n)
total-more f g n i c l h e =
    total-cong-below g (λ j. pick (eqb j i) c 0 + f j) n at
    ∙ total-add (λ j. pick (eqb j i) c 0) f (below n)
    ∙ ap (λ (m : ℕ). m + total f (below n)) (total-one (λ j. pick (eqb j i) c 0) n i l none ∙ rw (eq-eqb i i refl))
  where
    none : (j : ℕ) → j < n → (j ≡ i → ⊥) → pick (eqb j i) c 0 ≡ 0
    none j m ne = rw (ne_eqb j i ne)

    at : (j : ℕ) → j < n → g j ≡ pick (eqb j i) c 0 + f j
    at j m = go (bool_cases (eqb j i))
      where
        go : (eqb j i ≡ true) ⊎ (eqb j i ≡ false) → g j ≡ pick (eqb j i) c 0 + f j
        go (inl q) = rw (q, eqb-true j i q) e
        go (inr q) = rw (q, zero-add) (h j m (eqb-false j i q))

-- the numbers below n that are at least a: of those from b on, all and none; of all
up_kept : (a b m : ℕ) → a ≤ b → keep (leb a) (up_from b m) ≡ up_from b m
up_kept a b zero l = refl
up_kept a b (suc m) l = rw (le-leb a b l, up_kept a (suc b) m (omega arith))

up-dropped : (a b m : ℕ) → b + m ≤ a → keep (leb a) (up_from b m) ≡ []
up-dropped a b zero l = refl
up-dropped a b (suc m) l = rw (lt-leb a b (omega arith), up-dropped a (suc b) m (omega arith))

pub below-from : (a n : ℕ) → a ≤ n → keep (leb a) (below n) ≡ up_from a (n - a)
below-from a n l =
    let e : n ≡ a + (n - a) = omega arith in
    ap (λ (k : ℕ). keep (leb a) (below k)) e
    ∙ ap (keep (leb a)) (up_split 0 a (n - a))
    ∙ keep_append (leb a) (up_from 0 a) (up_from (0 + a) (n - a))
    ∙ rw (up-dropped a 0 a (omega arith), zero-add) (up_kept a a (n - a) (omega arith))
