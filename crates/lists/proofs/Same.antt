-- Laws of Same (specs/Same): the same members, each as often, in some order.
-- In order: totals, as helpers; what holds for any test: Same is an equivalence, two members exchanged, ∷, ++ and
-- gather, removal by overwriting, a split by home; for a test that is an equality: a member taken out, equal totals,
-- tallies, lengths and tests, keep, map, gather, without.
use mathlib.Core.Bool.{Bool, true, false, not, not-not}
use mathlib.Core.List.{List, [], ◌∷◌, ◌++◌, map}
use mathlib.Core.Logic.{◌⊎◌, inl, inr}
use mathlib.Core.Path.{◌≡◌, refl, sym, ap, ◌∙◌}
use Prim.Native.Nat.{ℕ, zero, suc, ◌+◌, ◌≤◌, ◌<◌}
use native.Mathlib.Nat.{le_of_suc-le-suc, not-suc-le-zero}
use native.Mathlib.Omega.{arith}
use lib.Dec.{ltb, eqb}
use lib.ListN.{length, get_or, set, take, length-set}
use lib.Seq.{take_all, take-suc}
use borrow.Author.Tests.{ltb-true, eq-eqb, ne_eqb}
use Rattle.lists.specs.Choice.{pick}
use Rattle.lists.specs.Members.{all, any, keep, tally, total, gather, without, place_of, below}
use Rattle.lists.specs.Same.{IsEquality, Same}
use Rattle.lists.proofs.Choice.{bool_cases, and_left, and_right, same_test}
use Rattle.lists.proofs.Members.{any-not-all}
use Rattle.lists.proofs.Tally.{total-cong, total-swap, total-append, total-keep, total-without, length-total}
use Rattle.lists.proofs.Tally.{tally-total, tally-append, tally-map, tally-keep, tally-some, some-tally}
use Rattle.lists.proofs.Tally.{place_is, without-none}
use Rattle.lists.proofs.Gather.{tally-gather, total-gather}
use Rattle.lists.proofs.Below.{total-one}

module _ {A : Type 0} (f : A → ℕ) where
  -- totals, for the laws below: a member overwritten, and the last member
  total-set : (xs : List A) (k : ℕ) (z d : A) → k < length xs
      → f (get_or xs k d) + total f (set xs k z) ≡ f z + total f xs
  total-set [] k z d l = absurd (not-suc-le-zero l)
  total-set (x ∷ xs) zero z d l = omega arith
  total-set (x ∷ xs) (suc k) z d l = omega (arith, total-set xs k z d (le_of_suc-le-suc l))

  total-last : (xs : List A) (n : ℕ) (d : A) → length xs ≡ n + 1 → total f xs ≡ total f (take n xs) + f (get_or xs n d)
  total-last xs n d e =
      let s = sym (take_all (suc n) xs (omega arith)) ∙ take-suc xs n d (omega arith) in
      omega (arith, ap (total f) s, total-append f (take n xs) (get_or xs n d ∷ []))

  -- of numbers that are equal at each member that passes a test
  total-cong-all : (g : A → ℕ) (p : A → Bool) (xs : List A) → ((x : A) → p x ≡ true → f x ≡ g x) → all p xs ≡ true
      → total f xs ≡ total g xs
  total-cong-all g p [] h e = refl
  total-cong-all g p (x ∷ xs) h e =
      rw (h x (and_left (p x) (all p xs) e), total-cong-all g p xs h (and_right (p x) (all p xs) e))

-- the last member, after the overwriting of a member by it
last_set : {A : Type 0} (xs : List A) (k n : ℕ) (d : A) → get_or (set xs k (get_or xs n d)) n d ≡ get_or xs n d
last_set [] k n d = refl
last_set (x ∷ xs) zero zero d = refl
last_set (x ∷ xs) zero (suc n) d = refl
last_set (x ∷ xs) (suc k) zero d = refl
last_set (x ∷ xs) (suc k) (suc n) d = last_set xs k n d

module _ {A : Type 0} (same : A → A → Bool) where
  -- Same is an equivalence
  pub same_refl : (xs : List A) → Same same xs xs
  same_refl xs = λ x. refl

  pub same-sym : (xs ys : List A) → Same same xs ys → Same same ys xs
  same-sym xs ys h = λ x. sym (h x)

  pub same-trans : (xs ys zs : List A) → Same same xs ys → Same same ys zs → Same same xs zs
  same-trans xs ys zs h k = λ x. h x ∙ k x

  -- it holds where every total is the same
  same-of-total : (xs ys : List A) → ((f : A → ℕ) → total f xs ≡ total f ys) → Same same xs ys
  same-of-total xs ys h =
      λ x. tally-total (same x) xs ∙ h (λ y. pick (same x y) 1 0) ∙ sym (tally-total (same x) ys)

  -- two members, each in the other's place
  pub same-exchange : (xs : List A) (i k : ℕ) (d : A) → i < length xs → k < length xs
      → Same same (set (set xs i (get_or xs k d)) k (get_or xs i d)) xs
  same-exchange xs i k d h l = same-of-total (set half k (get_or xs i d)) xs sums
    where
      half : List A
      half = set xs i (get_or xs k d)

      sums : (f : A → ℕ) → total f (set half k (get_or xs i d)) ≡ total f xs
      sums f =
          let once = total-set f xs i (get_or xs k d) d h in
          let twice = total-set f half k (get_or xs i d) d (rw (length-set xs i (get_or xs k d)) l) in
          omega (arith, ap f (last_set xs i k d))

  -- one more member in front, and one less
  pub same-cons : (x : A) (xs ys : List A) → Same same xs ys → Same same (x ∷ xs) (x ∷ ys)
  same-cons x xs ys h = λ y. rw (h y)

  pub same-uncons : (x : A) (xs ys : List A) → Same same (x ∷ xs) (x ∷ ys) → Same same xs ys
  same-uncons x xs ys h = λ y. go (same y x) (tally (same y) xs) (tally (same y) ys) (h y)
    where
      go : (b : Bool) (m n : ℕ) → pick b (suc m) m ≡ pick b (suc n) n → m ≡ n
      go true m n e = omega arith
      go false m n e = e

  -- a list after another, and the other way round; a member from the middle
  pub same-append : (ws xs ys zs : List A) → Same same ws xs → Same same ys zs → Same same (ws ++ ys) (xs ++ zs)
  same-append ws xs ys zs h k =
      λ x. tally-append (same x) ws ys ∙ rw (h x, k x) (sym (tally-append (same x) xs zs))

  pub same-comm : (xs ys : List A) → Same same (xs ++ ys) (ys ++ xs)
  same-comm xs ys = same-of-total (xs ++ ys) (ys ++ xs) (λ f. omega (arith, total-append f xs ys, total-append f ys xs))

  pub same-middle : (x : A) (xs ys : List A) → Same same (xs ++ (x ∷ ys)) (x ∷ (xs ++ ys))
  same-middle x xs ys =
      same-of-total (xs ++ (x ∷ ys)) (x ∷ (xs ++ ys))
      (λ f. omega (arith, total-append f xs (x ∷ ys), total-append f xs ys))

  -- lists with the same members at each value; a table's lists, by rows and by columns
  pub same-gather-each : {B : Type 0} (f g : B → List A) (xs : List B) → ((x : B) → Same same (f x) (g x))
      → Same same (gather f xs) (gather g xs)
  same-gather-each f g xs h =
      λ y. tally-gather (same y) f xs
      ∙ total-cong (λ x. tally (same y) (f x)) (λ x. tally (same y) (g x)) xs (λ x. h x y)
      ∙ sym (tally-gather (same y) g xs)

  pub gather-swap : {B C : Type 0} (f : B → C → List A) (xs : List B) (ys : List C)
      → Same same (gather (λ x. gather (λ y. f x y) ys) xs) (gather (λ y. gather (λ x. f x y) xs) ys)
  gather-swap f xs ys = λ z. simp tally-gather (total-swap (λ x y. tally (same z) (f x y)) xs ys)

  -- removal: member k is overwritten by the last, and the last dropped
  pub same-overwrite : (xs : List A) (n k : ℕ) (d : A) → length xs ≡ n + 1 → k ≤ n
      → Same same xs (get_or xs k d ∷ take n (set xs k (get_or xs n d)))
  same-overwrite xs n k d e l = same-of-total xs (get_or xs k d ∷ take n ys) sums
    where
      ys : List A
      ys = set xs k (get_or xs n d)

      sums : (f : A → ℕ) → total f xs ≡ f (get_or xs k d) + total f (take n ys)
      sums f =
          let a = total-set f xs k (get_or xs n d) d (omega arith) in
          let b = total-last f ys n d (length-set xs k (get_or xs n d) ∙ e) in
          omega (arith, ap f (last_set xs k n d))

  -- the members split by their homes, which are below n, and put together again
  pub same-split : (h : A → ℕ) (n : ℕ) (xs : List A) → all (λ x. ltb (h x) n) xs ≡ true
      → Same same (gather (λ i. keep (λ x. eqb (h x) i) xs) (below n)) xs
  same-split h n xs e = same-of-total (gather (λ i. keep (λ x. eqb (h x) i) xs) (below n)) xs sums
    where
      share : (A → ℕ) → A → ℕ → ℕ
      share f x i = pick (eqb (h x) i) (f x) 0

      at_home : (f : A → ℕ) (x : A) → ltb (h x) n ≡ true → total (share f x) (below n) ≡ f x
      at_home f x l =
          total-one (share f x) n (h x) (ltb-true (h x) n l)
          (λ j m d. rw (ne_eqb (h x) j (λ q. d (sym q))))
          ∙ rw (eq-eqb (h x) (h x) refl)

      sums : (f : A → ℕ) → total f (gather (λ i. keep (λ x. eqb (h x) i) xs) (below n)) ≡ total f xs
      sums f =
          total-gather f (λ i. keep (λ x. eqb (h x) i) xs) (below n)
          ∙ simp total-keep (total-swap (λ i x. share f x i) (below n) xs)
          ∙ total-cong-all (λ x. total (share f x) (below n)) f (λ x. ltb (h x) n) xs (at_home f) e

module _ {A : Type 0} (same : A → A → Bool) (law : IsEquality same) where
  -- the test may be asked either way round
  pub same-test-sym : (x y : A) → same x y ≡ same y x
  same-test-sym x y = same_test (same x y) (same y x) (turn x y) (turn y x)
    where
      turn : (x y : A) → same x y ≡ true → same y x ≡ true
      turn x y e = rw (law.equal x y e) (law.itself y)

  -- a member taken out, by its number and as a list
  pub total-take-out : (f : A → ℕ) (x : A) (xs : List A) → any (same x) xs ≡ true
      → total f xs ≡ f x + total f (without (same x) xs)
  total-take-out f x xs e =
      let q : x ≡ get_or xs (place_of (same x) xs) x = law.equal x _ (place_is (same x) xs x e) in
      total-without (same x) f xs x e ∙ ap (λ (y : A). f y + total f (without (same x) xs)) (sym q)

  pub take-out : (x : A) (xs : List A) → any (same x) xs ≡ true → Same same xs (x ∷ without (same x) xs)
  take-out x xs e = same-of-total same xs (x ∷ without (same x) xs) (λ f. total-take-out f x xs e)

  -- a list's first member stands in any list with the same members
  head_in : (x : A) (xs ys : List A) → Same same (x ∷ xs) ys → any (same x) ys ≡ true
  head_in x xs ys h = some-tally (same x) ys (omega (arith, rw (law.itself x) at (h x)))

  -- every total is the same
  pub total-same : (f : A → ℕ) (xs ys : List A) → Same same xs ys → total f xs ≡ total f ys
  total-same f [] [] h = refl
  total-same f [] (y ∷ ys) h = absurd (omega (arith, rw (law.itself y) at (h y)))
  total-same f (x ∷ xs) ys h =
      let e : any (same x) ys ≡ true = head_in x xs ys h in
      let ws : List A = without (same x) ys in
      let k : Same same xs ws = same-uncons same x xs ws (λ z. h z ∙ take-out x ys e z) in
      omega (arith, total-take-out f x ys e, total-same f xs ws k)

  -- so are tallies, lengths, and what some or every member passes
  pub tally-same : (p : A → Bool) (xs ys : List A) → Same same xs ys → tally p xs ≡ tally p ys
  tally-same p xs ys h = simp tally-total (total-same (λ x. pick (p x) 1 0) xs ys h)

  pub length-same : (xs ys : List A) → Same same xs ys → length xs ≡ length ys
  length-same xs ys h = simp length-total (total-same (λ x. 1) xs ys h)

  pub any_same : (p : A → Bool) (xs ys : List A) → Same same xs ys → any p xs ≡ any p ys
  any_same p xs ys h =
      same_test (any p xs) (any p ys)
      (λ e. some-tally p ys (omega (arith, tally-same p xs ys h, tally-some p xs e)))
      (λ e. some-tally p xs (omega (arith, tally-same p xs ys h, tally-some p ys e)))

  pub all_same : (p : A → Bool) (xs ys : List A) → Same same xs ys → all p xs ≡ all p ys
  all_same p xs ys h = simp (any-not-all, not-not) at (ap not (any_same (λ x. not (p x)) xs ys h))

  -- the members that pass a test, a value made of each member, and a list made of each
  pub same-keep : (p : A → Bool) (xs ys : List A) → Same same xs ys → Same same (keep p xs) (keep p ys)
  same-keep p xs ys h = λ z. simp tally-keep (tally-same _ xs ys h)

  pub same_map : {B : Type 0} (same_b : B → B → Bool) (f : A → B) (xs ys : List A) → Same same xs ys
      → Same same_b (map f xs) (map f ys)
  same_map same_b f xs ys h = λ z. simp tally-map (tally-same (λ x. same_b z (f x)) xs ys h)

  pub same-gather : {B : Type 0} (same_b : B → B → Bool) (f : A → List B) (xs ys : List A) → Same same xs ys
      → Same same_b (gather f xs) (gather f ys)
  same-gather same_b f xs ys h = λ z. simp tally-gather (total-same (λ x. tally (same_b z) (f x)) xs ys h)

  -- one member less
  pub same-without : (x : A) (xs ys : List A) → Same same xs ys
      → Same same (without (same x) xs) (without (same x) ys)
  same-without x xs ys h = go (bool_cases (any (same x) xs))
    where
      go : (any (same x) xs ≡ true) ⊎ (any (same x) xs ≡ false) → Same same (without (same x) xs) (without (same x) ys)
      go (inl e) =
          same-uncons same x (without (same x) xs) (without (same x) ys)
          (λ z. sym (take-out x xs e z) ∙ h z ∙ take-out x ys (sym (any_same (same x) xs ys h) ∙ e) z)
      go (inr e) = rw (without-none (same x) xs e, without-none (same x) ys (sym (any_same (same x) xs ys h) ∙ e)) h
