-- Lists of words that are all 0.
-- In order: a step of a loop that looks for a word that is not 0; 0 many times; lists joined; each word of such a list;
-- the whole of it; a part of it.
use mathlib.Core.Path.{◌≡◌, refl, ap, ap₂, ◌∙◌}
use mathlib.Core.Bool.{Bool, true, false, ◌&&◌}
use mathlib.Core.List.{List, [], ◌∷◌, ◌++◌}
use Prim.Native.Nat.{ℕ, zero, suc, ◌+◌, ◌≤◌, ◌<◌}
use native.Mathlib.Numerals.{add-one}
use native.Mathlib.Omega.{arith}
use lib.Dec.{eqb}
use lib.ListN.{length, drop, get_or, replicate, drop_of_length-le}
use lib.Seq.{drop-cons, get_or-drop}
use borrow.Author.Tests.{eqb-true, eq-eqb, ne_eqb}
use Rattle.lists.specs.Words.{zeros}

-- a loop that goes up: at the end, past a 0, and at a word that is not 0
pub zeros-end : (i : ℕ) (ws : List ℕ) → length ws ≤ i → zeros (drop i ws) ≡ true
zeros-end i ws h = rw (drop_of_length-le ws h)

pub zeros-next : (i : ℕ) (ws : List ℕ) → i < length ws → get_or ws i 0 ≡ 0
    → zeros (drop i ws) ≡ zeros (drop (i + 1) ws)
zeros-next i ws h e = rw (add-one, drop-cons ws i 0 h, eq-eqb (get_or ws i 0) 0 e)

pub zeros-stop : (i : ℕ) (ws : List ℕ) → i < length ws → (get_or ws i 0 ≡ 0 → ⊥) → zeros (drop i ws) ≡ false
zeros-stop i ws h e = rw (drop-cons ws i 0 h, ne_eqb (get_or ws i 0) 0 e)

-- 0 many times
pub zeros-replicate : (n : ℕ) → zeros (replicate n 0) ≡ true
zeros-replicate zero = refl
zeros-replicate (suc n) = zeros-replicate n

-- lists joined
and_assoc : (s t u : Bool) → (s && (t && u)) ≡ (s && t && u)
and_assoc true t u = refl
and_assoc false t u = refl

pub zeros-append : (xs ys : List ℕ) → zeros (xs ++ ys) ≡ (zeros xs && zeros ys)
zeros-append [] ys = refl
zeros-append (x ∷ xs) ys =
    ap (λ (t : Bool). eqb x 0 && t) (zeros-append xs ys) ∙ and_assoc (eqb x 0) (zeros xs) (zeros ys)

-- the two halves of a test that holds
both : (s t : Bool) → (s && t) ≡ true → (s ≡ true) × (t ≡ true)
both true t e = (refl, e)
both false t e = (cc, cc)

-- each word is 0, also one past the end, which reads as 0
pub zeros-get_or : (ws : List ℕ) → zeros ws ≡ true → (i : ℕ) → get_or ws i 0 ≡ 0
zeros-get_or [] h i = refl
zeros-get_or (w ∷ ws) h zero = eqb-true w 0 (both (eqb w 0) (zeros ws) h).0
zeros-get_or (w ∷ ws) h (suc i) = zeros-get_or ws (both (eqb w 0) (zeros ws) h).1 i

pub get_or-zeros : (ws : List ℕ) → ((i : ℕ) → i < length ws → get_or ws i 0 ≡ 0) → zeros ws ≡ true
get_or-zeros [] h = refl
get_or-zeros (w ∷ ws) h =
    rw (eq-eqb w 0 (h 0 (omega arith))) (get_or-zeros ws (λ i b. h (suc i) (omega arith)))

-- the whole list
pub zeros-are : (ws : List ℕ) → zeros ws ≡ true → ws ≡ replicate (length ws) 0
zeros-are [] h = refl
zeros-are (w ∷ ws) h =
    let (first, rest) = both (eqb w 0) (zeros ws) h in
    ap₂ ◌∷◌ (eqb-true w 0 first) (zeros-are ws rest)

-- a part
pub zeros-drop : (i : ℕ) (ws : List ℕ) → zeros ws ≡ true → zeros (drop i ws) ≡ true
zeros-drop i ws h = get_or-zeros (drop i ws) (λ j b. get_or-drop i ws j 0 ∙ zeros-get_or ws h (i + j))
