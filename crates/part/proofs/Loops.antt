-- The loops of this crate, over any list and any test.
-- In order: `Tallied`, k members are seen and n of them pass, with its laws; `Passed`, no member before place k passes,
-- with its laws, and these of a partition's records.
-- Assumes nothing.
use mathlib.Core.Bool.{Bool, true, false}
use mathlib.Core.List.{List}
use mathlib.Core.Path.{◌≡◌, refl, sym, ap, ◌∙◌}
use Prim.Native.Nat.{ℕ, suc, ◌+◌, ◌≤◌, ◌<◌}
use native.Mathlib.Nat.{add-zero}
use native.Mathlib.Numerals.{add-one}
use native.Mathlib.Omega.{arith}
use lib.ListN.{length, get_or, drop, drop_of_length-le}
use lib.Seq.{drop-cons}
use Rattle.lists.specs.Choice.{pick}
use Rattle.lists.specs.Members.{tally, place_of}
use Rattle.lists.proofs.Tally.{tally-end, tally-next, tally-le}
use Rattle.part.specs.Part.{counted}
use Rattle.part.proofs.Parts.{Kind, length-values, value_in}

-- ---- counting the members that pass: k are seen, n of them pass

pub record Tallied {A : Type 0} (p : A → Bool) (xs : List A) (k n : ℕ) : Type 0 where
  pub within : k ≤ length xs
  pub found : n + tally p (drop k xs) ≡ tally p xs

-- a turn, by what the test answers at place k
pub record TallyTurn {A : Type 0} (p : A → Bool) (xs : List A) (k n : ℕ) (answer : Bool) : Type 0 where
  pub more : answer ≡ true → Tallied p xs (k + 1) (n + 1)
  pub same : answer ≡ false → Tallied p xs (k + 1) n

module _ {A : Type 0} (p : A → Bool) (xs : List A) where
  pub tallied-none : Tallied p xs 0 0
  tallied-none = record { within = omega arith; found = omega arith }

  -- the member at place k is x, and the test is asked of it
  pub tallied-turn : (k n : ℕ) (x : A) (answer : Bool) → k < length xs → get_or xs k x ≡ x → answer ≡ p x
      → Tallied p xs k n → TallyTurn p xs k n answer
  tallied-turn k n x answer h at e s = record {
    more = λ q. rw (sym e ∙ q) at next;
    same = λ q. rw (sym e ∙ q, add-zero) at next;
  }
    where
      next : Tallied p xs (k + 1) (n + pick (p x) 1 0)
      next = record { within = omega arith; found = omega (arith, s.found, rw at at (tally-next p xs k x h)) }

  -- no more pass than there are
  pub tallied-most : (k n : ℕ) → Tallied p xs k n → n ≤ length xs
  tallied-most k n s = omega (arith, s.found, tally-le p xs)

  -- all are seen
  pub tallied-all : (k n : ℕ) → length xs ≤ k → Tallied p xs k n → n ≡ tally p xs
  tallied-all k n h s = omega (arith, s.found, tally-end p xs k h)

-- ---- finding the first member that passes: none before place k does

pub record Passed {A : Type 0} (p : A → Bool) (xs : List A) (k : ℕ) : Type 0 where
  pub within : k ≤ length xs
  pub place : place_of p xs ≡ k + place_of p (drop k xs)

-- a turn, by what the test answers at place k
pub record PlaceTurn {A : Type 0} (p : A → Bool) (xs : List A) (k : ℕ) (answer : Bool) : Type 0 where
  pub here : answer ≡ true → k ≡ place_of p xs
  pub more : answer ≡ false → Passed p xs (k + 1)

module _ {A : Type 0} (p : A → Bool) (xs : List A) where
  pub passed_none : Passed p xs 0
  passed_none = record { within = omega arith; place = omega arith }

  -- the member at place k is x, and the test is asked of it
  pub passed-turn : (k : ℕ) (x : A) (answer : Bool) → k < length xs → get_or xs k x ≡ x → answer ≡ p x → Passed p xs k
      → PlaceTurn p xs k answer
  passed-turn k x answer h at e s = record {
    here = λ q. omega (arith, s.place, rw (sym e ∙ q) at next);
    more = λ q. record { within = omega arith; place = omega (arith, s.place, rw (sym e ∙ q) at next) };
  }
    where
      next : place_of p (drop k xs) ≡ pick (p x) 0 (suc (place_of p (drop (k + 1) xs)))
      next = rw (add-one, drop-cons xs k x h, at)

  -- none passes
  pub passed-all : (k : ℕ) → length xs ≤ k → Passed p xs k → k ≡ place_of p xs
  passed-all k h s = omega (arith, s.place, s.within, ap (place_of p) (drop_of_length-le xs h))

-- the same of a partition's counted records, tuples or rows: the test is asked of record k
module _ {A : Type 0} (kind : Kind A) (part : List ℕ) {p : A → Bool} {k : ℕ} where
  place-turn : k < counted part → Passed p (kind.held part) k
      → PlaceTurn p (kind.held part) k (p (kind.at part k))
  place-turn h s =
      let x = kind.at part k in
      let within : k < length (kind.held part) = omega (arith, length-values kind part) in
      passed-turn p (kind.held part) k x (p x) within (value_in kind k part x h) refl s

  pub place_here : k < counted part → p (kind.at part k) ≡ true → Passed p (kind.held part) k
      → k ≡ place_of p (kind.held part)
  place_here h e s = (place-turn h s).here e

  pub place-more : k < counted part → p (kind.at part k) ≡ false → Passed p (kind.held part) k
      → Passed p (kind.held part) (k + 1)
  place-more h e s = (place-turn h s).more e

  pub place_none : counted part ≤ k → Passed p (kind.held part) k → counted part ≡ place_of p (kind.held part)
  place_none h s =
      let long = length-values kind part in
      omega (arith, long, s.within, passed-all p (kind.held part) k (omega (arith, long)) s)
