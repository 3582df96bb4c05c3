-- Laws for a function that goes down its checks, each by `?`: what it answers where a check refuses, and where one
-- passes. Each refusal has a number above 0.
-- Assumes nothing.
use mathlib.Core.List.{List, ◌∷◌}
use mathlib.Core.Path.{◌≡◌, refl, sym, ◌∙◌}
use Prim.Native.Nat.{ℕ}
use native.Mathlib.Omega.{arith}
use lib.Dec.{eqb}
use borrow.Author.Tests.{ne_eqb}
use Rattle.std.specs.Prelude.{Result, Ok, Err, is_ok}
use Rattle.lists.specs.Choice.{first_of}
use Rattle.lists.proofs.Choice.{answer-here, answer-next}
use Rattle.refusal.specs.Refusal.{number, answer_number}
use Rattle.refusal.specs.declared.Refusal.{Refusal}
use Rattle.refusal.specs.declared.Refusal.TheVariants.{PartitionCount, Cuts, Capacity, Length, Unsound, Label, Item}
use Rattle.refusal.specs.declared.Refusal.TheVariants.{Backward, Full, Crowded, Missing, Lacking, ShortCache, Malformed}
use Rattle.refusal.specs.declared.Refusal.TheVariants.{OutOfTurn, PastCalendar, Minimum, ShortBuffer}

pub number-above : (r : Refusal) → number r ≡ 0 → ⊥
number-above PartitionCount e = omega (arith, e)
number-above Cuts e = omega (arith, e)
number-above Capacity e = omega (arith, e)
number-above Length e = omega (arith, e)
number-above Unsound e = omega (arith, e)
number-above Label e = omega (arith, e)
number-above Item e = omega (arith, e)
number-above Backward e = omega (arith, e)
number-above Full e = omega (arith, e)
number-above Crowded e = omega (arith, e)
number-above Missing e = omega (arith, e)
number-above Lacking e = omega (arith, e)
number-above ShortCache e = omega (arith, e)
number-above Malformed e = omega (arith, e)
number-above OutOfTurn e = omega (arith, e)
number-above PastCalendar e = omega (arith, e)
number-above Minimum e = omega (arith, e)
number-above ShortBuffer e = omega (arith, e)

-- the check with the number m refuses with r, and the function hands that on: it is the first number that is not 0
pub refused-here : {n m : ℕ} (r : Refusal) (ns : List ℕ) → n ≡ number r → number r ≡ m → n ≡ first_of (m ∷ ns)
refused-here {n} {m} r ns s e = answer-here ns (s ∙ e) (λ z. number-above r (sym s ∙ z))

-- it passes: the checks after it answer
pub passed-next : {n m : ℕ} (ns : List ℕ) → 0 ≡ m → n ≡ first_of ns → n ≡ first_of (m ∷ ns)
passed-next {n} {m} ns e a = answer-next ns e refl a

-- an answer's number is above 0 exactly where it is a refusal
pub passed-is : {A : Type 0} (answer : Result A Refusal) → answer_number answer ≡ 0 → (a : A) × (answer ≡ Ok a)
passed-is (Ok a) e = (a, refl)
passed-is (Err r) e = absurd (number-above r e)

pub refused-is : {A : Type 0} (answer : Result A Refusal) → (answer_number answer ≡ 0 → ⊥)
    → (r : Refusal) × (answer ≡ Err r)
refused-is (Ok a) h = absurd (h refl)
refused-is (Err r) h = (r, refl)

-- whether it is accepted
pub accepted-test : {A : Type 0} (answer : Result A Refusal) → is_ok answer ≡ eqb (answer_number answer) 0
accepted-test (Ok a) = refl
accepted-test (Err r) = sym (ne_eqb (number r) 0 (number-above r))
