-- The loop of `clear`: `Cleared`, the words before place i are 0 and the others as they were, with its laws.
-- Assumes nothing.
use mathlib.Core.List.{List, ◌++◌, append-nil}
use mathlib.Core.Path.{◌≡◌, ap, ◌∙◌}
use Prim.Native.Nat.{ℕ, ◌+◌, ◌≤◌, ◌<◌}
use native.Mathlib.Omega.{arith}
use borrow.Author.Fill.{fill_none, fill_more}
use lib.ListN.{length, drop, set, replicate, length-append, length-replicate, length-drop, drop_of_length-le}

pub record Cleared (whole : List ℕ) (i : ℕ) (words : List ℕ) : Type 0 where
  pub within : i ≤ length whole
  pub holds : words ≡ replicate i 0 ++ drop i whole

module _ (whole : List ℕ) where
  pub cleared-none : Cleared whole 0 whole
  cleared-none = record { within = omega arith; holds = fill_none whole 0 }

  pub cleared_more : (i : ℕ) (words : List ℕ) → i < length whole → Cleared whole i words
      → Cleared whole (i + 1) (set words i 0)
  cleared_more i words h s = record {
    within = omega arith;
    holds = rw s.holds (fill_more i 0 whole h);
  }

  pub cleared-length : (i : ℕ) (words : List ℕ) → Cleared whole i words → length words ≡ length whole
  cleared-length i words s =
      ap length s.holds ∙ simp (length-append, length-replicate, length-drop) (omega (arith, s.within))

  pub cleared-all : (i : ℕ) (words : List ℕ) → length whole ≤ i → Cleared whole i words
      → words ≡ replicate (length whole) 0
  cleared-all i words h s =
      let end : i ≡ length whole = omega arith in
      s.holds ∙ rw (drop_of_length-le whole h, append-nil, end)
