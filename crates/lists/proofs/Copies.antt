-- A list copied into another, member by member.
-- Assumes nothing.
use mathlib.Core.List.{List, ◌++◌, append-nil}
use mathlib.Core.Path.{◌≡◌, ◌∙◌, ap}
use Prim.Native.Nat.{ℕ, ◌+◌, ◌≤◌, ◌<◌}
use native.Mathlib.Numerals.{add-one}
use native.Mathlib.Omega.{arith}
use lib.ListN.{length, get_or, take, set, drop_of_length-le}
use lib.Seq.{paste, paste-zero, paste-suc, length-paste, take_all}

-- the first i members of `source` stand in `whole` from place `at` on, all else as it was
pub record Copied {A : Type 0} (whole : List A) (at : ℕ) (source : List A) (i : ℕ) (words : List A) : Type 0 where
  pub fits : at + length source ≤ length whole
  pub upto : i ≤ length source
  pub holds : words ≡ paste whole at source i

module _ {A : Type 0} (whole : List A) (at : ℕ) (source : List A) where
  pub copied_none : at + length source ≤ length whole → Copied whole at source 0 whole
  copied_none l = record { fits = l; upto = omega arith; holds = paste-zero whole at source }

  pub copied-length : (i : ℕ) (words : List A) → Copied whole at source i words → length words ≡ length whole
  copied-length i words s =
      ap length s.holds ∙ length-paste whole at source i (omega (arith, s.fits, s.upto)) s.upto

  -- the store of a turn, at place k, of the value v
  pub copied_more : (i k : ℕ) (words : List A) (v d : A) → i < length source → k ≡ at + i → v ≡ get_or source i d
      → Copied whole at source i words → Copied whole at source (i + 1) (set words k v)
  copied_more i k words v d l e f s = record {
    fits = s.fits;
    upto = omega arith;
    holds =
        rw (s.holds, e, f, add-one) (paste-suc whole at source i d (omega (arith, s.fits)) l);
  }

  -- all are copied, up to the end
  pub copied_all : (i : ℕ) (words : List A) → length source ≤ i → at + length source ≡ length whole
      → Copied whole at source i words → words ≡ take at whole ++ source
  copied_all i words l e s =
      s.holds
      ∙ rw (take_all i source l, drop_of_length-le whole {i = at + i} (omega arith), append-nil)
