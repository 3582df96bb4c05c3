-- A refusal of any call; and open: what it answers and leaves.
use Rattle.std.specs.Prelude.{◌≡◌, length, replicate}
use Rattle.plan.specs.declared.Partitioning.{Partitioning}
use Rattle.checks.specs.Stores.{Stores, stores, open_number}
use Rattle.refusal.specs.Refusal.{answer_number}
use Rattle.checks.specs.Answer.{Answer, changed_of, examined_of}

-- a refusal: "both 0 on a refusal", "No refusal changes any buffer."
pub record Refused (s s' : Stores) (a : Answer) : Type 0 where
  pub kept : s' ≡ s
  pub changed : changed_of a ≡ 0
  pub examined : examined_of a ≡ 0

-- "Open sets every word of the three stores to 0."
abbrev pub blank : Stores → Stores
blank s =
    stores (replicate (length s.outer) 0) (replicate (length s.inner) 0) (replicate (length s.rows) 0)

pub record Opened (p : Partitioning) (s s' : Stores) (a : Answer) : Type 0 where
  pub number : answer_number a ≡ open_number p s
  pub changed : changed_of a ≡ 0
  pub examined : examined_of a ≡ 0
  pub refused : (answer_number a ≡ 0 → ⊥) → s' ≡ s
  pub accepted : answer_number a ≡ 0 → s' ≡ blank s
