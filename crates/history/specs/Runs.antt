-- Lists of calls as the calls' own promises have them: each gets the stores as the call before left them, and the plan
-- that the last repartition returned.
use Rattle.std.specs.Prelude.{List, [], ◌∷◌, ◌≡◌, ℕ, length}
use Rattle.interval.specs.declared.time.Chronon.{Chronon}
use Rattle.interval.specs.declared.tuple.Tuple.{Tuple}
use Rattle.plan.specs.declared.Partitioning.{Partitioning}
use Rattle.rows.specs.declared.Side.{Side}
use Rattle.checks.specs.Stores.{Stores}
use Rattle.refusal.specs.Refusal.{answer_number}
use Rattle.checks.specs.Answer.{Answer}
use Rattle.join.specs.Changes.{Inserted, Deleted}
use Rattle.join.specs.Sweeps.{Swept}
use Rattle.join.specs.Repartitioning.{Repartitioned}
use Rattle.history.specs.Machine.{Call, insert, delete, sweep, repartition, Told}

-- one call by the record that stands in its `ensures`, from a plan and stores to a plan and stores, with its answer.
-- "each sweep brings its own two caches, of any length and contents"; last minutes are handed over in 64 places
pub data Step : Partitioning → Stores → Call → Answer → Partitioning → Stores → Type 0 where
  inserted : {p : Partitioning} {side : Side} {t : Tuple} {s s' : Stores} {a : Answer}
      → Inserted p side t s s' a → Step p s (insert side t) a p s'
  deleted : {p : Partitioning} {side : Side} {t : Tuple} {s s' : Stores} {a : Answer}
      → Deleted p side t s s' a → Step p s (delete side t) a p s'
  swept : {p : Partitioning} {s s' : Stores} {a : Answer} (c d c' d' : List ℕ)
      → Swept p s c d s' c' d' a → Step p s sweep a p s'
  repartitioned : {p p' : Partitioning} {new : List Chronon} {s s' : Stores} {a : Answer}
      → length new ≡ 64 → Repartitioned p new s s' a p' → Step p s (repartition new) a p' s'

-- a list of calls, the newest first
pub data Run (p₀ : Partitioning) (s₀ : Stores) : List Told → Partitioning → Stores → Type 0 where
  fresh : Run p₀ s₀ [] p₀ s₀
  then : {ts : List Told} {p p' : Partitioning} {s s' : Stores} {c : Call} {a : Answer}
      → Run p₀ s₀ ts p s → Step p s c a p' s' → Run p₀ s₀ (record { call = c; number = (answer_number a) } ∷ ts) p' s'
