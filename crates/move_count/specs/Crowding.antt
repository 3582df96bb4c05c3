-- How many of a store's records belong to each partition of another plan, for checks 9 and 10 of a repartition. One set
-- for both widths w: a record's home goes by its last word.
use Rattle.std.specs.Prelude.{Bool, true, List, ◌≡◌, ℕ, ◌+◌, ◌^◌, ◌≤◌, ◌<◌, ltb, eqb, length, get_or}
use Rattle.lists.specs.Members.{all, any, tally, below}
use Rattle.plan.specs.Plan.{cover, cuts_of, home_of}
use Rattle.plan.specs.declared.Partitioning.{Partitioning}
use Rattle.part.specs.Part.{room_of, counted, records_in}
use Rattle.moves.specs.Moves.{last_of, stored_records, Counts}

-- how many of these records have their home at i, by these cuts
unfoldable pub held_at : ℕ → List ℕ → List (List ℕ) → ℕ → ℕ
held_at w cuts rs i = tally (λ r. eqb (home_of cuts (last_of w r)) i) rs

-- some partition of q would get more of a store's records than the capacity
unfoldable pub overfull : ℕ → ℕ → Partitioning → ℕ → List ℕ → Bool
overfull w room q capacity ws =
    any (λ i. ltb capacity (held_at w (cuts_of q) (stored_records w room q.count ws) i)) (below q.count)

-- records that have a home each
abbrev pub Homed : ℕ → List ℕ → List (List ℕ) → Type 0
Homed w cuts rs = all (λ r. ltb (home_of cuts (last_of w r)) (length cuts)) rs ≡ true

-- what counting a partition's records asks: cuts that cover, a count for each, which no sum takes past a word
pub record PartCountable (w : ℕ) (part cuts counts : List ℕ) : Type 0 where
  pub wide : 1 ≤ w
  pub covered : cover cuts ≡ true
  pub places : length counts ≡ length cuts
  pub within : room_of w (counted part) ≤ length part
  pub homes : Homed w cuts (records_in w part)
  pub room : (i : ℕ) → i < length cuts → get_or counts i 0 + counted part < 2 ^ 64

-- each count grew by the partition's records at home there
pub record PartTallied (w : ℕ) (part cuts counts counts' : List ℕ) : Type 0 where
  pub long : length counts' ≡ length counts
  pub each : (i : ℕ) → i < length cuts → get_or counts' i 0 ≡ get_or counts i 0 + held_at w cuts (records_in w part) i

-- what counting a store's records asks: counts that are 0
pub record Countable (w room : ℕ) (ws cuts counts : List ℕ) : Type 0 where
  pub wide : 1 ≤ w
  pub covered : cover cuts ≡ true
  pub places : length counts ≡ length cuts
  pub none : (i : ℕ) → i < length cuts → get_or counts i 0 ≡ 0
  pub inside : Counts w room (length cuts) ws
  pub homes : Homed w cuts (stored_records w room (length cuts) ws)

-- each count is that of the store's records at home there
pub record Tallied (w room : ℕ) (ws cuts counts' : List ℕ) : Type 0 where
  pub long : length counts' ≡ length cuts
  pub each : (i : ℕ) → i < length cuts
      → get_or counts' i 0 ≡ held_at w cuts (stored_records w room (length cuts) ws) i
