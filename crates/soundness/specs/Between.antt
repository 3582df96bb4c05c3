-- Check 5 for either kind of record: its words, its home by two comparisons, and the soundness of a store of them.
use Rattle.std.specs.Prelude.{Bool, ◌&&◌, List, ◌≡◌, ℕ, ◌*◌, ◌≤◌, leb, eqb, length}
use Rattle.lists.specs.Members.{all, below}
use Rattle.interval.specs.Tuple.{tuple_width, tuple_of, to, legal_tuple, row_width, row_of, row_to, legal_row}
use Rattle.plan.specs.Plan.{home}
use Rattle.plan.specs.declared.Partitioning.{Partitioning}
use Rattle.part.specs.Part.{room_of, sound_part}
use Rattle.store.specs.Store.{partition_at, tuple_at_home}
use Rattle.soundness.specs.declared.Records.{Records}
use Rattle.soundness.specs.declared.Records.TheVariants.{Tuples, Rows}

-- the words of a record
abbrev pub width_of : Records → ℕ
width_of Tuples = tuple_width
width_of (Rows minimum) = row_width

-- a record that is legal or not, and its last chronon m from `first` to `last`
unfoldable pub legal_between : Bool → ℕ → ℕ → ℕ → Bool
legal_between legal m first last = legal && (leb first m && leb m last)

-- the same of a record's words: for partition i of a legal plan, its first and its last chronon stand for its home
-- (proved in proofs/Loops.antt: between-home)
unfoldable pub record_between : Records → ℕ → ℕ → List ℕ → Bool
record_between Tuples first last ws = legal_between (legal_tuple (tuple_of ws)) (to (tuple_of ws)) first last
record_between (Rows minimum) first last ws = legal_between (legal_row minimum (row_of ws)) (row_to (row_of ws)) first last

-- a record's words are legal and belong to partition i
abbrev pub record_at_home : Records → Partitioning → ℕ → List ℕ → Bool
record_at_home Tuples p i ws = tuple_at_home p i (tuple_of ws)
record_at_home (Rows minimum) p i ws = legal_row minimum (row_of ws) && eqb (home p (row_to (row_of ws))) i

-- a store of partitions of that room, each of which has room for that capacity
pub record PartsFit (kind : Records) (p : Partitioning) (capacity room : ℕ) (ws : List ℕ) : Type 0 where
  pub roomy : room_of (width_of kind) capacity ≤ room
  pub long : length ws ≡ p.count * room

-- each partition of a store is sound
unfoldable pub sound_parts : Records → Partitioning → ℕ → ℕ → List ℕ → Bool
sound_parts kind p capacity room ws =
    all (λ i. sound_part (width_of kind) capacity (record_at_home kind p i) (partition_at room ws i)) (below p.count)
