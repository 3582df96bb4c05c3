-- Repartition (document 01: recut; document 02, (e)): what it answers, returns and leaves, in terms of the words it was
-- lent; and what follows from that.
use Rattle.std.specs.Prelude.{not, List, [], ◌∷◌, ◌≡◌, ℕ, ◌<◌, take}
use Rattle.lists.specs.Choice.{refuse_if, first_of}
use Rattle.lists.specs.Same.{Same}
use Rattle.interval.specs.Tuple.{same_tuple, same_row}
use Rattle.interval.specs.declared.time.Chronon.{Chronon}
use Rattle.plan.specs.Plan.{cover, numbers, with_cuts}
use Rattle.plan.specs.declared.Partitioning.{Partitioning}
use Rattle.part.specs.Part.{tuples_in, rows_in}
use Rattle.store.specs.Store.{tuple_part, row_part, stored_tuples, stored_rows, tuples_at, rows_at}
use Rattle.checks.specs.Stores.{Stores, store_number}
use Rattle.refusal.specs.Refusal.{answer_number}
use Rattle.checks.specs.Answer.{Answer, changed_of, examined_of}
use Rattle.repartitioning.specs.Moving.{move_number, Moved}

-- 2: "also a recut's new ones, after 5"; then 9 and 10 of the stores by the plan with the new cuts; "13 is never given
-- any more"
unfoldable pub repartition_number : Partitioning → List Chronon → Stores → ℕ
repartition_number p new s =
    first_of
    (store_number p s
    ∷ (refuse_if (not (cover (take p.count (numbers new)))) 2 ∷ (move_number p (with_cuts p new) s ∷ [])))

-- "It returns the new plan, on a refusal the old one."; "A recut of a wall that holds tuples is now carried out"; both
-- counts are 0, "0 where none is named"
pub record Repartitioned (p : Partitioning) (new : List Chronon) (s s' : Stores) (a : Answer) (p' : Partitioning)
    : Type 0 where
  pub number : answer_number a ≡ repartition_number p new s
  pub changed : changed_of a ≡ 0
  pub examined : examined_of a ≡ 0
  pub refused : (answer_number a ≡ 0 → ⊥) → (s' ≡ s) × (p' ≡ p)
  pub accepted : answer_number a ≡ 0 → (p' ≡ with_cuts p new) × Moved p (with_cuts p new) s s'

-- ---- what follows from these (proved in proofs/Repartitioning.antt)

-- "13 is never given any more"
abbrev pub NeverThirteen : Type 0
NeverThirteen = (p : Partitioning) (new : List Chronon) (s : Stores) → repartition_number p new s ≡ 13 → ⊥

-- lane by lane: partition i of each store has exactly those records that belong to it by the new plan
pub record MovedAt (p q : Partitioning) (s s' : Stores) (i : ℕ) : Type 0 where
  pub outer : Same same_tuple (tuples_in (tuple_part q s'.outer i)) (tuples_at q i (stored_tuples p s.outer))
  pub inner : Same same_tuple (tuples_in (tuple_part q s'.inner i)) (tuples_at q i (stored_tuples p s.inner))
  pub rows : Same same_row (rows_in (row_part q s'.rows i)) (rows_at q i (stored_rows p s.rows))

abbrev pub LanesAfter : Type 0
LanesAfter = (p q : Partitioning) (s s' : Stores) → Moved p q s s' → (i : ℕ) → i < q.count → MovedAt p q s s' i

-- a repartition of a wall that holds nothing changes no word
abbrev pub EmptyKept : Type 0
EmptyKept =
    (p p' : Partitioning) (new : List Chronon) (s s' : Stores) (a : Answer) → Repartitioned p new s s' a p'
    → store_number p s ≡ 0 → stored_tuples p s.outer ≡ [] → stored_tuples p s.inner ≡ []
    → stored_rows p s.rows ≡ [] → s' ≡ s

-- "A recut keeps the minimum." (document 02, (f))
abbrev pub MinimumKept : Type 0
MinimumKept =
    (p p' : Partitioning) (new : List Chronon) (s s' : Stores) (a : Answer) → Repartitioned p new s s' a p'
    → p'.minimum ≡ p.minimum
