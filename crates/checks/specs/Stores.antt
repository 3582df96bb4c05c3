-- The three stores, checks 4 and 5 of each by itself, the checks of plan, stores and tuple in the table's order, and
-- what an answer says.
use Rattle.std.specs.Prelude.{Bool, true, not, ◌&&◌, List, [], ◌∷◌, ◌≡◌, ℕ, ◌*◌, length}
use Rattle.lists.specs.Choice.{refuse_if, first_of}
use Rattle.interval.specs.Tuple.{tuple_number}
use Rattle.interval.specs.declared.tuple.Tuple.{Tuple}
use Rattle.plan.specs.Plan.{plan_number}
use Rattle.plan.specs.declared.Partitioning.{Partitioning}
use Rattle.store.specs.Store.{row_room, fits_tuples, fits_rows, sound_tuples, sound_rows}
use Rattle.refusal.specs.Refusal.{answer_number}
use Rattle.checks.specs.Answer.{Answer, changed_of, examined_of}

-- "Store 1 holds drawings, store 2 spots, store 3 rows": the words of the three
pub record Stores : Type 0 where
  pub outer : List ℕ
  pub inner : List ℕ
  pub rows : List ℕ

abbrev pub stores : List ℕ → List ℕ → List ℕ → Stores
stores outer inner rows = record { outer = outer; inner = inner; rows = rows }

-- the lengths are what the plan gives
unfoldable pub fits_all : Partitioning → ℕ → ℕ → ℕ → Bool
fits_all p outer inner rows = fits_tuples p outer && (fits_tuples p inner && fits_rows p rows)

abbrev pub fits : Partitioning → Stores → Bool
fits p s = fits_all p (length s.outer) (length s.inner) (length s.rows)

-- each store is sound
unfoldable pub sound : Partitioning → Stores → Bool
sound p s = sound_tuples p s.outer && (sound_tuples p s.inner && sound_rows p s.rows)

-- check 4 of one store, by its length: it is not what the plan gives
unfoldable pub tuples_length : Partitioning → ℕ → ℕ
tuples_length p n = refuse_if (not (fits_tuples p n)) 4

unfoldable pub rows_length : Partitioning → ℕ → ℕ
rows_length p n = refuse_if (not (fits_rows p n)) 4

-- check 5 of one store: it is not sound
unfoldable pub tuples_unsound : Partitioning → List ℕ → ℕ
tuples_unsound p ws = refuse_if (not (sound_tuples p ws)) 5

unfoldable pub rows_unsound : Partitioning → List ℕ → ℕ
rows_unsound p ws = refuse_if (not (sound_rows p ws)) 5

-- checks 1 to 4, 1 to 5, and those of a change's plan, stores and tuple, in the table's order (what they say of fits_all
-- and of sound: proved in proofs/Checks.antt: lengths-are, stores-are)
unfoldable pub lengths_number : Partitioning → ℕ → ℕ → ℕ → ℕ
lengths_number p outer inner rows =
    first_of (plan_number p ∷ (tuples_length p outer ∷ (tuples_length p inner ∷ (rows_length p rows ∷ []))))

abbrev pub open_number : Partitioning → Stores → ℕ
open_number p s = lengths_number p (length s.outer) (length s.inner) (length s.rows)

unfoldable pub store_number : Partitioning → Stores → ℕ
store_number p s =
    first_of
    (open_number p s
    ∷ (tuples_unsound p s.outer ∷ (tuples_unsound p s.inner ∷ (rows_unsound p s.rows ∷ []))))

unfoldable pub given_number : Partitioning → Tuple → Stores → ℕ
given_number p t s = first_of (store_number p s ∷ (tuple_number t ∷ []))

-- checks 1 to 4 and check 5 of a call that is lent stores 1 and 2 alone, and both (document 02, (b): "the stores under
-- 1 to 5"; (h): "The call takes the plan and stores 1 and 2"); what they leave known is `Sides`
unfoldable pub sides_lengths : Partitioning → ℕ → ℕ → ℕ
sides_lengths p outer inner = first_of (plan_number p ∷ (tuples_length p outer ∷ (tuples_length p inner ∷ [])))

unfoldable pub sides_unsound : Partitioning → List ℕ → List ℕ → ℕ
sides_unsound p outer inner = first_of (tuples_unsound p outer ∷ (tuples_unsound p inner ∷ []))

unfoldable pub sides_number : Partitioning → List ℕ → List ℕ → ℕ
sides_number p outer inner =
    first_of (sides_lengths p (length outer) (length inner) ∷ (sides_unsound p outer inner ∷ []))

-- checks 1 to 5 of a call that is lent store 3 alone (document 02, (g): "Refusals are 1 to 5, with only store 3 looked
-- at"; the report of the rows has them too), and what they leave known
unfoldable pub rows_number : Partitioning → List ℕ → ℕ
rows_number p rows = first_of (plan_number p ∷ (rows_length p (length rows) ∷ (rows_unsound p rows ∷ [])))

pub record SoundStore (p : Partitioning) (rows : List ℕ) : Type 0 where
  pub legal : plan_number p ≡ 0
  pub long : length rows ≡ p.count * row_room p
  pub sound : sound_rows p rows ≡ true

-- an answer of that number, with "both 0": the two counts
abbrev pub Says : Answer → ℕ → Type 0
Says a n = (answer_number a ≡ n) × ((changed_of a ≡ 0) × (examined_of a ≡ 0))

-- an accepted answer with these counts
abbrev pub Counts : Answer → ℕ → ℕ → Type 0
Counts a changed examined = (answer_number a ≡ 0) × ((changed_of a ≡ changed) × (examined_of a ≡ examined))
