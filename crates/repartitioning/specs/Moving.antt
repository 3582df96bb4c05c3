-- Stores moved to the partitions of new cuts (document 02, (e)): checks 9 and 10, and what one store, and all
-- three, hold after. The laws are in proofs/; the call is in crate join.
use Rattle.std.specs.Prelude.{Bool, true, ◌||◌, List, [], ◌∷◌, ◌≡◌, ℕ, ltb, length}
use Rattle.lists.specs.Choice.{refuse_if, first_of}
use Rattle.lists.specs.Members.{any, below}
use Rattle.lists.specs.Same.{Same}
use Rattle.interval.specs.Tuple.{same_tuple, same_row}
use Rattle.plan.specs.Plan.{plan_number}
use Rattle.plan.specs.declared.Partitioning.{Partitioning}
use Rattle.store.specs.Store.{fits_tuples, fits_rows, sound_tuples, sound_rows, stored_tuples, stored_rows}
use Rattle.store.specs.Store.{tuples_at, rows_at}
use Rattle.checks.specs.Stores.{Stores}

-- 9: "if a tuple lane would pass its capacity": a partition of the new plan q gets more of a store's tuples, which
-- stand by the old plan p, than it can hold
unfoldable pub tuples_overfull : Partitioning → Partitioning → List ℕ → Bool
tuples_overfull p q ws = any (λ i. ltb q.tuples (length (tuples_at q i (stored_tuples p ws)))) (below q.count)

-- "then with 10 for a rows lane"
unfoldable pub rows_overfull : Partitioning → Partitioning → List ℕ → Bool
rows_overfull p q ws = any (λ i. ltb q.rows (length (rows_at q i (stored_rows p ws)))) (below q.count)

-- checks 9, over both tuple stores, and 10
unfoldable pub move_number : Partitioning → Partitioning → Stores → ℕ
move_number p q s =
    first_of
    (refuse_if (tuples_overfull p q s.outer || tuples_overfull p q s.inner) 9
    ∷ (refuse_if (rows_overfull p q s.rows) 10 ∷ []))

-- "tuples and rows move to the lanes that the new last minutes give, within the three stores. The order of tuples in a
-- lane after it is free"; "Rows may stand in any order in a lane; the words after them are 0". One store, by the plan p
-- before and by q after: it holds what it held, each as often, and is sound by q, so each record stands in its lane
pub record TuplesMoved (p q : Partitioning) (ws ws' : List ℕ) : Type 0 where
  pub long : length ws' ≡ length ws
  pub sound : sound_tuples q ws' ≡ true
  pub held : Same same_tuple (stored_tuples q ws') (stored_tuples p ws)

pub record RowsMoved (p q : Partitioning) (ws ws' : List ℕ) : Type 0 where
  pub long : length ws' ≡ length ws
  pub sound : sound_rows q ws' ≡ true
  pub held : Same same_row (stored_rows q ws') (stored_rows p ws)

pub record Moved (p q : Partitioning) (s s' : Stores) : Type 0 where
  pub outer : TuplesMoved p q s.outer s'.outer
  pub inner : TuplesMoved p q s.inner s'.inner
  pub rows : RowsMoved p q s.rows s'.rows

-- ---- what the functions ask

-- "Recut replaces the plan's last minutes, n and capacities kept"; "A recut keeps the minimum.": q is p with other
-- cuts, and both are legal
pub record Recut (p q : Partitioning) : Type 0 where
  pub old : plan_number p ≡ 0
  pub new : plan_number q ≡ 0
  pub count : q.count ≡ p.count
  pub tuples : q.tuples ≡ p.tuples
  pub rows : q.rows ≡ p.rows
  pub minimum : q.minimum ≡ p.minimum

-- a tuple store, the rows store past checks 4 and 5 by the plan p
pub record TuplesStand (p : Partitioning) (ws : List ℕ) : Type 0 where
  pub fits : fits_tuples p (length ws) ≡ true
  pub sound : sound_tuples p ws ≡ true

pub record RowsStand (p : Partitioning) (ws : List ℕ) : Type 0 where
  pub fits : fits_rows p (length ws) ≡ true
  pub sound : sound_rows p ws ≡ true
