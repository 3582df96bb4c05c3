-- A store that holds exactly the members of a list, each as often: what that says, that it goes by the members alone,
-- and the empty store. Then both tuple stores and the rows store of their join, seen from one side.
-- Assumes nothing.
use mathlib.Core.Bool.{true}
use mathlib.Core.List.{List, [], ◌∷◌, ◌++◌}
use mathlib.Core.Path.{◌≡◌, ◌∙◌, ap}
use Prim.Native.Nat.{ℕ, ◌*◌}
use lib.Dec.{eqb}
use lib.ListN.{length, replicate, length-replicate}
use Rattle.lists.specs.Same.{Same, times}
use Rattle.lists.proofs.Same.{same_refl, same-comm, same-keep}
use Rattle.interval.specs.Tuple.{to, same_tuple, same_row}
use Rattle.interval.specs.declared.tuple.Tuple.{Tuple}
use Rattle.interval.specs.declared.tuple.Row.{Row}
use Rattle.interval.proofs.Tuples.{same-tuple-is}
use Rattle.plan.specs.Plan.{home}
use Rattle.plan.specs.declared.Partitioning.{Partitioning}
use Rattle.part.specs.Part.{rows_in}
use Rattle.part.proofs.Parts.{rows_empty}
use Rattle.store.specs.Store.{tuple_room, row_room, sound_tuples, sound_rows}
use Rattle.store.specs.Store.{stored_tuples, tuples_at, rows_at, TuplesHeld, RowsHeld}
use Rattle.store.proofs.Stores.{tuples-stored-at, empty-part, empty-tuples-sound, empty-rows-sound}
use Rattle.store.proofs.Stores.{empty-tuples-stored}
use Rattle.rows.specs.Join.{join_of, made_with}
use Rattle.rows.specs.declared.Side.{Side}
use Rattle.rows.specs.declared.Side.TheVariants.{Outer, Inner}
use Rattle.rows.proofs.Joins.{join-outer-more, join-inner-more, join-same, rows-at-same}

-- ---- one store

-- a tuple store of that plan, of its length and sound, that holds ts
pub record TupleStore (p : Partitioning) (ws : List ℕ) (ts : List Tuple) : Type 0 where
  pub long : length ws ≡ p.count * tuple_room p
  pub sound : sound_tuples p ws ≡ true
  pub held : Same same_tuple (stored_tuples p ws) ts

-- the rows store of that plan that holds rs
pub record RowStore (p : Partitioning) (ws : List ℕ) (rs : List Row) : Type 0 where
  pub long : length ws ≡ p.count * row_room p
  pub sound : sound_rows p ws ≡ true
  pub held : RowsHeld p ws rs

-- each partition of the tuple store has those of ts that belong to it
pub tuples-held-at : (p : Partitioning) (ws : List ℕ) (ts : List Tuple) → TupleStore p ws ts → TuplesHeld p ws ts
unfolding tuples_at
tuples-held-at p ws ts h i l =
    rw (← tuples-stored-at p ws h.sound i l)
    (same-keep same_tuple same-tuple-is (λ (t : Tuple). eqb (home p (to t)) i) (stored_tuples p ws) ts h.held)

-- any list with the same rows will do
pub rows-held-same : (p : Partitioning) (ws : List ℕ) (rs rs' : List Row) → RowStore p ws rs → Same same_row rs rs'
    → RowStore p ws rs'
rows-held-same p ws rs rs' h e = record {
  long = h.long;
  sound = h.sound;
  held = λ i l r. h.held i l r ∙ rows-at-same p i rs rs' e r;
}

-- stores of zeros, of the plan's lengths, hold nothing
pub tuples-held-none : (p : Partitioning) → TupleStore p (replicate (p.count * tuple_room p) 0) []
tuples-held-none p = record {
  long = length-replicate (p.count * tuple_room p) 0;
  sound = empty-tuples-sound p;
  held = λ t. ap (times same_tuple t) (empty-tuples-stored p);
}

pub rows-held-none : (p : Partitioning) → RowStore p (replicate (p.count * row_room p) 0) []
unfolding rows_at
rows-held-none p = record {
  long = length-replicate (p.count * row_room p) 0;
  sound = empty-rows-sound p;
  held = λ i l r.
      ap (times same_row r) (ap rows_in (empty-part (row_room p) p.count i l) ∙ rows_empty (row_room p));
}

-- ---- the join seen from one side: own tuples, and the other side's

abbrev pub join_from : ℕ → Side → List Tuple → List Tuple → List Row
join_from minimum Outer own other = join_of minimum own other
join_from minimum Inner own other = join_of minimum other own

-- with one own tuple more
pub join-from-more : (minimum : ℕ) (side : Side) (t : Tuple) (ts us : List Tuple)
    → Same same_row (join_from minimum side (t ∷ ts) us) (join_from minimum side ts us ++ made_with minimum side t us)
join-from-more minimum Outer t ts us =
    rw (join-outer-more minimum t ts us) (same-comm same_row (made_with minimum Outer t us) (join_of minimum ts us))
join-from-more minimum Inner t ts us =
    λ r.
    join-inner-more minimum t us ts r ∙ same-comm same_row (made_with minimum Inner t us) (join_of minimum us ts) r

-- of own tuples that are the same
pub join-from-same : (minimum : ℕ) (side : Side) (ts ts' us : List Tuple) → Same same_tuple ts ts'
    → Same same_row (join_from minimum side ts us) (join_from minimum side ts' us)
join-from-same minimum Outer ts ts' us e = join-same minimum ts ts' us us e (same_refl same_tuple us)
join-from-same minimum Inner ts ts' us e = join-same minimum us us ts ts' (same_refl same_tuple us) e

-- the side's own store holds ts, the other side's us, and the rows store their join
pub record Wall (p : Partitioning) (side : Side) (own other rows : List ℕ) (ts us : List Tuple) : Type 0 where
  pub mine : TupleStore p own ts
  pub theirs : TupleStore p other us
  pub made-rows : RowStore p rows (join_from p.minimum side ts us)
