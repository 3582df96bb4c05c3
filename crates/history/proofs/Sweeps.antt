-- Sweep keeps the stores current: the tuple stores stay as they are, and the rows store is their join, written afresh.
-- Assumes nothing.
use mathlib.Core.Logic.{◌⊎◌, inl, inr}
use mathlib.Core.List.{List}
use mathlib.Core.Path.{◌≡◌, refl, ◌∙◌}
use Prim.Native.Nat.{ℕ}
use Rattle.lists.specs.Same.{Same}
use Rattle.interval.specs.Tuple.{same_row}
use Rattle.interval.specs.declared.tuple.Tuple.{Tuple}
use Rattle.plan.specs.declared.Partitioning.{Partitioning}
use Rattle.store.specs.Store.{stored_tuples}
use Rattle.rows.specs.Join.{join_of}
use Rattle.rows.proofs.Joins.{join-same}
use Rattle.sweep_count.specs.Pairs.{joined}
use Rattle.checks.specs.Stores.{Stores}
use Rattle.refusal.specs.Refusal.{answer_number}
use Rattle.checks.specs.Answer.{Answer}
use Rattle.join.specs.Sweeps.{Swept}
use Rattle.history.specs.Machine.{sweep, Machine}
use Rattle.history.proofs.Held.{TupleStore, rows-held-same}
use Rattle.history.proofs.Kept.{Kept, Done, told-accepted, done_refused}

-- the join of what two stores hold is the join of the lists
joined-held : (p : Partitioning) (outer inner : List ℕ) (ds ss : List Tuple) → TupleStore p outer ds
    → TupleStore p inner ss → Same same_row (joined p outer inner) (join_of p.minimum ds ss)
unfolding joined
joined-held p outer inner ds ss h k =
    join-same p.minimum (stored_tuples p outer) ds (stored_tuples p inner) ss h.held k.held

module _ (m : Machine) (p : Partitioning) (s s' : Stores) (c d c' d' : List ℕ) (a : Answer) (k : Kept m p s)
    (called : Swept p s c d s' c' d' a) where
  accepted-kept : answer_number a ≡ 0 → Kept m p s'
  accepted-kept z =
      let r = called.accepted z in
      record {
        in_force = k.in_force;
        places = k.places;
        legal = k.legal;
        outer = rw r.outer k.outer;
        inner = rw r.inner k.inner;
        rows =
            rows-held-same p s'.rows (joined p s.outer s.inner) (join_of p.minimum m.outer m.inner)
            (record { long = r.rows.long ∙ k.rows.long; sound = r.rows.sound; held = r.rows.held })
            (joined-held p s.outer s.inner m.outer m.inner k.outer k.inner);
      }

  pub sweep-done : (answer_number a ≡ 0) ⊎ (answer_number a ≡ 0 → ⊥) → Done m p s sweep (answer_number a) p s'
  sweep-done (inl z) = record {
    after = m;
    machine = told-accepted sweep (answer_number a) m z;
    kept = accepted-kept z;
    owed = tt;
  }
  sweep-done (inr ne) =
      done_refused m p p s s' sweep (answer_number a) ne k refl (called.refused ne).0.kept tt
