-- What every call keeps: the stores hold what the machine holds, by the plan in force, which is legal and has 64
-- places.
-- In order: that it gives `Current`; the same seen from one side; what is to be shown of a call; a refused call.
-- Assumes nothing.
use mathlib.Core.List.{List}
use mathlib.Core.Option.{some}
use mathlib.Core.Path.{◌≡◌}
use Prim.Native.Nat.{ℕ}
use lib.Dec.{eqb}
use lib.ListN.{length}
use borrow.Author.Tests.{eq-eqb, ne_eqb}
use Rattle.lists.proofs.Choice.{pick_true, pick-false}
use Rattle.interval.specs.declared.tuple.Tuple.{Tuple}
use Rattle.plan.specs.Plan.{most_partitions, plan_number}
use Rattle.plan.specs.declared.Partitioning.{Partitioning}
use Rattle.store.specs.Store.{fits_tuples, fits_rows, sound_tuples, sound_rows}
use Rattle.store.proofs.StoreLoops.{given-tuples, given-rows}
use Rattle.rows.specs.Join.{join_of}
use Rattle.rows.specs.declared.Side.{Side}
use Rattle.rows.specs.declared.Side.TheVariants.{Outer, Inner}
use Rattle.checks.specs.Stores.{Stores, fits_all, sound}
use Rattle.checks.proofs.Checks.{all_hold}
use Rattle.join.specs.Changes.{own_store, other_store}
use Rattle.history.specs.Machine.{Call, Machine, own_tuples, accept, told}
use Rattle.history.specs.KeptCurrent.{Current, Owed}
use Rattle.history.proofs.Held.{TupleStore, RowStore, Wall, tuples-held-at}

pub record Kept (m : Machine) (p : Partitioning) (s : Stores) : Type 0 where
  pub in_force : p ≡ m.plan
  pub places : length p.lasts ≡ most_partitions
  pub legal : plan_number p ≡ 0
  pub outer : TupleStore p s.outer m.outer
  pub inner : TupleStore p s.inner m.inner
  pub rows : RowStore p s.rows (join_of p.minimum m.outer m.inner)

-- ---- it says what the demand does

pub kept-current-now : (m : Machine) (p : Partitioning) (s : Stores) → Kept m p s → Current m p s
unfolding fits_all sound
kept-current-now m p s k = record {
  in_force = k.in_force;
  long =
      all_hold (fits_tuples p (length s.outer)) (fits_tuples p (length s.inner)) (fits_rows p (length s.rows))
      (given-tuples p (length s.outer) (k.legal, k.outer.long))
      (given-tuples p (length s.inner) (k.legal, k.inner.long))
      (given-rows p (length s.rows) (k.legal, k.rows.long));
  all_sound =
      all_hold (sound_tuples p s.outer) (sound_tuples p s.inner) (sound_rows p s.rows) k.outer.sound
      k.inner.sound k.rows.sound;
  outer = tuples-held-at p s.outer m.outer k.outer;
  inner = tuples-held-at p s.inner m.inner k.inner;
  rows = k.rows.held;
}

-- ---- seen from one side

-- the machine's tuples of the other side
abbrev pub other_tuples : Side → Machine → List Tuple
other_tuples Outer m = m.inner
other_tuples Inner m = m.outer

-- the machine with other tuples on the side
abbrev pub with_own : Side → List Tuple → Machine → Machine
with_own Outer ts m = record { plan = m.plan; outer = ts; inner = m.inner }
with_own Inner ts m = record { plan = m.plan; outer = m.outer; inner = ts }

pub kept_from : (side : Side) (m : Machine) (p : Partitioning) (s : Stores) → Kept m p s
    → Wall p side (own_store side s) (other_store side s) s.rows (own_tuples side m) (other_tuples side m)
kept_from Outer m p s k = record { mine = k.outer; theirs = k.inner; made-rows = k.rows }
kept_from Inner m p s k = record { mine = k.inner; theirs = k.outer; made-rows = k.rows }

pub kept-with : (side : Side) (ts : List Tuple) (m : Machine) (p : Partitioning) (s s' : Stores) → Kept m p s
    → Wall p side (own_store side s') (other_store side s') s'.rows ts (other_tuples side m)
    → Kept (with_own side ts m) p s'
kept-with Outer ts m p s s' k w = record {
  in_force = k.in_force;
  places = k.places;
  legal = k.legal;
  outer = w.mine;
  inner = w.theirs;
  rows = w.made-rows;
}
kept-with Inner ts m p s s' k w = record {
  in_force = k.in_force;
  places = k.places;
  legal = k.legal;
  outer = w.theirs;
  inner = w.mine;
  rows = w.made-rows;
}

-- ---- one call

-- the machine after the call, that the stores hold what it holds, and what is owed of the call
pub record Done (m : Machine) (p : Partitioning) (s : Stores) (c : Call) (n : ℕ) (p' : Partitioning) (s' : Stores)
    : Type 0 where
  pub after : Machine
  pub machine : told (record { call = c; number = n }) m ≡ some after
  pub kept : Kept after p' s'
  pub owed : Owed p s c n p' s' (some after)

-- what the machine makes of an accepted call, and of a refused one
pub told-accepted : (c : Call) (n : ℕ) (m : Machine) → n ≡ 0 → told (record { call = c; number = n }) m ≡ accept c m
told-accepted c n m e = pick_true (eqb n 0) (accept c m) _ (eq-eqb n 0 e)

pub told-refused : (c : Call) (n : ℕ) (m : Machine) → (n ≡ 0 → ⊥) → told (record { call = c; number = n }) m ≡ some m
told-refused c n m ne = pick-false (eqb n 0) (accept c m) (some m) (ne_eqb n 0 ne)

-- a refused call changes neither plan nor stores
pub done_refused : (m : Machine) (p p' : Partitioning) (s s' : Stores) (c : Call) (n : ℕ) → (n ≡ 0 → ⊥) → Kept m p s
    → p' ≡ p → s' ≡ s → Owed p s c n p' s' (some m) → Done m p s c n p' s'
done_refused m p p' s s' c n ne k e f o = record {
  after = m;
  machine = told-refused c n m ne;
  kept = rw (e, f) k;
  owed = o;
}
