-- Repartition keeps the stores current: each store holds after it what it held, each record in the partition of the new
-- plan that it belongs to; and the new plan is legal and has 64 places.
-- In order: the rows that a current wall stores are the join's; stores moved to the partitions of new cuts; the call.
-- Assumes nothing.
use mathlib.Core.Bool.{true}
use mathlib.Core.List.{List, [], ◌∷◌}
use mathlib.Core.Logic.{◌⊎◌, inl, inr}
use mathlib.Core.Option.{Option, none, some}
use mathlib.Core.Path.{◌≡◌, sym, ◌∙◌, ap}
use Prim.Native.Nat.{ℕ}
use native.Mathlib.Omega.{arith}
use lib.Dec.{ltb, eqb}
use lib.ListN.{length}
use borrow.Author.Tests.{lt-ltb}
use Rattle.lists.specs.Members.{all, keep, tally, below}
use Rattle.lists.specs.Same.{Same}
use Rattle.lists.proofs.Choice.{and_left, and_right, and_both}
use Rattle.lists.proofs.Members.{all_append, all-imply}
use Rattle.lists.proofs.Gather.{tally-gather}
use Rattle.lists.proofs.Below.{total-cong-below}
use Rattle.lists.proofs.Same.{all_same, same-split, same-trans}
use Rattle.interval.specs.Tuple.{legal_tuple, same_tuple, row_to, legal_row, same_row}
use Rattle.interval.specs.declared.time.Chronon.{Chronon}
use Rattle.interval.specs.declared.tuple.Tuple.{Tuple}
use Rattle.interval.specs.declared.tuple.Row.{Row}
use Rattle.interval.proofs.Tuples.{same-tuple-is, legal-row, valid-ok}
use Rattle.plan.specs.Plan.{most_partitions, cuts_of, plan_number, home, with_cuts}
use Rattle.plan.specs.declared.Partitioning.{Partitioning}
use Rattle.plan.proofs.Homes.{legal-plan, length-cuts, home-within}
use Rattle.part.specs.Part.{rows_in}
use Rattle.store.specs.Store.{row_part, stored_tuples, stored_rows, rows_at, RowsHeld}
use Rattle.store.proofs.Stores.{stored-legal}
use Rattle.rows.specs.Join.{join_of, made_with}
use Rattle.rows.specs.declared.Side.TheVariants.{Outer}
use Rattle.rows.proofs.Joins.{made-legal, join-outer-more, join-empty-left, rows-at-same}
use Rattle.checks.specs.Stores.{Stores}
use Rattle.refusal.specs.Refusal.{answer_number}
use Rattle.checks.specs.Answer.{Answer}
use Rattle.repartitioning.specs.Moving.{Moved, TuplesMoved}
use Rattle.repartitioning.proofs.Recuts.{with-cuts-places, with-cuts-legal}
use Rattle.join.specs.Repartitioning.{Repartitioned}
use Rattle.join.proofs.Repartitioning.{passed}
use Rattle.join.proofs.Moves.{lanes-after}
use Rattle.history.specs.Machine.{repartition, Machine}
use Rattle.history.proofs.Held.{TupleStore, RowStore}
use Rattle.history.proofs.Kept.{Kept, Done, told-accepted, done_refused}

-- ---- the rows that a current wall stores are the join's

-- the rows of legal tuples are legal
join-legal : (minimum : ℕ) (ts us : List Tuple) → all legal_tuple ts ≡ true → all legal_tuple us ≡ true
    → all (legal_row minimum) (join_of minimum ts us) ≡ true
join-legal minimum [] us h g = rw (join-empty-left minimum us)
join-legal minimum (t ∷ ts) us h g =
    ap (all (legal_row minimum)) (join-outer-more minimum t ts us)
    ∙ all_append (legal_row minimum) (made_with minimum Outer t us) (join_of minimum ts us)
    ∙ and_both _ _ (made-legal minimum Outer t us (and_left (legal_tuple t) (all legal_tuple ts) h) g)
    (join-legal minimum ts us (and_right (legal_tuple t) (all legal_tuple ts) h) g)

-- the tuples that a store holds are legal
held-legal : (p : Partitioning) (ws : List ℕ) (ts : List Tuple) → TupleStore p ws ts → all legal_tuple ts ≡ true
held-legal p ws ts h =
    sym (all_same same_tuple same-tuple-is legal_tuple (stored_tuples p ws) ts h.held) ∙ stored-legal p ws h.sound

-- each legal row has a home
rows-homed : (p : Partitioning) → plan_number p ≡ 0 → length p.lasts ≡ most_partitions → (rs : List Row)
    → all (legal_row p.minimum) rs ≡ true → all (λ r. ltb (home p (row_to r)) p.count) rs ≡ true
unfolding home
rows-homed p legal places rs h =
    all-imply (legal_row p.minimum) _ rs
    (λ r e. lt-ltb (home p (row_to r)) p.count
    (omega (
      arith,
      home-within (cuts_of p) (legal-plan p legal).covered (row_to r)
          (valid-ok r.valid (legal-row p.minimum r e).valid).1,
      length-cuts p places (legal-plan p legal).most,
    )))
    h

-- a rows store that holds rows which have a home each holds them, lane by lane and all together
rows-stored-same : (p : Partitioning) (ws : List ℕ) (rs : List Row) → RowsHeld p ws rs
    → all (λ r. ltb (home p (row_to r)) p.count) rs ≡ true → Same same_row (stored_rows p ws) rs
unfolding stored_rows rows_at
rows-stored-same p ws rs held homes x =
    tally-gather (same_row x) (λ i. rows_in (row_part p ws i)) (below p.count)
    ∙ total-cong-below _ (λ i. tally (same_row x) (keep (λ (r : Row). eqb (home p (row_to r)) i) rs)) p.count
    (λ i l. held i l x)
    ∙ sym (tally-gather (same_row x) (λ i. keep (λ (r : Row). eqb (home p (row_to r)) i) rs) (below p.count))
    ∙ same-split same_row (λ r. home p (row_to r)) p.count rs homes x

-- of a wall that is kept: all the rows that are stored are those of the join, each as often
module _ (m : Machine) (p : Partitioning) (s : Stores) (k : Kept m p s) where
  abbrev joined : List Row
  joined = join_of p.minimum m.outer m.inner

  joined-homed : all (λ r. ltb (home p (row_to r)) p.count) joined ≡ true
  joined-homed =
      rows-homed p k.legal k.places joined
      (join-legal p.minimum m.outer m.inner (held-legal p s.outer m.outer k.outer)
      (held-legal p s.inner m.inner k.inner))

  pub stored-join : Same same_row (stored_rows p s.rows) joined
  stored-join = rows-stored-same p s.rows joined k.rows.held joined-homed

-- ---- stores moved to the partitions of new cuts

tuples-with-cuts : (p : Partitioning) (new : List Chronon) (ws ws' : List ℕ) (ts : List Tuple) → TupleStore p ws ts
    → TuplesMoved p (with_cuts p new) ws ws' → TupleStore (with_cuts p new) ws' ts
unfolding with_cuts
tuples-with-cuts p new ws ws' ts h m = record {
  long = m.long ∙ h.long;
  sound = m.sound;
  held = same-trans same_tuple (stored_tuples (with_cuts p new) ws') (stored_tuples p ws) ts m.held h.held;
}

rows-with-cuts : (p : Partitioning) (new : List Chronon) (s s' : Stores) (rs : List Row) → RowStore p s.rows rs
    → all (λ r. ltb (home p (row_to r)) p.count) rs ≡ true → Moved p (with_cuts p new) s s'
    → RowStore (with_cuts p new) s'.rows rs
unfolding with_cuts
rows-with-cuts p new s s' rs h homes m = record {
  long = m.rows.long ∙ h.long;
  sound = m.rows.sound;
  held = λ i l r.
      (lanes-after p (with_cuts p new) s s' m i l).rows r
      ∙ rows-at-same (with_cuts p new) i (stored_rows p s.rows) rs
      (rows-stored-same p s.rows rs h.held homes) r;
}

-- ---- the call

module _ (m : Machine) (p p' : Partitioning) (new : List Chronon) (s s' : Stores) (a : Answer) (k : Kept m p s)
    (long : length new ≡ most_partitions) (called : Repartitioned p new s s' a p') where
  abbrev with-cuts : Machine
  with-cuts = record { plan = with_cuts m.plan new; outer = m.outer; inner = m.inner }

  kept-with-cuts : answer_number a ≡ 0 → Kept with-cuts (with_cuts p new) s'
  unfolding with_cuts
  kept-with-cuts z =
      let checked = passed p new s (sym called.number ∙ z) in
      let moved = (called.accepted z).1 in
      record {
        in_force = ap (λ (q : Partitioning). with_cuts q new) k.in_force;
        places = with-cuts-places p new long k.places k.legal;
        legal = with-cuts-legal p new long k.places k.legal checked.covers;
        outer = tuples-with-cuts p new s.outer s'.outer m.outer k.outer moved.outer;
        inner = tuples-with-cuts p new s.inner s'.inner m.inner k.inner moved.inner;
        rows =
            rows-with-cuts p new s s' (joined m p s k) k.rows (joined-homed m p s k) moved;
      }

  accepted-kept : answer_number a ≡ 0 → Kept with-cuts p' s'
  accepted-kept z = rw (called.accepted z).0 (kept-with-cuts z)

  -- the plan of a machine that is there
  plan-of : (q : Partitioning) (n : Machine) → q ≡ n.plan → (o : Machine) → some n ≡ some o → q ≡ o.plan
  plan-of q n e o h = e ∙ ap plan-or h
    where
      plan-or : Option Machine → Partitioning
      plan-or (some x) = x.plan
      plan-or none = q

  pub repartition-done : (answer_number a ≡ 0) ⊎ (answer_number a ≡ 0 → ⊥) → Done m p s (repartition new) (answer_number a) p' s'
  repartition-done (inl z) = record {
    after = with-cuts;
    machine = told-accepted (repartition new) (answer_number a) m z;
    kept = accepted-kept z;
    owed = plan-of p' with-cuts (accepted-kept z).in_force;
  }
  repartition-done (inr ne) =
      let (stores, plan) = called.refused ne in
      done_refused m p p' s s' (repartition new) (answer_number a) ne k plan stores (plan-of p' m (plan ∙ k.in_force))
