-- Laws for the call `repartition`: what its checks say where none applies, what the moves of its stores then ask; a
-- call that is refused, and one that is done. What follows from its record is in proofs/Moves.antt.
-- Assumes nothing.
use mathlib.Core.Bool.{true, false, not}
use mathlib.Core.List.{List}
use mathlib.Core.Path.{◌≡◌, refl, sym, ◌∙◌}
use Prim.Native.Nat.{ℕ}
use lib.ListN.{length, take}
use borrow.Author.Tests.{not-false}
use Rattle.lists.specs.Choice.{refuse_if}
use Rattle.lists.proofs.Choice.{first-none, refuse-none}
use Rattle.interval.specs.declared.time.Chronon.{Chronon}
use Rattle.plan.specs.Plan.{most_partitions, cover, numbers, with_cuts}
use Rattle.plan.specs.declared.Partitioning.{Partitioning}
use Rattle.checks.specs.Stores.{Stores, store_number, Says, Counts}
use Rattle.checks.specs.Answer.{Answer}
use Rattle.checks.proofs.Checks.{ready}
use Rattle.repartitioning.specs.Moving.{tuples_overfull, rows_overfull, move_number, Moved, Recut, TuplesStand, RowsStand}
use Rattle.repartitioning.proofs.Recuts.{with-cuts-recut}
use Rattle.repartitioning.proofs.Numbers.{outer-stands, inner-stands, rows-stand, all_fit}
use Rattle.join.specs.Repartitioning.{repartition_number, Repartitioned}

module _ (p : Partitioning) (new : List Chronon) (s : Stores) where
  -- what its checks say where none applies
  pub record Passed : Type 0 where
    pub stores : store_number p s ≡ 0
    pub covers : cover (take p.count (numbers new)) ≡ true
    pub fits : move_number p (with_cuts p new) s ≡ 0

  pub passed : repartition_number p new s ≡ 0 → Passed
  unfolding repartition_number
  passed e =
      let covers = cover (take p.count (numbers new)) in
      let a = first-none (store_number p s) _ e in
      let b = first-none (refuse_if (not covers) 2) _ a.1 in
      let c = first-none (move_number p (with_cuts p new) s) _ b.1 in
      record {
        stores = a.0;
        covers = not-false covers (refuse-none (not covers) 1 b.0);
        fits = c.0;
      }

-- what the moves of its three stores ask, under the plan q with the new cuts
pub record ToMove (p q : Partitioning) (s : Stores) : Type 0 where
  pub recut : Recut p q
  pub outer : TuplesStand p s.outer × (tuples_overfull p q s.outer ≡ false)
  pub inner : TuplesStand p s.inner × (tuples_overfull p q s.inner ≡ false)
  pub rows : RowsStand p s.rows × (rows_overfull p q s.rows ≡ false)

module _ (p q : Partitioning) (new : List Chronon) (s : Stores) (long : length new ≡ most_partitions)
    (places : length p.lasts ≡ most_partitions) (is : q ≡ with_cuts p new) where
  -- past the checks of the old plan and of the new cuts q is legal
  pub recut-by : store_number p s ≡ 0 → cover (take p.count (numbers new)) ≡ true → Recut p q
  recut-by e c = rw is (with-cuts-recut p new long places (ready p s e).fits.legal c)

  pub to-move : repartition_number p new s ≡ 0 → ToMove p q s
  to-move e =
      let c = passed p new s e in
      let fit = all_fit p q s (rw is c.fits) in
      record {
        recut = recut-by c.stores c.covers;
        outer = (outer-stands p s c.stores, fit.0);
        inner = (inner-stands p s c.stores, fit.1);
        rows = (rows-stand p s c.stores, fit.2);
      }

module _ (p : Partitioning) (new : List Chronon) (s : Stores) (a : Answer) where
  pub repartition-refused : (n : ℕ) → Says a n → n ≡ repartition_number p new s → (n ≡ 0 → ⊥)
      → Repartitioned p new s s a p
  repartition-refused n h e ne = record {
    number = h.0 ∙ e;
    changed = h.1.0;
    examined = h.1.1;
    refused = λ z. (refl, refl);
    accepted = λ z. absurd (ne (sym h.0 ∙ z));
  }

  pub repartition-done : (s' : Stores) (p' : Partitioning) → Counts a 0 0 → repartition_number p new s ≡ 0
      → p' ≡ with_cuts p new → Moved p p' s s' → Repartitioned p new s s' a p'
  repartition-done s' p' h z q moved = record {
    number = h.0 ∙ sym z;
    changed = h.1.0;
    examined = h.1.1;
    refused = λ ne. absurd (ne h.0);
    accepted = λ k. (q, rw q at moved);
  }
