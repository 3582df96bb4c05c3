-- Checks 9 and 10 of the three stores: what checks 1 to 5 say of each store, and the first check that applies.
-- Assumes nothing.
use mathlib.Core.Bool.{true, false, ◌||◌}
use mathlib.Core.Path.{◌≡◌}
use Rattle.lists.specs.Choice.{first_of}
use Rattle.lists.proofs.Choice.{or-neither-left, or-neither-right, first-none, refuse-none}
use Rattle.plan.specs.declared.Partitioning.{Partitioning}
use Rattle.checks.specs.Stores.{Stores, store_number}
use Rattle.checks.proofs.Checks.{ready}
use Rattle.repartitioning.specs.Moving.{tuples_overfull, rows_overfull, move_number, TuplesStand, RowsStand}

module _ (p : Partitioning) (s : Stores) (passed : store_number p s ≡ 0) where
  pub outer-stands : TuplesStand p s.outer
  outer-stands = record { fits = (ready p s passed).fits.outer; sound = (ready p s passed).outer }

  pub inner-stands : TuplesStand p s.inner
  inner-stands = record { fits = (ready p s passed).fits.inner; sound = (ready p s passed).inner }

  pub rows-stand : RowsStand p s.rows
  rows-stand = record { fits = (ready p s passed).fits.rows; sound = (ready p s passed).rows }

module _ (p q : Partitioning) (s : Stores) where
  -- 9 where the outer or the inner tuples do not fit
  pub tuples-met : (tuples_overfull p q s.outer || tuples_overfull p q s.inner) ≡ true → 9 ≡ move_number p q s
  unfolding move_number first_of
  tuples-met e = rw e

  -- 10 where they do and the rows do not
  pub rows-met : (tuples_overfull p q s.outer || tuples_overfull p q s.inner) ≡ false
      → rows_overfull p q s.rows ≡ true → 10 ≡ move_number p q s
  unfolding move_number first_of
  rows-met e h = rw (e, h)

  -- 0 where all fit, and back
  pub none-met : (tuples_overfull p q s.outer || tuples_overfull p q s.inner) ≡ false
      → rows_overfull p q s.rows ≡ false → 0 ≡ move_number p q s
  unfolding move_number first_of
  none-met e h = rw (e, h)

  pub all_fit : move_number p q s ≡ 0
      → (tuples_overfull p q s.outer ≡ false) × (tuples_overfull p q s.inner ≡ false)
      × (rows_overfull p q s.rows ≡ false)
  unfolding move_number
  all_fit e =
      let outer = tuples_overfull p q s.outer in
      let inner = tuples_overfull p q s.inner in
      let a = first-none _ _ e in
      let b = first-none _ _ a.1 in
      let none = refuse-none (outer || inner) 8 a.0 in (
        or-neither-left outer inner none,
        or-neither-right outer inner none,
        refuse-none (rows_overfull p q s.rows) 9 b.0,
      )
