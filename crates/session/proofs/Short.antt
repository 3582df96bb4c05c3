-- A lent store that is shorter than the plan needs: under a complete plan every change gets 4. Only a direct caller can
-- meet it. (A wrong plan's own number comes first, as in document 01's table; a session from `fresh` has none.)
-- Assumes nothing.
use mathlib.Core.Bool.{Bool, true, false, ◌&&◌, and-false}
use mathlib.Core.List.{List}
use mathlib.Core.Logic.{◌⊎◌, inl, inr}
use mathlib.Core.Path.{◌≡◌, ◌∙◌, ap}
use Prim.Native.Nat.{ℕ, ◌*◌, ◌<◌}
use native.Mathlib.Omega.{arith}
use lib.ListN.{length, take, length-take}
use borrow.Author.Tests.{ne_eqb}
use Rattle.lists.specs.Choice.{first_of}
use Rattle.interval.specs.declared.tuple.Tuple.{Tuple}
use Rattle.plan.specs.Plan.{legal_plan}
use Rattle.store.specs.Store.{tuple_room, row_room, fits_tuples, fits_rows}
use Rattle.checks.specs.Stores.{Stores, fits_all, open_number, store_number}
use Rattle.checks.proofs.Checks.{lengths-are}
use Rattle.join.specs.Changes.{insert_number, delete_number}
use Rattle.lines.specs.declared.Word.{Word}
use Rattle.lines.specs.declared.Word.TheVariants.{DrawIn, DrawOut, SpotIn, SpotOut}
use Rattle.session_plan.specs.Lanes.{plan_of, used_tuples, used_rows}
use Rattle.session_plan.specs.declared.Session.{Session}
use Rattle.session_plan.proofs.Plans.{Good, plan-legal}
use Rattle.session.specs.Session.{wall_of, call_number, change_line_number}

-- some store is shorter than the plan's lanes
abbrev pub Short : Session → Stores → Type 0
Short s S = (length S.outer < used_tuples s) ⊎ ((length S.inner < used_tuples s) ⊎ (length S.rows < used_rows s))

-- one of three tests fails
one-fails : (a b c : Bool) → (a ≡ false) ⊎ ((b ≡ false) ⊎ (c ≡ false)) → (a && (b && c)) ≡ false
one-fails a b c (inl e) = rw e
one-fails a b c (inr (inl e)) = rw (e, and-false a)
one-fails a b c (inr (inr e)) = rw (e, and-false b, and-false a)

module _ (s : Session) (S : Stores) (g : Good s) (done : s.complete ≡ true) where
  tuples-short : (ws : List ℕ) → length ws < used_tuples s
      → fits_tuples (plan_of s) (length (take (used_tuples s) ws)) ≡ false
  unfolding fits_tuples
  tuples-short ws h =
      let n = length (take (used_tuples s) ws) in
      let long = s.lanes * tuple_room (plan_of s) in
      let ne = ne_eqb n long (λ e. omega (arith, length-take (used_tuples s) ws, g.most)) in
      ap (λ (b : Bool). legal_plan (plan_of s) && b) ne ∙ and-false (legal_plan (plan_of s))

  rows_short : (ws : List ℕ) → length ws < used_rows s → fits_rows (plan_of s) (length (take (used_rows s) ws)) ≡ false
  unfolding fits_rows
  rows_short ws h =
      let n = length (take (used_rows s) ws) in
      let long = s.lanes * row_room (plan_of s) in
      let ne = ne_eqb n long (λ e. omega (arith, length-take (used_rows s) ws, g.most)) in
      ap (λ (b : Bool). legal_plan (plan_of s) && b) ne ∙ and-false (legal_plan (plan_of s))

  which : Short s S
      → (fits_tuples (plan_of s) (length (wall_of s S).outer) ≡ false)
      ⊎ ((fits_tuples (plan_of s) (length (wall_of s S).inner) ≡ false)
      ⊎ (fits_rows (plan_of s) (length (wall_of s S).rows) ≡ false))
  which (inl h) = inl (tuples-short S.outer h)
  which (inr (inl h)) = inr (inl (tuples-short S.inner h))
  which (inr (inr h)) = inr (inr (rows_short S.rows h))

  short-open : Short s S → open_number (plan_of s) (wall_of s S) ≡ 4
  unfolding fits_all first_of
  short-open h = lengths-are (plan_of s) _ _ _ ∙ rw (plan-legal s g done, one-fails _ _ _ (which h))

  short-call : (w : Word) (t : Tuple) → Short s S → call_number w (plan_of s) t (wall_of s S) ≡ 4
  unfolding insert_number delete_number store_number first_of
  short-call DrawIn t h = rw (short-open h)
  short-call DrawOut t h = rw (short-open h)
  short-call SpotIn t h = rw (short-open h)
  short-call SpotOut t h = rw (short-open h)

  pub short-change : (w : Word) (t : Tuple) → Short s S → change_line_number s w t S ≡ 4
  unfolding change_line_number first_of
  short-change w t h = rw (short-call w t h, done)
