-- A call gets the number that the machine's contents give: on a wall that holds what a machine holds
-- (`insert-answered`, `delete-answered`), and so after every list of calls (`answered-by-machine`).
-- In order: how many tuples and rows a partition holds; checks 9 and 10; an insert; a delete; every list.
-- Assumes nothing.
use mathlib.Core.Bool.{Bool, true, false}
use mathlib.Core.List.{List, [], ◌∷◌, ◌++◌}
use mathlib.Core.Path.{◌≡◌, refl, sym, ◌∙◌, ap}
use Prim.Native.Nat.{ℕ, zero, suc, ◌+◌, ◌<◌}
use lib.Dec.{leb, ltb}
use lib.ListN.{length, length-append}
use Rattle.lists.specs.Choice.{refuse_if, first_of}
use Rattle.lists.specs.Members.{any, below}
use Rattle.lists.proofs.Choice.{same_test}
use Rattle.lists.proofs.Below.{any_below, below-any}
use Rattle.lists.proofs.Same.{length-same, any_same}
use Rattle.interval.specs.Tuple.{to, tuple_number, same_tuple, same_row}
use Rattle.interval.specs.declared.tuple.Tuple.{Tuple}
use Rattle.interval.specs.declared.tuple.Row.{Row}
use Rattle.interval.proofs.Tuples.{same-tuple-is, same-row-is}
use Rattle.plan.specs.Plan.{home}
use Rattle.plan.specs.declared.Partitioning.{Partitioning}
use Rattle.part.specs.Part.{counted, tuples_in, rows_in}
use Rattle.part.proofs.Parts.{length-tuples, length-rows}
use Rattle.store.specs.Store.{tuple_part, row_part, stored_tuples, tuples_at, rows_at}
use Rattle.rows.specs.declared.Side.{Side}
use Rattle.rows.specs.declared.Side.TheVariants.{Outer, Inner}
use Rattle.rows.proofs.Joins.{rows-at-same, rows-at-append}
use Rattle.checks.specs.Stores.{Stores, store_number}
use Rattle.checks.proofs.Checks.{lengths-are, stores-are}
use Rattle.insertion.specs.Changes.{made}
use Rattle.insertion.specs.Inserts.{full, overfull, insert_checks}
use Rattle.deletion.specs.Deletes.{delete_checks}
use Rattle.join.specs.Changes.{own_store, other_store, insert_number, delete_number}
use Rattle.history.specs.Machine.{Machine, own_tuples, put}
use Rattle.history.specs.Answering.{rows_held_at, partition_full, rows_pass, none_equal, insert_answer, delete_answer}
use Rattle.history.specs.Answering.{AnsweredByMachine}
use Rattle.history.proofs.Held.{Wall, join_from, tuples-held-at}
use Rattle.history.proofs.Kept.{Kept, kept-current-now, other_tuples, kept_from}
use Rattle.history.proofs.Changes.{home-in-plan, join-made}
use Rattle.history.proofs.Lacking.{lacks-none}
use Rattle.history.proofs.Current.{opened-kept, run-kept}

-- some number below n passes, by either of two tests that agree there
any-agree : (p q : ℕ → Bool) (n : ℕ) → ((i : ℕ) → i < n → p i ≡ q i) → any p (below n) ≡ any q (below n)
any-agree p q n h =
    same_test (any p (below n)) (any q (below n))
    (λ e. let x = any_below p n e in below-any q n x.0 x.1 (sym (h x.0 x.1) ∙ x.2))
    (λ e. let x = any_below q n e in below-any p n x.0 x.1 (h x.0 x.1 ∙ x.2))

-- the rows of the machine with the tuple put in, by the join seen from the tuple's side
put-rows : (side : Side) (t : Tuple) (m : Machine) (p : Partitioning) (i : ℕ) → p ≡ m.plan
    → length (rows_at p i (join_from p.minimum side (t ∷ own_tuples side m) (other_tuples side m)))
    ≡ rows_held_at (put side t m) i
put-rows Outer t m p i e = rw e
put-rows Inner t m p i e = rw e

module _ (m : Machine) (p : Partitioning) (s : Stores) (k : Kept m p s) (side : Side) (t : Tuple) where
  -- what the wall holds, seen from the tuple's side
  wall : Wall p side (own_store side s) (other_store side s) s.rows (own_tuples side m) (other_tuples side m)
  wall = kept_from side m p s k

  -- the rows that the tuple makes with the other side, and all rows with them
  abbrev new : List Row
  new = made p side t (other_store side s)

  abbrev after : List Row
  after = join_from p.minimum side (t ∷ own_tuples side m) (other_tuples side m)

  -- ---- how many a partition holds

  tuples-counted : (i : ℕ) → i < p.count
      → counted (tuple_part p (own_store side s) i) ≡ length (tuples_at p i (own_tuples side m))
  tuples-counted i l =
      let part = tuple_part p (own_store side s) i in
      sym (length-tuples part)
      ∙ length-same same_tuple same-tuple-is (tuples_in part) (tuples_at p i (own_tuples side m))
      (tuples-held-at p (own_store side s) (own_tuples side m) wall.mine i l)

  -- rows with those that the tuple makes
  rows-counted : (i : ℕ) → i < p.count
      → counted (row_part p s.rows i) + length (rows_at p i new) ≡ length (rows_at p i after)
  rows-counted i l =
      let before = join_from p.minimum side (own_tuples side m) (other_tuples side m) in
      let part = row_part p s.rows i in
      ap (λ (n : ℕ). n + length (rows_at p i new))
      (sym (length-rows part)
      ∙ length-same same_row same-row-is (rows_in part) (rows_at p i before) (wall.made-rows.held i l))
      ∙ sym (length-append (rows_at p i before) (rows_at p i new))
      ∙ ap length (sym (rows-at-append p i before new))
      ∙ sym
      (length-same same_row same-row-is (rows_at p i after) (rows_at p i (before ++ new))
      (rows-at-same p i after (before ++ new)
      (join-made p side t (own_tuples side m) (other_tuples side m) (other_store side s) wall.theirs)))

  -- ---- checks 1 to 5, 9, 10 and 11

  store-none : store_number p s ≡ 0
  unfolding first_of
  store-none =
      let c = kept-current-now m p s k in
      stores-are p s
      ∙ rw (lengths-are p (length s.outer) (length s.inner) (length s.rows), k.legal, c.long, c.all_sound)

  full_is : tuple_number t ≡ 0 → full p t (own_store side s) ≡ partition_full m side t
  unfolding partition_full
  full_is e =
      ap (leb p.tuples) (tuples-counted (home p (to t)) (home-in-plan p k.legal k.places t e))
      ∙ rw k.in_force

  pass-is : overfull p s.rows new ≡ rows_pass m side t
  unfolding overfull rows_pass
  pass-is =
      any-agree _ _ p.count (λ i l. ap (ltb p.rows) (rows-counted i l ∙ put-rows side t m p i k.in_force))
      ∙ rw k.in_force

  there-is : any (same_tuple t) (stored_tuples p (own_store side s)) ≡ any (same_tuple t) (own_tuples side m)
  there-is =
      any_same same_tuple same-tuple-is (same_tuple t) (stored_tuples p (own_store side s)) (own_tuples side m)
      wall.mine.held

  -- ---- an insert

  pub insert-answered : insert_number p side t s ≡ insert_answer m side t
  unfolding insert_number insert_answer first_of
  insert-answered = go (tuple_number t) refl
    where
      go : (n : ℕ) → tuple_number t ≡ n
          → first_of (store_number p s ∷ n ∷ insert_checks p side t (own_store side s) (other_store side s) s.rows)
          ≡ first_of (n ∷ refuse_if (partition_full m side t) 9 ∷ refuse_if (rows_pass m side t) 10 ∷ [])
      go zero e = rw (store-none, full_is e, pass-is)
      go (suc n) e = rw store-none

  -- ---- a delete

  pub delete-answered : delete_number p side t s ≡ delete_answer m side t
  unfolding delete_number delete_answer first_of
  delete-answered = go (tuple_number t) (any (same_tuple t) (stored_tuples p (own_store side s))) refl
    where
      go : (n : ℕ) (b : Bool) → any (same_tuple t) (stored_tuples p (own_store side s)) ≡ b
          → first_of (store_number p s ∷ n ∷ delete_checks p side t (own_store side s) (other_store side s) s.rows)
          ≡ first_of (n ∷ refuse_if (none_equal m side t) 11 ∷ [])
      go zero true e =
          rw (
            store-none,
            ← there-is,
            e,
            lacks-none p side t (own_store side s) (other_store side s) s.rows (own_tuples side m) (other_tuples side m)
                wall e,
          )
      go zero false e = rw (store-none, ← there-is, e)
      go (suc n) b e = rw store-none

-- ---- after every list of calls

pub answered-by-machine : AnsweredByMachine
answered-by-machine p places legal s s₀ a o z ts p' s' run m e side t s'' b =
    let h = run-kept (opened-kept p places legal s s₀ a o z) run in
    let same : h.0 ≡ m = cc h.1 in
    let k : Kept m p' s' = rw same at h.2 in
    ((λ i. i.number ∙ insert-answered m p' s' k side t), (λ d. d.number ∙ delete-answered m p' s' k side t))
