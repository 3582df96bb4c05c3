-- Check 12 never applies where the stores hold a join: a stored tuple's rows all stand in the rows store, each as often
-- as they must go (`lacks-none`). In order: a row's count in the store, in the join and among the rows that must go.
-- Assumes nothing.
use mathlib.Core.Bool.{true, false, not}
use mathlib.Core.List.{List, ◌∷◌}
use mathlib.Core.Path.{◌≡◌, refl, sym, ◌∙◌, ap}
use Prim.Native.Nat.{ℕ, ◌+◌, ◌<◌}
use native.Mathlib.Omega.{arith}
use lib.Dec.{ltb}
use borrow.Author.Tests.{ltb-true, le-ltb}
use Rattle.lists.specs.Members.{any, without}
use Rattle.lists.specs.Same.{times}
use Rattle.lists.proofs.Members.{all-imply, any-not-all}
use Rattle.lists.proofs.Tally.{tally-append}
use Rattle.lists.proofs.Same.{take-out, any_same}
use Rattle.interval.specs.Tuple.{row_to, same_tuple, same_row}
use Rattle.interval.specs.declared.tuple.Tuple.{Tuple}
use Rattle.interval.specs.declared.tuple.Row.{Row}
use Rattle.interval.proofs.Tuples.{same-tuple-is, same-row-is}
use Rattle.plan.specs.Plan.{home}
use Rattle.plan.specs.declared.Partitioning.{Partitioning}
use Rattle.part.specs.Part.{times_of_row}
use Rattle.store.specs.Store.{stored_tuples, stored_rows, rows_at}
use Rattle.rows.specs.declared.Side.{Side}
use Rattle.rows.proofs.JoinsStored.{made-within}
use Rattle.insertion.specs.Changes.{made}
use Rattle.deletion.specs.Deletes.{lacks}
use Rattle.deletion.proofs.Deleting.{times-at, times-stored}
use Rattle.history.proofs.Changes.{join-made}
use Rattle.history.proofs.Held.{Wall, join_from, join-from-same}

-- ---- the rows that a stored tuple makes

module _ (p : Partitioning) (side : Side) (t : Tuple) (own other rows : List ℕ) (ts us : List Tuple)
    (w : Wall p side own other rows ts us) where
  -- a row of one of the plan's partitions stands in the rows store as often as in the join
  times-held : (r : Row) → home p (row_to r) < p.count
      → times same_row r (stored_rows p rows) ≡ times same_row r (join_from p.minimum side ts us)
  unfolding rows_at times_of_row
  times-held r h =
      let at = home p (row_to r) in
      times-stored p rows at h w.made-rows.sound r refl
      ∙ w.made-rows.held at h r
      ∙ times-at same_row same-row-is (λ q. home p (row_to q)) at r refl (join_from p.minimum side ts us)

  module _ (there : any (same_tuple t) (stored_tuples p own) ≡ true) where
    -- the other own tuples
    abbrev rest : List Tuple
    rest = without (same_tuple t) ts

    -- the join is theirs, and the rows that the tuple makes
    join-parts : (r : Row) → times same_row r (join_from p.minimum side ts us)
        ≡ times same_row r (join_from p.minimum side rest us) + times same_row r (made p side t other)
    join-parts r =
        let even = any_same same_tuple same-tuple-is (same_tuple t) (stored_tuples p own) ts w.mine.held in
        let has : any (same_tuple t) ts ≡ true = sym even ∙ there in
        join-from-same p.minimum side ts (t ∷ rest) us (take-out same_tuple same-tuple-is t ts has) r
        ∙ join-made p side t rest us other w.theirs r
        ∙ tally-append (same_row r) (join_from p.minimum side rest us) (made p side t other)

    -- so it has each of them at least as often
    enough : (r : Row) → ltb (home p (row_to r)) p.count ≡ true
        → not (ltb (times same_row r (stored_rows p rows)) (times same_row r (made p side t other))) ≡ true
    enough r h =
        let l = ltb-true (home p (row_to r)) p.count h in
        ap not
        (le-ltb (times same_row r (stored_rows p rows)) (times same_row r (made p side t other))
        (omega (arith, times-held r l, join-parts r)))

    pub lacks-none : lacks (stored_rows p rows) (made p side t other) ≡ false
    unfolding lacks made
    lacks-none =
        any-not-all _ (made p side t other)
        ∙ ap not
        (all-imply (λ r. ltb (home p (row_to r)) p.count) _ (made p side t other) enough
        (made-within p other w.theirs.sound side t))
