-- What insert and delete have in common: the partition of a legal tuple, the rows that it makes with the other side's
-- store, and the rows partitions that share no chronon with it.
-- Assumes nothing.
use mathlib.Core.List.{List, ◌∷◌, ◌++◌}
use mathlib.Core.Path.{◌≡◌, sym, ◌∙◌, ap}
use Prim.Native.Nat.{ℕ, ◌<◌}
use native.Mathlib.Omega.{arith}
use lib.ListN.{length}
use Rattle.lists.specs.Same.{Same}
use Rattle.lists.proofs.Same.{same_refl, same-append}
use Rattle.interval.specs.Tuple.{to, tuple_number, same_row}
use Rattle.interval.specs.declared.tuple.Tuple.{Tuple}
use Rattle.interval.proofs.Tuples.{legal-tuple, valid-ok}
use Rattle.plan.specs.Plan.{most_partitions, plan_number, cuts_of, home}
use Rattle.plan.specs.declared.Partitioning.{Partitioning}
use Rattle.plan.proofs.Homes.{legal-plan, home-within, length-cuts}
use Rattle.store.specs.Store.{stored_tuples}
use Rattle.rows.specs.Join.{made_with}
use Rattle.rows.specs.declared.Side.{Side}
use Rattle.rows.proofs.Joins.{made-same, apart-gains}
use Rattle.insertion.specs.Changes.{made, Grown}
use Rattle.insertion.proofs.Sites.{legal-is}
use Rattle.history.specs.KeptCurrent.{Untouched}
use Rattle.history.proofs.Held.{TupleStore, join_from, join-from-more}

-- ---- a legal tuple belongs to one of the plan's partitions

pub home-in-plan : (p : Partitioning) → plan_number p ≡ 0 → length p.lasts ≡ most_partitions → (t : Tuple)
    → tuple_number t ≡ 0
    → home p (to t) < p.count
unfolding home
home-in-plan p legal places t e =
    let plan = legal-plan p legal in
    omega (
      arith,
      home-within (cuts_of p) plan.covered (to t) (valid-ok t.valid (legal-tuple t (legal-is t e)).valid).1,
      length-cuts p places plan.most,
    )

-- ---- the rows that a tuple makes

-- what a tuple makes with a store is what it makes with the tuples that the store holds
made_held : (p : Partitioning) (side : Side) (t : Tuple) (ws : List ℕ) (us : List Tuple) → TupleStore p ws us
    → Same same_row (made p side t ws) (made_with p.minimum side t us)
unfolding made
made_held p side t ws us h = made-same p.minimum side t (stored_tuples p ws) us h.held

-- the join with one tuple more, by the rows that the tuple makes with the other side's store
pub join-made : (p : Partitioning) (side : Side) (t : Tuple) (ts us : List Tuple) (other : List ℕ)
    → TupleStore p other us
    → Same same_row (join_from p.minimum side (t ∷ ts) us) (join_from p.minimum side ts us ++ made p side t other)
join-made p side t ts us other h =
    let before = join_from p.minimum side ts us in
    λ r.
    join-from-more p.minimum side t ts us r
    ∙ same-append same_row before before (made_with p.minimum side t us) (made p side t other)
    (same_refl same_row before) (λ q. sym (made_held p side t other us h q)) r

-- a partition that shares no chronon with the tuple gains nothing
pub untouched : (p : Partitioning) → plan_number p ≡ 0 → length p.lasts ≡ most_partitions → (side : Side) (t : Tuple)
    (other ws ws' : List ℕ) → Grown p ws (made p side t other) ws' → Untouched p t ws ws'
unfolding made
untouched p legal places side t other ws ws' g i l e =
    g.rest i l (ap length (apart-gains p legal places i l side t e (stored_tuples p other)))
