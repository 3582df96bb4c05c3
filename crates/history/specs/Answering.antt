-- What a wall answers to a change, by the plain machine alone: from its plan, drawings and spots, whatever order tuples
-- and rows stand in. The definitions see no store; the claim, `AnsweredByMachine`, is that every call gets their number
-- (proved in proofs/Answered.antt: `answered-by-machine`).
use Rattle.std.specs.Prelude.{Bool, not, List, [], ◌∷◌, ◌≡◌, ℕ, leb, ltb, length}
use Rattle.std.proofs.Math.Option.{some}
use Rattle.lists.specs.Choice.{refuse_if, first_of}
use Rattle.lists.specs.Members.{any, below}
use Rattle.interval.specs.Tuple.{to, tuple_number, same_tuple}
use Rattle.interval.specs.declared.tuple.Tuple.{Tuple}
use Rattle.plan.specs.Plan.{plan_number, home}
use Rattle.plan.specs.declared.Partitioning.{Partitioning}
use Rattle.store.specs.Store.{tuples_at, rows_at}
use Rattle.rows.specs.Join.{join_of}
use Rattle.rows.specs.declared.Side.{Side}
use Rattle.checks.specs.Stores.{Stores}
use Rattle.refusal.specs.Refusal.{answer_number}
use Rattle.checks.specs.Answer.{Answer}
use Rattle.join.specs.Opening.{Opened}
use Rattle.join.specs.Changes.{Inserted, Deleted}
use Rattle.history.specs.Machine.{Told, Machine, own_tuples, put, machine_after}
use Rattle.history.specs.Runs.{Run}

-- how many tuples of that side belong to partition i, how many rows
abbrev pub tuples_held_at : Machine → Side → ℕ → ℕ
tuples_held_at m side i = length (tuples_at m.plan i (own_tuples side m))

abbrev pub rows_held_at : Machine → ℕ → ℕ
rows_held_at m i = length (rows_at m.plan i (join_of m.plan.minimum m.outer m.inner))

-- 9: "the tuple's own lane is at capacity"
unfoldable pub partition_full : Machine → Side → Tuple → Bool
partition_full m side t = leb m.plan.tuples (tuples_held_at m side (home m.plan (to t)))

-- 10: "a rows lane would pass its capacity", with the tuple put in
unfoldable pub rows_pass : Machine → Side → Tuple → Bool
rows_pass m side t = any (λ i. ltb m.plan.rows (rows_held_at (put side t m) i)) (below m.plan.count)

-- 11: "no equal tuple stored"
abbrev pub none_equal : Machine → Side → Tuple → Bool
none_equal m side t = not (any (same_tuple t) (own_tuples side m))

-- "Checks go down this table; the first that applies answers.": the tuple's own (6, 7, 8 and 17), then 9 and 10 of an
-- insert, 11 of a withdrawal. A wall that holds what the machine holds meets neither 1 to 5 nor 12
unfoldable pub insert_answer : Machine → Side → Tuple → ℕ
insert_answer m side t =
    first_of (tuple_number t ∷ refuse_if (partition_full m side t) 9 ∷ refuse_if (rows_pass m side t) 10 ∷ [])

unfoldable pub delete_answer : Machine → Side → Tuple → ℕ
delete_answer m side t = first_of (tuple_number t ∷ refuse_if (none_equal m side t) 11 ∷ [])

-- the claim: for every legal plan (of 64 places), every accepted open, every list of calls after it, an insert or a
-- delete gets the number that the machine gives which was told of the list
abbrev pub AnsweredByMachine : Type 0
AnsweredByMachine =
    (p : Partitioning) → length p.lasts ≡ 64 → plan_number p ≡ 0
    → (s s₀ : Stores) (a : Answer) → Opened p s s₀ a → answer_number a ≡ 0
    → (ts : List Told) (p' : Partitioning) (s' : Stores) → Run p s₀ ts p' s'
    → (m : Machine) → machine_after p ts ≡ some m
    → (side : Side) (t : Tuple) (s'' : Stores) (b : Answer)
    → (Inserted p' side t s' s'' b → answer_number b ≡ insert_answer m side t)
    × (Deleted p' side t s' s'' b → answer_number b ≡ delete_answer m side t)
