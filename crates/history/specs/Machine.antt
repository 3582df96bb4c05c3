-- The plain machine of demand 3: "told which call is made, on which side, with which tuple or new last minutes, and
-- whether it answered 0; it sees no store and no cache. It keeps two multisets, drawings and spots, .. and the plan in
-- force".
use Rattle.std.specs.Prelude.{List, [], ◌∷◌, ℕ, eqb}
use Rattle.std.proofs.Math.Option.{Option, none, some}
use Rattle.lists.specs.Choice.{pick}
use Rattle.lists.specs.Members.{any, without}
use Rattle.interval.specs.Tuple.{same_tuple}
use Rattle.interval.specs.declared.time.Chronon.{Chronon}
use Rattle.interval.specs.declared.tuple.Tuple.{Tuple}
use Rattle.plan.specs.Plan.{with_cuts}
use Rattle.plan.specs.declared.Partitioning.{Partitioning}
use Rattle.rows.specs.declared.Side.{Side}
use Rattle.rows.specs.declared.Side.TheVariants.{Outer, Inner}

-- what the machine is told of a call (document 01: insert, withdraw, sweep, recut)
pub data Call : Type 0 where
  insert : Side → Tuple → Call
  delete : Side → Tuple → Call
  sweep : Call
  repartition : List Chronon → Call

-- a call and the number that it answered
pub record Told : Type 0 where
  pub call : Call
  pub number : ℕ

-- the multisets, as lists whose order says nothing, and the plan in force
pub record Machine : Type 0 where
  pub plan : Partitioning
  pub outer : List Tuple
  pub inner : List Tuple

-- the tuples of a side
abbrev pub own_tuples : Side → Machine → List Tuple
own_tuples Outer m = m.outer
own_tuples Inner m = m.inner

-- "An accepted insert adds its tuple on its side."
abbrev pub put : Side → Tuple → Machine → Machine
put Outer t m = record { plan = m.plan; outer = t ∷ m.outer; inner = m.inner }
put Inner t m = record { plan = m.plan; outer = m.outer; inner = t ∷ m.inner }

-- "An accepted withdrawal takes out one equal tuple on its side; if the machine has none, demand 3 has failed."
abbrev pub take_out : Side → Tuple → Machine → Option Machine
take_out Outer t m =
    pick (any (same_tuple t) m.outer)
    (some (record { plan = m.plan; outer = without (same_tuple t) m.outer; inner = m.inner }))
    none
take_out Inner t m =
    pick (any (same_tuple t) m.inner)
    (some (record { plan = m.plan; outer = m.outer; inner = without (same_tuple t) m.inner }))
    none

-- an accepted call; none: demand 3 has failed. "An accepted recut puts the last minutes handed in into the first n
-- places of the plan in force. A sweep changes nothing"
abbrev pub accept : Call → Machine → Option Machine
accept (insert side t) m = some (put side t m)
accept (delete side t) m = take_out side t m
accept sweep m = some m
accept (repartition new) m = some (record { plan = with_cuts m.plan new; outer = m.outer; inner = m.inner })

-- "and neither does a refused call"
abbrev pub told : Told → Machine → Option Machine
told t m = pick (eqb t.number 0) (accept t.call m) (some m)

abbrev pub next : Told → Option Machine → Option Machine
next t none = none
next t (some m) = told t m

-- the machine after a list of calls, the newest first: "empty after open", "at first the one handed to open"
abbrev pub machine_after : Partitioning → List Told → Option Machine
machine_after p [] = some (record { plan = p; outer = []; inner = [] })
machine_after p (t ∷ ts) = next t (machine_after p ts)
