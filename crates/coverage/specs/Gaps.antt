-- Which chronons (document 01: minutes) of an outer tuple (drawing) its rows cover, and its gaps: the stretches of its
-- interval that no row covers (document 02, (h)). Minute by minute, with no word of the algorithm.
-- The laws are in proofs/Stretches.antt, closed cases in proofs/Cases.antt.
use Rattle.std.specs.Prelude.{Bool, not, List, [], ◌∷◌, ℕ, suc, ◌-◌, eqb}
use Rattle.lists.specs.Choice.{pick}
use Rattle.lists.specs.Members.{any, keep, up_from}
use Rattle.interval.specs.Time.{span, contains}
use Rattle.interval.specs.Tuple.{from}
use Rattle.interval.specs.declared.time.Chronon.{Chronon}
use Rattle.interval.specs.declared.time.Interval.{Interval}
use Rattle.interval.specs.declared.tuple.Tuple.{Tuple}
use Rattle.interval.specs.declared.tuple.Row.{Row}
use Rattle.plan.specs.declared.Partitioning.{Partitioning}
use Rattle.store.specs.Store.{stored_tuples}
use Rattle.rows.specs.Join.{join_of}

abbrev pub chronon : ℕ → Chronon
chronon m = record { 0 = m }

-- the rows that a drawing makes: the join of it alone with the spots of store 2
abbrev pub rows_of : Partitioning → List ℕ → Tuple → List Row
rows_of p inner d = join_of p.minimum (d ∷ []) (stored_tuples p inner)

-- minute m lies "in the span of" some row
unfoldable pub covered : List Row → ℕ → Bool
covered rs m = any (λ (r : Row). contains r.valid (chronon m)) rs

-- how many minutes an interval has, "last minus first plus one"; none where it is reversed
abbrev pub minutes_in : Interval → ℕ
minutes_in v = suc v.last.0 - v.first.0

-- the minutes of a tuple's span, rising
unfoldable pub minutes_of : Tuple → List ℕ
minutes_of d = up_from (from d) (minutes_in d.valid)

-- one more minute before a list of stretches: it lengthens the first where it adjoins it, else it is a stretch of its
-- own
abbrev pub before : ℕ → List Interval → List Interval
before m [] = span m m ∷ []
before m (v ∷ vs) = pick (eqb (suc m) v.first.0) (span m v.last.0 ∷ vs) (span m m ∷ (v ∷ vs))

-- the stretches of consecutive minutes of a rising list
unfoldable pub stretches : List ℕ → List Interval
stretches [] = []
stretches (m ∷ ms) = before m (stretches ms)

-- "the longest stretches of its span that lie in the span of no row it makes, in rising order": of a drawing d that
-- makes rs
unfoldable pub gaps_of : Tuple → List Row → List Interval
gaps_of d rs = stretches (keep (λ m. not (covered rs m)) (minutes_of d))
