-- The partitioning (document 01: plan): its cuts (last minutes), its own checks, and the partition (lane) of a chronon.
-- Partitions are counted from 0 here; document 01's lane 1 is partition 0. The laws are in proofs/Homes.antt.
use Rattle.std.specs.Prelude.{Bool, false, not, ◌&&◌, ◌||◌, List, [], ◌∷◌, ◌++◌, map, ℕ, zero, suc, ◌+◌, get_or, take, drop, leb, ltb, eqb}
use Rattle.lists.specs.Choice.{pick, refuse_if, first_of}
use Rattle.interval.specs.Time.{calendar_end}
use Rattle.interval.specs.declared.time.Chronon.{Chronon}
use Rattle.plan.specs.declared.Partitioning.{Partitioning}

-- "a lane count n (1 to 64) .. a tuple capacity (1 to 512) and a row capacity (1 to 4,096)"
abbrev pub most_partitions : ℕ
most_partitions = 64

abbrev pub most_tuples : ℕ
most_tuples = 512

abbrev pub most_rows : ℕ
most_rows = 4096

-- "The plan gains a minimum, 1 to 1,440 minutes." (document 02, (f))
abbrev pub most_minimum : ℕ
most_minimum = 1440

abbrev pub outside : ℕ → ℕ → ℕ → Bool
outside least most n = ltb n least || ltb most n

abbrev pub numbers : List Chronon → List ℕ
numbers ms = map (λ (m : Chronon). m.0) ms

-- the last chronons of the partitions in use: "A plan has 64 places for them; those beyond n are ignored"
unfoldable pub cuts_of : Partitioning → List ℕ
cuts_of p = take p.count (numbers p.lasts)

-- "Last minutes rise strictly; the last is 99,999,999."
unfoldable pub cover : List ℕ → Bool
cover [] = false
cover (c ∷ []) = eqb c calendar_end
cover (c ∷ (e ∷ cs)) = ltb c e && cover (e ∷ cs)

-- check 18: "A minimum out of range"
unfoldable pub minimum_check : ℕ → ℕ
minimum_check minimum = refuse_if (outside 1 most_minimum minimum) 18

-- checks 1 to 3, in that order, then 18: "refused with 18, after 3, in every call that takes a plan"
unfoldable pub plan_number : Partitioning → ℕ
plan_number p =
    first_of
    (refuse_if (outside 1 most_partitions p.count) 1
    ∷ (refuse_if (not (cover (cuts_of p))) 2
    ∷ (refuse_if (outside 1 most_tuples p.tuples || outside 1 most_rows p.rows) 3
    ∷ (minimum_check p.minimum
    ∷ []))))

-- "A plan is legal if none of the plan's own checks below applies to it."
unfoldable pub legal_plan : Partitioning → Bool
legal_plan p = eqb (plan_number p) 0

-- the partition that contains a chronon: how many partitions end before it
unfoldable pub home_of : List ℕ → ℕ → ℕ
home_of [] m = 0
home_of (c ∷ cs) m = pick (leb m c) 0 (suc (home_of cs m))

unfoldable pub home : Partitioning → ℕ → ℕ
home p m = home_of (cuts_of p) m

-- "Lane 1 starts at minute 0, each next lane one minute after the lane before."
unfoldable pub start_of : List ℕ → ℕ → ℕ
start_of cs zero = 0
start_of cs (suc i) = get_or cs i 0 + 1

-- "Recut replaces the plan's last minutes, n and capacities kept"; "those beyond n are ignored, and recut keeps what
-- the old plan has there"; "A recut keeps the minimum."
unfoldable pub with_cuts : Partitioning → List Chronon → Partitioning
with_cuts p new = record {
  count = p.count;
  lasts = take p.count new ++ drop p.count p.lasts;
  tuples = p.tuples;
  rows = p.rows;
  minimum = p.minimum;
}
