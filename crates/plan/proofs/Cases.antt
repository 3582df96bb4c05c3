-- Closed cases that compute, from the definitions that the promises cite: document 01's P10, where its lanes
-- start, and each of checks 1 to 3 and 18 at its first illegal value.
-- Assumes nothing.
use mathlib.Core.Bool.{true, false}
use mathlib.Core.List.{List, [], ◌∷◌, ◌++◌, map}
use mathlib.Core.Path.{◌≡◌, refl}
use Prim.Native.Nat.{ℕ, ◌-◌}
use lib.ListN.{length, replicate}
use Rattle.lists.specs.Choice.{first_of}
use Rattle.lists.specs.Members.{below}
use Rattle.interval.specs.declared.time.Chronon.{Chronon}
use Rattle.plan.specs.Plan.{cuts_of, cover, minimum_check, plan_number, legal_plan, home_of, home, start_of}
use Rattle.plan.specs.declared.Partitioning.{Partitioning}

-- a plan of these cuts, in 64 places; those beyond hold 7
abbrev places : List ℕ → List Chronon
places cs = map (λ (n : ℕ). record { 0 = n }) (cs ++ replicate (64 - length cs) 7)

-- with that minimum, and with 1
abbrev lasting : ℕ → ℕ → List ℕ → ℕ → ℕ → Partitioning
lasting minimum count cs tuples rows = record {
  count = count;
  lasts = places cs;
  tuples = tuples;
  rows = rows;
  minimum = minimum;
}

abbrev plan : ℕ → List ℕ → ℕ → ℕ → Partitioning
plan count cs tuples rows = lasting 1 count cs tuples rows

-- P10's plan, a plan with one partition, and one with 64
abbrev p10 : Partitioning
p10 = plan 3 (34 ∷ (40 ∷ (99999999 ∷ []))) 8 16

abbrev one : Partitioning
one = plan 1 (99999999 ∷ []) 512 4096

abbrev full : List ℕ
full = below 63 ++ (99999999 ∷ [])

-- P10: last minute 34 belongs to lane 1, 35 to lane 2; the ends of the calendar and of each lane; none past the end
homes : List (ℕ × ℕ)
homes =
    (0, 0)
    ∷ ((34, 0)
    ∷ ((35, 1)
    ∷ ((40, 1)
    ∷ ((41, 2)
    ∷ ((99999999, 2)
    ∷ ((100000000, 3)
    ∷ []))))))

Homes : List (ℕ × ℕ) → Type 0
Homes [] = Unit {0}
Homes (c ∷ cs) = (home p10 c.0 ≡ c.1) × Homes cs

homes-hold : Homes homes
unfolding homes Homes cuts_of home_of home
homes-hold = (refl, (refl, (refl, (refl, (refl, (refl, (refl, tt)))))))

-- where each partition starts: the first at 0, the others one chronon after the one before
starts : List (Partitioning × ℕ × ℕ)
starts =
    (p10, 0, 0)
    ∷ ((p10, 1, 35)
    ∷ ((p10, 2, 41)
    ∷ ((one, 0, 0)
    ∷ ((plan 64 full 1 1, 0, 0)
    ∷ ((plan 64 full 1 1, 63, 63)
    ∷ [])))))

Starts : List (Partitioning × ℕ × ℕ) → Type 0
Starts [] = Unit {0}
Starts (c ∷ cs) = (start_of (cuts_of c.0) c.1 ≡ c.2) × Starts cs

starts-hold : Starts starts
unfolding starts Starts cuts_of start_of
starts-hold = (refl, (refl, (refl, (refl, (refl, (refl, tt))))))

-- a plan and its number
Checks : List (Partitioning × ℕ) → Type 0
Checks [] = Unit {0}
Checks (c ∷ cs) = (plan_number c.0 ≡ c.1) × Checks cs

-- legal plans: three partitions, one with the largest sizes, 64 with the smallest
legals : List (Partitioning × ℕ)
legals = (p10, 0) ∷ ((one, 0) ∷ ((plan 64 full 1 1, 0) ∷ []))

legals-hold : Checks legals
unfolding legals Checks first_of cuts_of cover minimum_check plan_number
legals-hold = (refl, (refl, (refl, tt)))

-- check 1: no partition, one more than 64, the largest count
counts : List (Partitioning × ℕ)
counts =
    (plan 0 (99999999 ∷ []) 8 16, 1)
    ∷ ((plan 65 full 8 16, 1)
    ∷ ((plan 18446744073709551615 full 8 16, 1)
    ∷ []))

counts-hold : Checks counts
unfolding counts Checks first_of cuts_of cover minimum_check plan_number
counts-hold = (refl, (refl, (refl, tt)))

-- check 2: cuts that fall, equal cuts, a last cut before the calendar's end, one cut left out, a cut past the calendar
cuts : List (Partitioning × ℕ)
cuts =
    (plan 3 (40 ∷ (34 ∷ (99999999 ∷ []))) 8 16, 2)
    ∷ ((plan 3 (34 ∷ (34 ∷ (99999999 ∷ []))) 8 16, 2)
    ∷ ((plan 2 (99999999 ∷ (99999999 ∷ [])) 8 16, 2)
    ∷ ((plan 3 (34 ∷ (40 ∷ (99999998 ∷ []))) 8 16, 2)
    ∷ ((plan 2 (34 ∷ (40 ∷ (99999999 ∷ []))) 8 16, 2)
    ∷ ((plan 3 (34 ∷ (40 ∷ (100000000 ∷ []))) 8 16, 2)
    ∷ ((plan 3 (34 ∷ (100000000 ∷ (99999999 ∷ []))) 8 16, 2)
    ∷ []))))))

cuts-hold : Checks cuts
unfolding cuts Checks first_of cuts_of cover minimum_check plan_number
cuts-hold = (refl, (refl, (refl, (refl, (refl, (refl, (refl, tt)))))))

-- check 3: each size at its first illegal value
sizes : List (Partitioning × ℕ)
sizes =
    (plan 1 (99999999 ∷ []) 0 16, 3)
    ∷ ((plan 1 (99999999 ∷ []) 513 16, 3)
    ∷ ((plan 1 (99999999 ∷ []) 8 0, 3)
    ∷ ((plan 1 (99999999 ∷ []) 8 4097, 3)
    ∷ [])))

sizes-hold : Checks sizes
unfolding sizes Checks first_of cuts_of cover minimum_check plan_number
sizes-hold = (refl, (refl, (refl, (refl, tt))))

-- check 18: 0, one past the largest, the largest word; 1,440 is legal
minima : List (Partitioning × ℕ)
minima =
    (lasting 0 1 (99999999 ∷ []) 8 16, 18)
    ∷ ((lasting 1440 1 (99999999 ∷ []) 8 16, 0)
    ∷ ((lasting 1441 1 (99999999 ∷ []) 8 16, 18)
    ∷ ((lasting 18446744073709551615 1 (99999999 ∷ []) 8 16, 18)
    ∷ [])))

minima-hold : Checks minima
unfolding minima Checks first_of cuts_of cover minimum_check plan_number
minima-hold = (refl, (refl, (refl, (refl, tt))))

-- several faults: the first check that applies answers
faults : List (Partitioning × ℕ)
faults =
    (plan 0 (40 ∷ (34 ∷ [])) 0 4097, 1)
    ∷ ((plan 65 (40 ∷ (34 ∷ [])) 8 16, 1)
    ∷ ((plan 2 (40 ∷ (34 ∷ [])) 0 4097, 2)
    ∷ ((plan 1 (99999999 ∷ []) 0 4097, 3)
    ∷ ((lasting 0 0 (40 ∷ (34 ∷ [])) 0 4097, 1)
    ∷ ((lasting 1441 2 (40 ∷ (34 ∷ [])) 8 16, 2)
    ∷ ((lasting 0 1 (99999999 ∷ []) 8 0, 3)
    ∷ []))))))

faults-hold : Checks faults
unfolding faults Checks first_of cuts_of cover minimum_check plan_number
faults-hold = (refl, (refl, (refl, (refl, (refl, (refl, (refl, tt)))))))

-- a plan is legal where its number is 0
legal-hold : (legal_plan p10 ≡ true) × (legal_plan one ≡ true) × (legal_plan (plan 65 full 8 16) ≡ false)
unfolding first_of cuts_of cover minimum_check plan_number legal_plan
legal-hold = (refl, refl, refl)
