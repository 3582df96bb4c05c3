-- Closed cases that compute, from the definitions that the promises cite: a plan's words; the number for lengths, with
-- each of the plan's own numbers before 4; an answer's words.
-- Assumes nothing.
use mathlib.Core.Bool.{Bool, true, false}
use mathlib.Core.List.{List, [], ◌∷◌, ◌++◌}
use mathlib.Core.Path.{◌≡◌, refl}
use Prim.Native.Nat.{ℕ, ◌-◌}
use lib.ListN.{length, replicate}
use Rattle.lists.specs.Choice.{first_of}
use Rattle.lists.specs.Members.{below}
use Rattle.plan.specs.Plan.{most_partitions, cuts_of, cover, minimum_check, plan_number, numbers}
use Rattle.rows.specs.declared.Side.TheVariants.{Outer, Inner}
use Rattle.layout.specs.Layout.{minutes, plan_in, side_of, told, refusal, lent_number}
use Rattle.layout.proofs.Words.{put_lasts}

-- a plan's words: lanes, tuples, rows, last minutes in 64 places, of which those beyond hold 7, and that minimum; and
-- with the minimum 1
abbrev lasting : ℕ → ℕ → ℕ → ℕ → List ℕ → List ℕ
lasting minimum lanes tuples rows cs =
    lanes ∷ (tuples ∷ (rows ∷ (cs ++ (replicate (most_partitions - length cs) 7 ++ (minimum ∷ [])))))

abbrev words : ℕ → ℕ → ℕ → List ℕ → List ℕ
words lanes tuples rows cs = lasting 1 lanes tuples rows cs

-- document 01's example
abbrev example : List ℕ
example = words 3 8 16 (34 ∷ (40 ∷ (99999999 ∷ [])))

-- the plan that they say
plan-read : ((plan_in example).count ≡ 3) × ((plan_in example).tuples ≡ 8) × ((plan_in example).rows ≡ 16)
    × (numbers (plan_in example).lasts ≡ 34 ∷ (40 ∷ (99999999 ∷ replicate 61 7))) × ((plan_in example).minimum ≡ 1)
unfolding plan_in
plan-read = (refl, refl, refl, refl, refl)

-- the minimum is the 68th word; of another count of cuts too; new last minutes put into the words leave it
abbrev quarter : List ℕ
quarter = lasting 15 1 8 16 (99999999 ∷ [])

minimum-read : (length quarter ≡ 68) × ((plan_in quarter).minimum ≡ 15) × ((plan_in (below 68)).minimum ≡ 67)
    × ((plan_in (put_lasts quarter (minutes (below 64)))).minimum ≡ 15)
    × (numbers (plan_in (put_lasts quarter (minutes (below 64)))).lasts ≡ below 64)
unfolding plan_in
minimum-read = (refl, refl, refl, refl, refl)

-- 1 is drawings, every other word spots
sides-read : (side_of 1 ≡ Outer) × (side_of 0 ≡ Inner) × (side_of 2 ≡ Inner)
sides-read = (refl, refl, refl)

-- lengths: right; of the plan two words short, one (a plan without a minimum), one too many, none; of another buffer,
-- after each of 1, 2, 3 and 18
lengths : List (List ℕ × Bool × ℕ)
lengths =
    (example, true, 0)
    ∷ ((words 0 8 16 (99999999 ∷ []), true, 0)
    ∷ ((replicate 66 0, true, 4)
    ∷ ((replicate 67 0, true, 4)
    ∷ ((replicate 69 0, true, 4)
    ∷ (([], false, 4)
    ∷ ((example, false, 4)
    ∷ ((words 0 8 16 (99999999 ∷ []), false, 1)
    ∷ ((words 65 8 16 (99999999 ∷ []), false, 1)
    ∷ ((words 2 8 16 (40 ∷ (34 ∷ [])), false, 2)
    ∷ ((words 1 513 16 (99999999 ∷ []), false, 3)
    ∷ ((lasting 0 1 513 16 (99999999 ∷ []), false, 3)
    ∷ ((lasting 0 1 8 16 (99999999 ∷ []), false, 18)
    ∷ ((lasting 1441 1 8 16 (99999999 ∷ []), false, 18)
    ∷ [])))))))))))))

Lengths : List (List ℕ × Bool × ℕ) → Type 0
Lengths [] = Unit {0}
Lengths (c ∷ cs) = (lent_number c.0 c.1 ≡ c.2) × Lengths cs

lengths-hold : Lengths lengths
unfolding lengths Lengths lent_number plan_in first_of cuts_of cover minimum_check plan_number
lengths-hold = (
  refl,
  (refl, (refl, (refl, (refl, (refl, (refl, (refl, (refl, (refl, (refl, (refl, (refl, (refl, tt))))))))))))),
)

-- an answer: three words are written, two or four are not
abbrev sevens : ℕ → List ℕ
sevens n = replicate n 7

told-holds : (told (sevens 3) (refusal 4) ≡ 4 ∷ (0 ∷ (0 ∷ [])))
    × (told (sevens 2) (refusal 4) ≡ sevens 2) × (told (sevens 4) (refusal 4) ≡ sevens 4)
told-holds = (refl, refl, refl)
