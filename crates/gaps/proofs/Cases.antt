-- Closed cases that compute, from the definitions that the promises cite: walls and the records of their drawings; each
-- refusal, and the order of the checks.
-- Assumes nothing.
use mathlib.Core.List.{List, [], ◌∷◌, ◌++◌, map}
use mathlib.Core.Path.{◌≡◌, refl}
use Prim.Native.Nat.{ℕ, ◌-◌, ◌*◌}
use lib.ListN.{length, replicate}
use Rattle.lists.specs.Choice.{first_of}
use Rattle.lists.specs.Members.{gather}
use Rattle.label.specs.Label.{label_check}
use Rattle.interval.specs.Time.{contains, overlap, durability, durable}
use Rattle.interval.specs.Tuple.{tuple, tuple_words, same_label, item_check, valid_check, tuple_number, legal_tuple}
use Rattle.interval.specs.declared.tuple.Tuple.{Tuple}
use Rattle.plan.specs.Plan.{cuts_of, cover, minimum_check, plan_number, legal_plan, home_of, home}
use Rattle.plan.specs.declared.Partitioning.{Partitioning}
use Rattle.part.specs.Part.{counted, records_in, tuples_in, sound_part}
use Rattle.store.specs.Store.{fits_tuples, tuple_at_home, sound_tuple_part, sound_tuples, stored_tuples}
use Rattle.rows.specs.Join.{rows_of_pair, join_of}
use Rattle.coverage.specs.Gaps.{covered, minutes_of, stretches, gaps_of}
use Rattle.checks.specs.Stores.{tuples_length, tuples_unsound, sides_lengths, sides_unsound, sides_number}
use Rattle.gaps.specs.Listed.{gaps_by, gaps, room_check, gaps_number}

-- ---- how a wall is written

-- a plan with these last minutes, in 64 places, and that minimum
abbrev plan : ℕ → List ℕ → ℕ → ℕ → Partitioning
plan minimum cuts tuples rows = record {
  count = length cuts;
  lasts = map (λ (m : ℕ). record { 0 = m }) (cuts ++ replicate (64 - length cuts) 7);
  tuples = tuples;
  rows = rows;
  minimum = minimum;
}

-- a store with these tuples, partition by partition
abbrev store : ℕ → List (List Tuple) → List ℕ
store capacity parts =
    gather (λ ts. length ts ∷ (gather tuple_words ts ++ replicate (4 * (capacity - length ts)) 0)) parts

-- a wall: its plan, its drawings and its spots
abbrev Wall : Type 0
Wall = Partitioning × List ℕ × List ℕ

-- document 01's example, where a row lasts at least that many minutes
abbrev cuts : List ℕ
cuts = 34 ∷ (40 ∷ (99999999 ∷ []))

abbrev drawings : List ℕ
drawings =
    store 2
    ((tuple 38 10 30 31 ∷ (tuple 38 11 32 32 ∷ [])) ∷ ((tuple 38 10 33 40 ∷ []) ∷ ((tuple 38 11 41 48 ∷ []) ∷ [])))

abbrev spots : List ℕ
spots = store 2 ([] ∷ ((tuple 38 1 30 35 ∷ []) ∷ ((tuple 38 2 36 48 ∷ []) ∷ [])))

abbrev example : ℕ → Wall
example minimum = (plan minimum cuts 2 2, drawings, spots)

-- drawings that are equal, and that differ in their span alone; spots of another label, and in the lanes above
abbrev long : Wall
long = (
  plan 1 (9 ∷ (19 ∷ (99999999 ∷ []))) 3 1,
  store 3 ([] ∷ ([] ∷ ((tuple 1 2 5 25 ∷ (tuple 1 2 5 25 ∷ (tuple 1 2 20 24 ∷ []))) ∷ []))),
  store 3
      ((tuple 1 5 0 6 ∷ [])
      ∷ ((tuple 1 7 9 12 ∷ (tuple 1 8 13 15 ∷ (tuple 2 6 16 19 ∷ []))) ∷ ((tuple 1 9 20 22 ∷ []) ∷ []))),
)

-- no drawing; no spot
abbrev bare : Wall
bare = (plan 1 cuts 2 2, replicate 27 0, spots)

abbrev dark : Wall
dark = (plan 1 cuts 2 2, drawings, replicate 27 0)

-- ---- the records of a wall's drawings. The rows of the example have 2, 1, 3, 5 and 8 minutes: with a minimum there
-- are fewer, and their minutes become gaps

abbrev lists : List (Wall × List Tuple)
lists =
    (example 1, [])
    ∷ ((example 2, tuple 38 11 32 32 ∷ [])
    ∷ ((example 3, tuple 38 10 30 31 ∷ (tuple 38 11 32 32 ∷ []))
    ∷ ((example 4, tuple 38 10 30 31 ∷ (tuple 38 11 32 32 ∷ (tuple 38 10 33 35 ∷ [])))
    ∷ ((example 6, tuple 38 10 30 31 ∷ (tuple 38 11 32 32 ∷ (tuple 38 10 33 40 ∷ [])))
    ∷ ((
      long,
      tuple 1 2 7 8
          ∷ (tuple 1 2 16 19
          ∷ (tuple 1 2 23 25
          ∷ (tuple 1 2 7 8 ∷ (tuple 1 2 16 19 ∷ (tuple 1 2 23 25 ∷ (tuple 1 2 23 24 ∷ [])))))),
    )
    ∷ ((bare, [])
    ∷ ((
      dark,
      tuple 38 10 30 31 ∷ (tuple 38 11 32 32 ∷ (tuple 38 10 33 40 ∷ (tuple 38 11 41 48 ∷ []))),
    )
    ∷ [])))))))

lists-hold : map (λ (c : Wall × List Tuple). gaps c.0.0 c.0.1 c.0.2) lists
    ≡ map (λ (c : Wall × List Tuple). c.1) lists
unfolding gaps gaps_by gaps_of stretches minutes_of covered contains join_of rows_of_pair overlap durability durable
    same_label counted records_in tuples_in stored_tuples
lists-hold = refl

-- ---- numbers: 1 to 3 and 18 for the plan, 4 and 5 for each store, 19 for the buffer; the first that applies

-- a count word of 3 where there are two places, in lane 1; a tuple in the lane below its own
abbrev overfull : List ℕ
overfull = 3 ∷ replicate 26 0

abbrev astray : List ℕ
astray = store 2 ((tuple 38 1 30 35 ∷ []) ∷ ([] ∷ ([] ∷ [])))

-- the wall, the words of the buffer, the number; the example with minimum 4 has three records
abbrev numbers : List (Wall × ℕ × ℕ)
numbers =
    (example 4, 12, 0)
    ∷ ((example 4, 13, 0)
    ∷ ((example 4, 100, 0)
    ∷ ((example 4, 11, 19)
    ∷ ((example 4, 8, 19)
    ∷ ((example 4, 0, 19)
    ∷ ((example 1, 0, 0)
    ∷ ((bare, 0, 0)
    ∷ (((plan 4 [] 2 2, drawings, spots), 0, 1)
    ∷ (((plan 4 (40 ∷ (34 ∷ (99999999 ∷ []))) 0 2, drawings, spots), 0, 2)
    ∷ (((plan 0 cuts 513 2, drawings, spots), 0, 3)
    ∷ (((plan 0 cuts 2 2, drawings, 0 ∷ spots), 0, 18)
    ∷ (((plan 1441 cuts 2 2, drawings, spots), 100, 18)
    ∷ (((plan 4 cuts 2 2, 0 ∷ drawings, overfull), 0, 4)
    ∷ (((plan 4 cuts 2 2, overfull, 0 ∷ spots), 0, 4)
    ∷ (((plan 4 cuts 2 2, overfull, spots), 0, 5)
    ∷ (((plan 4 cuts 2 2, drawings, astray), 0, 5)
    ∷ (((plan 4 cuts 2 2, drawings, overfull), 100, 5)
    ∷ [])))))))))))))))))

numbers-hold : map (λ (c : Wall × ℕ × ℕ). gaps_number c.0.0 c.0.1 c.0.2 c.1) numbers
    ≡ map (λ (c : Wall × ℕ × ℕ). c.2) numbers
unfolding gaps_number sides_number sides_lengths tuples_length sides_unsound tuples_unsound room_check first_of
    fits_tuples legal_plan plan_number minimum_check cuts_of cover sound_tuples sound_tuple_part sound_part
    tuple_at_home legal_tuple tuple_number label_check item_check valid_check home home_of gaps gaps_by gaps_of
    stretches minutes_of covered contains join_of rows_of_pair overlap durability durable same_label counted
    records_in tuples_in stored_tuples
numbers-hold = refl
