-- How a plan, a side and the answers lie in a host's words, and the number for the lengths of what a call is lent
-- beside the stores.
use Rattle.std.specs.Prelude.{Bool, List, [], ◌∷◌, map, ℕ, ◌+◌, eqb, length, get_or, take, drop}
use Rattle.lists.specs.Choice.{pick, first_of}
use Rattle.interval.specs.declared.time.Chronon.{Chronon}
use Rattle.plan.specs.Plan.{most_partitions, plan_number}
use Rattle.plan.specs.declared.Partitioning.{Partitioning}
use Rattle.rows.specs.declared.Side.{Side}
use Rattle.rows.specs.declared.Side.TheVariants.{Outer, Inner}
use Rattle.refusal.specs.Refusal.{answer_number}
use Rattle.sweep_count.specs.Required.{Requirements, sizes_of}
use Rattle.checks.specs.Answer.{Answer, changed_of, examined_of}

-- the words of a plan, 68: before its last minutes; and before its minimum, which is the last word
abbrev pub plan_head : ℕ
plan_head = 3

abbrev pub minimum_place : ℕ
minimum_place = plan_head + most_partitions

abbrev pub plan_words : ℕ
plan_words = minimum_place + 1

-- the words of an answer: of most calls, and of what a sweep requires
abbrev pub answer_words : ℕ
answer_words = 3

abbrev pub requirements_words : ℕ
requirements_words = 4

-- last minutes as words
abbrev pub minutes : List ℕ → List Chronon
minutes ws = map (λ (m : ℕ). record { 0 = m }) ws

-- a plan: lane count, tuple capacity, row capacity, 64 last minutes, minimum
unfoldable pub plan_in : List ℕ → Partitioning
plan_in ws = record {
  count = get_or ws 0 0;
  lasts = minutes (take most_partitions (drop plan_head ws));
  tuples = get_or ws 1 0;
  rows = get_or ws 2 0;
  minimum = get_or ws minimum_place 0;
}

-- an answer: number, first count, second count
abbrev pub words_of : Answer → List ℕ
words_of a = (answer_number a) ∷ (changed_of a ∷ (examined_of a ∷ []))

-- a side: 1 is drawings (outer), every other word spots (inner)
abbrev pub side_of : ℕ → Side
side_of n = pick (eqb n 1) Outer Inner

-- the answer's length is right
abbrev pub answer_fits : List ℕ → Bool
answer_fits buffer = eqb (length buffer) answer_words

abbrev pub requirements_fit : List ℕ → Bool
requirements_fit buffer = eqb (length buffer) requirements_words

-- the answer's buffer after a call that answers in these words: they, where as many are lent
abbrev pub told : List ℕ → List ℕ → List ℕ
told buffer ws = pick (eqb (length buffer) (length ws)) ws buffer

-- a refusal's words: its number, and both counts are 0
abbrev pub refusal : ℕ → List ℕ
refusal n = n ∷ (0 ∷ (0 ∷ []))

-- what a sweep requires in words: number, each side's need, pairs; and of a refusal
abbrev pub requirements_in : Requirements → List ℕ
requirements_in r = answer_number r ∷ ((sizes_of r).outer ∷ ((sizes_of r).inner ∷ ((sizes_of r).pairs ∷ [])))

abbrev pub no_requirements : ℕ → List ℕ
no_requirements n = n ∷ (0 ∷ (0 ∷ (0 ∷ [])))

-- the number for the lengths of what a call is lent beside the stores (0: they are right). A plan of another length
-- says nothing: 4. Where another length is wrong, the plan's own numbers, 1 to 3 and 18, come before its 4, as in
-- document 01's table.
unfoldable pub lent_number : List ℕ → Bool → ℕ
lent_number plan right =
    pick (eqb (length plan) plan_words) (pick right 0 (first_of (plan_number (plan_in plan) ∷ (4 ∷ [])))) 4
