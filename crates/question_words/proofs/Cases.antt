-- Closed cases that compute, from the definitions that the promises cite: the questions in words and the words that the
-- call leaves; each refusal, and the order of the checks.
-- Assumes nothing.
use mathlib.Core.List.{List, [], ◌∷◌, ◌++◌, map}
use mathlib.Core.Path.{◌≡◌, refl}
use Prim.Native.Nat.{ℕ, ◌-◌, ◌*◌}
use lib.ListN.{length, replicate}
use Rattle.lists.specs.Choice.{first_of}
use Rattle.lists.specs.Members.{gather}
use Rattle.label.specs.Label.{label_check}
use Rattle.interval.specs.Time.{contains, durability, durable}
use Rattle.interval.specs.Tuple.{row, row_words, item_check, valid_check, row_number, legal_row}
use Rattle.interval.specs.declared.tuple.Row.{Row}
use Rattle.plan.specs.Plan.{cuts_of, cover, minimum_check, plan_number, legal_plan, home_of, home}
use Rattle.plan.specs.declared.Partitioning.{Partitioning}
use Rattle.part.specs.Part.{counted, records_in, rows_in, sound_part}
use Rattle.store.specs.Store.{fits_rows, row_at_home, sound_row_part, sound_rows, stored_rows}
use Rattle.checks.specs.Stores.{rows_length, rows_unsound}
use Rattle.question.specs.Question.{legal_question, row_meets, answer_in, answered}
use Rattle.question.specs.declared.Question.{Question}
use Rattle.question_words.specs.QuestionWords.{question_words, questions_in, whole_check, words_number}

-- ---- how a store and a question are written

-- a plan with these last minutes, in 64 places, that minimum, and room for so many tuples and rows in each lane; and
-- with the minimum 1
abbrev lasting : ℕ → List ℕ → ℕ → ℕ → Partitioning
lasting minimum cuts tuples rows = record {
  count = length cuts;
  lasts = map (λ (m : ℕ). record { 0 = m }) (cuts ++ replicate (64 - length cuts) 7);
  tuples = tuples;
  rows = rows;
  minimum = minimum;
}

abbrev plan : List ℕ → ℕ → ℕ → Partitioning
plan cuts tuples rows = lasting 1 cuts tuples rows

-- a store with these rows, lane by lane
abbrev store : ℕ → List (List Row) → List ℕ
store capacity lanes =
    gather (λ rs. length rs ∷ (gather row_words rs ++ replicate (5 * (capacity - length rs)) 0)) lanes

-- a question: its label, its minute and its answer
abbrev ask : ℕ → ℕ → ℕ → Question
ask label minute answer = record { label = label; minute = record { 0 = minute }; answer = answer }

-- document 01's example: its cuts, its plan and its rows
abbrev cuts : List ℕ
cuts = 34 ∷ (40 ∷ (99999999 ∷ []))

abbrev legal : Partitioning
legal = plan cuts 2 2

abbrev example : List ℕ
example =
    store 2
    ((row 38 10 1 30 31 ∷ (row 38 11 1 32 32 ∷ []))
    ∷ ((row 38 10 1 33 35 ∷ (row 38 10 2 36 40 ∷ []))
    ∷ ((row 38 11 2 41 48 ∷ [])
    ∷ [])))

-- ---- questions in words: none, one, two, and what is left over is no question

abbrev readings : List (List ℕ × List Question)
readings =
    ([], [])
    ∷ ((38 ∷ (33 ∷ (5 ∷ [])), ask 38 33 5 ∷ [])
    ∷ ((38 ∷ (33 ∷ (5 ∷ (7 ∷ (99999999 ∷ (0 ∷ []))))), ask 38 33 5 ∷ (ask 7 99999999 0 ∷ []))
    ∷ ((38 ∷ (33 ∷ (5 ∷ (7 ∷ (99999999 ∷ [])))), ask 38 33 5 ∷ [])
    ∷ ((38 ∷ (33 ∷ []), [])
    ∷ []))))

readings-hold : map (λ (c : List ℕ × List Question). questions_in c.0) readings
    ≡ map (λ (c : List ℕ × List Question). c.1) readings
unfolding questions_in
readings-hold = refl

-- ---- the words that the call leaves, of the example: labels and minutes as they were, each answer in its place,
-- whatever stood there; a label and a minute out of range get 0

abbrev answers : List (List ℕ × List ℕ)
answers =
    ([], [])
    ∷ ((38 ∷ (33 ∷ (5 ∷ [])), 38 ∷ (33 ∷ (1 ∷ [])))
    ∷ ((38 ∷ (29 ∷ (7 ∷ (38 ∷ (48 ∷ (0 ∷ []))))), 38 ∷ (29 ∷ (0 ∷ (38 ∷ (48 ∷ (1 ∷ []))))))
    ∷ ((0 ∷ (33 ∷ (7 ∷ (38 ∷ (100000000 ∷ (9 ∷ []))))), 0 ∷ (33 ∷ (0 ∷ (38 ∷ (100000000 ∷ (0 ∷ []))))))
    ∷ [])))

answers-hold : map (λ (c : List ℕ × List ℕ).
    gather question_words (map (answered (stored_rows legal example)) (questions_in c.0))) answers
    ≡ map (λ (c : List ℕ × List ℕ). c.1) answers
unfolding questions_in stored_rows rows_in records_in counted answer_in legal_question label_check row_meets contains
answers-hold = refl

-- ---- numbers: 1 to 3 and 18 for the plan, 4 for the store and for the words, 5 for the store; the first that applies

-- a count word of 3 where there are two places, in lane 1; a row in the lane below its own
abbrev overfull : List ℕ
overfull = 3 ∷ replicate 32 0

abbrev astray : List ℕ
astray = store 2 ((row 38 10 1 33 35 ∷ []) ∷ ([] ∷ ([] ∷ [])))

-- the plan, the store, the words of questions, the number
abbrev Case : Type 0
Case = Partitioning × List ℕ × ℕ × ℕ

abbrev numbers : List Case
numbers =
    (legal, example, 0, 0)
    ∷ ((legal, example, 3, 0)
    ∷ ((legal, example, 6, 0)
    ∷ ((plan [] 0 2, example, 1, 1)
    ∷ ((plan (40 ∷ (34 ∷ (99999999 ∷ []))) 0 2, example, 1, 2)
    ∷ ((plan cuts 2 4097, example, 1, 3)
    ∷ ((lasting 0 cuts 0 2, example, 1, 3)
    ∷ ((lasting 0 cuts 2 2, example, 1, 18)
    ∷ ((lasting 1441 cuts 2 3, example, 3, 18)
    ∷ ((lasting 0 cuts 2 2, [], 3, 18)
    ∷ ((plan cuts 2 3, example, 3, 4)
    ∷ ((legal, 0 ∷ example, 3, 4)
    ∷ ((legal, [], 3, 4)
    ∷ ((legal, [], 1, 4)
    ∷ ((legal, example, 1, 4)
    ∷ ((legal, example, 2, 4)
    ∷ ((legal, example, 4, 4)
    ∷ ((legal, example, 5, 4)
    ∷ ((legal, overfull, 4, 4)
    ∷ ((legal, overfull, 3, 5)
    ∷ ((legal, overfull, 0, 5)
    ∷ ((legal, astray, 5, 4)
    ∷ ((legal, astray, 6, 5)
    ∷ []))))))))))))))))))))))

numbers-hold : map (λ (c : Case). words_number c.0 c.1 c.2) numbers ≡ map (λ (c : Case). c.3) numbers
unfolding words_number whole_check plan_number first_of cover cuts_of minimum_check rows_length fits_rows legal_plan
    rows_unsound sound_rows sound_row_part sound_part row_at_home legal_row row_number label_check item_check
    valid_check durable durability counted records_in home home_of
numbers-hold = refl
