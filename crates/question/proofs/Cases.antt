-- Closed cases that compute, from the definitions that the promises cite: what each answer becomes, and how many rows
-- are read, of two small stores; labels and minutes out of range where rows with them would be there.
-- Assumes nothing.
use mathlib.Core.List.{List, [], ◌∷◌, ◌++◌, map}
use mathlib.Core.Path.{◌≡◌, refl}
use Prim.Native.Nat.{ℕ, ◌-◌, ◌*◌}
use lib.ListN.{length, replicate}
use Rattle.lists.specs.Choice.{first_of}
use Rattle.lists.specs.Members.{gather}
use Rattle.label.specs.Label.{label_check}
use Rattle.interval.specs.Time.{contains, durability, durable}
use Rattle.interval.specs.Tuple.{row, row_words, item_check, valid_check, row_number, legal_row}
use Rattle.interval.specs.declared.tuple.Row.{Row}
use Rattle.plan.specs.Plan.{cuts_of, cover, minimum_check, plan_number, legal_plan, home_of, home}
use Rattle.plan.specs.declared.Partitioning.{Partitioning}
use Rattle.part.specs.Part.{counted, records_in, rows_in, sound_part}
use Rattle.store.specs.Store.{fits_rows, row_at_home, sound_row_part, sound_rows, stored_rows}
use Rattle.checks.specs.Stores.{rows_length, rows_unsound, rows_number}
use Rattle.question.specs.Question.{legal_question, row_meets, answer_in, with_answer, answered}
use Rattle.question.specs.Question.{legal_minutes, stored_from, rows_read}
use Rattle.question.specs.declared.Question.{Question}

-- ---- how a store and a question are written

-- a plan with these last minutes, in 64 places, and with room for that many rows in each lane
abbrev plan : List ℕ → ℕ → Partitioning
plan cuts rows = record {
  count = length cuts;
  lasts = map (λ (m : ℕ). record { 0 = m }) (cuts ++ replicate (64 - length cuts) 7);
  tuples = 1;
  rows = rows;
  minimum = 1;
}

-- a store with these rows, lane by lane
abbrev store : ℕ → List (List Row) → List ℕ
store capacity lanes =
    gather (λ rs. length rs ∷ (gather row_words rs ++ replicate (5 * (capacity - length rs)) 0)) lanes

-- a question: its label, its minute, and its answer before
abbrev ask : ℕ → ℕ → ℕ → Question
ask label minute answer = record { label = label; minute = record { 0 = minute }; answer = answer }

-- document 01's example: its rows are from 30 to 31, at 32, from 33 to 35, from 36 to 40 and from 41 to 48
abbrev example_plan : Partitioning
example_plan = plan (34 ∷ (40 ∷ (99999999 ∷ []))) 2

abbrev example : List ℕ
example =
    store 2
    ((row 38 10 1 30 31 ∷ (row 38 11 1 32 32 ∷ []))
    ∷ ((row 38 10 1 33 35 ∷ (row 38 10 2 36 40 ∷ []))
    ∷ ((row 38 11 2 41 48 ∷ [])
    ∷ [])))

-- equal rows, rows with a minute in common, a row that starts in a lane below its own, two other labels, one of them
-- the last, and the last minute
abbrev crowd_plan : Partitioning
crowd_plan = plan (9 ∷ (99999999 ∷ [])) 4

abbrev crowd : List ℕ
crowd =
    store 4
    ((row 1 1 1 0 5 ∷ (row 1 1 1 0 5 ∷ (row 1 2 1 3 9 ∷ [])))
    ∷ ((row 1 2 2 9 20
    ∷ (row 2 1 1 4 12 ∷ (row 217180147158 1 1 99999999 99999999 ∷ (row 1 1 1 15 20 ∷ []))))
    ∷ []))

-- both are sound stores: no check of 1 to 5 applies
sound-hold : (rows_number example_plan example ≡ 0) × (rows_number crowd_plan crowd ≡ 0)
unfolding rows_number plan_number first_of cover cuts_of minimum_check rows_length fits_rows legal_plan rows_unsound
    sound_rows sound_row_part sound_part row_at_home legal_row row_number label_check item_check valid_check durable
    durability counted records_in home home_of
sound-hold = (refl, refl)

-- ---- answers

-- the question, and what its answer becomes, whatever it was
abbrev Asked : Type 0
Asked = Question × ℕ

abbrev hold : List Row → List Asked → Type 0
hold rs cases =
    map (λ (c : Asked). answered rs c.0) cases ≡ map (λ (c : Asked). with_answer c.1 c.0) cases

-- of the example: before its rows, at each end of each of them, after them; another label; labels out of range and the
-- last label; the calendar's last minute and the one after it
abbrev of_example : List Asked
of_example =
    (ask 38 29 0, 0)
    ∷ ((ask 38 30 0, 1)
    ∷ ((ask 38 31 5, 1)
    ∷ ((ask 38 32 1, 1)
    ∷ ((ask 38 33 18446744073709551615, 1)
    ∷ ((ask 38 35 0, 1)
    ∷ ((ask 38 36 2, 1)
    ∷ ((ask 38 40 0, 1)
    ∷ ((ask 38 41 0, 1)
    ∷ ((ask 38 48 0, 1)
    ∷ ((ask 38 49 9, 0)
    ∷ ((ask 39 33 9, 0)
    ∷ ((ask 0 33 9, 0)
    ∷ ((ask 217180147159 33 9, 0)
    ∷ ((ask 217180147158 33 9, 0)
    ∷ ((ask 38 99999999 9, 0)
    ∷ ((ask 38 100000000 9, 0)
    ∷ []))))))))))))))))

-- of the other store
abbrev of_crowd : List Asked
of_crowd =
    (ask 1 0 0, 2)
    ∷ ((ask 1 3 0, 3)
    ∷ ((ask 1 5 3, 3)
    ∷ ((ask 1 6 3, 1)
    ∷ ((ask 1 9 0, 2)
    ∷ ((ask 1 10 0, 1)
    ∷ ((ask 1 15 0, 2)
    ∷ ((ask 1 21 4, 0)
    ∷ ((ask 2 3 0, 0)
    ∷ ((ask 2 4 0, 1)
    ∷ ((ask 2 12 0, 1)
    ∷ ((ask 217180147158 99999999 0, 1)
    ∷ ((ask 217180147158 99999998 1, 0)
    ∷ []))))))))))))

-- of rows that no sound store has: "A label or minute out of range gets 0" all the same
abbrev strange : List Row
strange = row 0 1 1 0 9 ∷ (row 217180147159 1 1 0 9 ∷ (row 7 1 1 99999990 100000009 ∷ []))

abbrev of_strange : List Asked
of_strange =
    (ask 0 5 3, 0)
    ∷ ((ask 217180147159 5 3, 0)
    ∷ ((ask 7 99999999 3, 1)
    ∷ ((ask 7 100000000 3, 0)
    ∷ ((ask 7 18446744073709551615 3, 0)
    ∷ []))))

answers-hold : hold (stored_rows example_plan example) of_example
    × hold (stored_rows crowd_plan crowd) of_crowd
    × hold strange of_strange
unfolding stored_rows rows_in records_in counted answer_in legal_question label_check row_meets contains
answers-hold = (refl, refl, refl)

-- ---- rows read

-- labels and minutes of a list of questions, and the rows read for it
abbrev Reading : Type 0
Reading = List (ℕ × ℕ) × ℕ

abbrev reads : Partitioning → List ℕ → List Reading → Type 0
reads p rows cases =
    map (λ (c : Reading). rows_read p rows (map (λ (q : ℕ × ℕ). ask q.0 q.1 3) c.0)) cases
    ≡ map (λ (c : Reading). c.1) cases

-- of the example, whose lanes hold 2, 2 and 1 rows: the smallest minute in lane 1, at both of its ends, in lane 2 and
-- in lane 3; wherever it stands in the list; a smallest minute whose label is out of range; minutes out of range beside
-- others and alone; no question
abbrev read_example : List Reading
read_example =
    (((38, 0) ∷ []), 5)
    ∷ ((((38, 34) ∷ []), 5)
    ∷ ((((38, 35) ∷ []), 3)
    ∷ ((((38, 40) ∷ []), 3)
    ∷ ((((38, 41) ∷ []), 1)
    ∷ ((((38, 99999999) ∷ []), 1)
    ∷ ((((38, 41) ∷ ((38, 30) ∷ ((38, 35) ∷ []))), 5)
    ∷ ((((38, 36) ∷ ((39, 50) ∷ ((38, 36) ∷ []))), 3)
    ∷ ((((38, 60) ∷ ((38, 41) ∷ [])), 1)
    ∷ ((((0, 30) ∷ ((38, 41) ∷ [])), 5)
    ∷ ((((38, 41) ∷ ((217180147159, 36) ∷ [])), 3)
    ∷ ((((0, 36) ∷ []), 3)
    ∷ ((((38, 100000000) ∷ ((38, 41) ∷ ((38, 18446744073709551615) ∷ []))), 1)
    ∷ ((((38, 100000000) ∷ []), 0)
    ∷ ((((38, 18446744073709551615) ∷ ((0, 100000000) ∷ [])), 0)
    ∷ (([], 0)
    ∷ [])))))))))))))))

-- of the other store, whose lanes hold 3 and 4 rows
abbrev read_crowd : List Reading
read_crowd =
    (((5, 9) ∷ ((5, 10) ∷ [])), 7) ∷ ((((1, 10) ∷ []), 4) ∷ ((((1, 99999999) ∷ ((1, 15) ∷ [])), 4) ∷ (([], 0) ∷ [])))

reads-hold : reads example_plan example read_example × reads crowd_plan crowd read_crowd
unfolding rows_read legal_minutes stored_from counted home home_of cuts_of
reads-hold = (refl, refl)
