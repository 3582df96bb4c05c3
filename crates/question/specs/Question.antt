-- Point queries on the rows store (document 02, (g): a screenful of questions): what each answer becomes, and how many
-- rows are read. The laws are in proofs/Answers.antt, closed cases in proofs/Cases.antt.
use Rattle.std.specs.Prelude.{Bool, ◌&&◌, List, [], ◌∷◌, map, ℕ, ◌-◌, min, leb, eqb}
use Rattle.lists.specs.Choice.{pick}
use Rattle.lists.specs.Members.{keep, tally, total, up_from}
use Rattle.label.specs.Label.{label_check}
use Rattle.interval.specs.Time.{calendar_end, contains}
use Rattle.interval.specs.declared.tuple.Row.{Row}
use Rattle.plan.specs.Plan.{home}
use Rattle.plan.specs.declared.Partitioning.{Partitioning}
use Rattle.part.specs.Part.{counted}
use Rattle.store.specs.Store.{row_part}
use Rattle.question.specs.declared.Question.{Question}

-- "A label or minute out of range gets 0": the question's own checks
unfoldable pub legal_question : Question → Bool
legal_question q = eqb (label_check q.label) 0 && leb q.minute.0 calendar_end

-- a row "with that label whose span contains that minute"
unfoldable pub row_meets : Question → Row → Bool
row_meets q r = eqb r.label q.label && contains r.valid q.minute

-- "each answer becomes the number of rows with that label whose span contains that minute. A label or minute out of
-- range gets 0."
unfoldable pub answer_in : List Row → Question → ℕ
answer_in rs q = pick (legal_question q) (tally (row_meets q) rs) 0

-- the question with that answer, and with its own: nothing else of it changes, and the old answer is not read
abbrev pub with_answer : ℕ → Question → Question
with_answer n q = record { label = q.label; minute = q.minute; answer = n }

abbrev pub answered : List Row → Question → Question
answered rs q = with_answer (answer_in rs q) q

-- "the smallest legal minute in the list": the legal minutes, whatever the labels beside them; the smallest of a list
unfoldable pub legal_minutes : List Question → List ℕ
legal_minutes qs = keep (λ m. leb m calendar_end) (map (λ (q : Question). q.minute.0) qs)

abbrev pub smallest : ℕ → List ℕ → ℕ
smallest m [] = m
smallest m (k ∷ ks) = min m (smallest k ks)

-- "the number stored from the lane of the smallest legal minute in the list up to lane n"
unfoldable pub stored_from : Partitioning → List ℕ → ℕ → ℕ
stored_from p rows i = total (λ j. counted (row_part p rows j)) (up_from i (p.count - i))

-- "With no legal minute it is 0."
abbrev pub read_for : Partitioning → List ℕ → List ℕ → ℕ
read_for p rows [] = 0
read_for p rows (m ∷ ms) = stored_from p rows (home p (smallest m ms))

-- "the rows read"
unfoldable pub rows_read : Partitioning → List ℕ → List Question → ℕ
rows_read p rows qs = read_for p rows (legal_minutes qs)
