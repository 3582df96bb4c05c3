-- A screenful of questions on plain words: how a question lies in them, and what the call answers and leaves. What an
-- answer is stands in crate question.
use Rattle.std.specs.Prelude.{not, List, [], ◌∷◌, map, ◌≡◌, ℕ, ◌+◌, ◌*◌, ◌/◌, ◌%◌, eqb, length, get_or}
use Rattle.lists.specs.Choice.{refuse_if, first_of}
use Rattle.lists.specs.Members.{gather, below}
use Rattle.plan.specs.Plan.{plan_number}
use Rattle.plan.specs.declared.Partitioning.{Partitioning}
use Rattle.store.specs.Store.{stored_rows}
use Rattle.checks.specs.Stores.{rows_length, rows_unsound}
use Rattle.refusal.specs.Refusal.{answer_number}
use Rattle.checks.specs.Answer.{Answer, changed_of, examined_of}
use Rattle.question.specs.Question.{answered, rows_read}
use Rattle.question.specs.declared.Question.{Question}

-- "each a label number, a minute and a place for the answer": three words, in that order
abbrev pub question_width : ℕ
question_width = 3

abbrev pub question_words : Question → List ℕ
question_words q = q.label ∷ (q.minute.0 ∷ (q.answer ∷ []))

-- question i, counted from 0, and all that the words hold
abbrev pub question_at : List ℕ → ℕ → Question
question_at ws i =
    let at = i * question_width in
    record { label = get_or ws at 0; minute = record { 0 = get_or ws (at + 1) 0 }; answer = get_or ws (at + 2) 0 }

unfoldable pub questions_in : List ℕ → List Question
questions_in ws = map (question_at ws) (below (length ws / question_width))

-- check 4 of that many words: they are no whole number of questions
unfoldable pub whole_check : ℕ → ℕ
whole_check words = refuse_if (not (eqb (words % question_width) 0)) 4

-- checks 1 to 5, "with only store 3 looked at"; the words' length falls under 4
unfoldable pub words_number : Partitioning → List ℕ → ℕ → ℕ
words_number p rows words =
    first_of
    (plan_number p ∷ (rows_length p (length rows) ∷ (whole_check words ∷ (rows_unsound p rows ∷ []))))

-- the words ws became ws'. "Refusals are 1 to 5 .. and leave all answers unchanged." The second count is the rows read
pub record WordsAnswered (p : Partitioning) (rows ws ws' : List ℕ) (a : Answer) : Type 0 where
  pub number : answer_number a ≡ words_number p rows (length ws)
  pub changed : changed_of a ≡ 0
  pub refused : (answer_number a ≡ 0 → ⊥) → (ws' ≡ ws) × (examined_of a ≡ 0)
  pub accepted : answer_number a ≡ 0
      → (ws' ≡ gather question_words (map (answered (stored_rows p rows)) (questions_in ws)))
      × (examined_of a ≡ rows_read p rows (questions_in ws))

-- ---- what the steps promise one another

-- a whole number of questions
pub record WholeQuestions (ws : List ℕ) : Type 0 where
  pub whole : length ws ≡ length ws / question_width * question_width

-- the words ws became those of the questions qs, as many
pub record WordsBecame (qs : List Question) (ws ws' : List ℕ) : Type 0 where
  pub words : ws' ≡ gather question_words qs
  pub long : length ws' ≡ length ws
