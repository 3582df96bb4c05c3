-- Questions asked of a wall that is kept current (demand 3): they are never refused for plan and store, and each answer
-- counts the rows of the machine's drawings and spots, by the minimum in force. Over the records that
-- `questions::answer` and `question_words::answer` promise.
use Rattle.std.specs.Prelude.{List, map, ◌≡◌, ℕ, length}
use Rattle.std.proofs.Math.Option.{some}
use Rattle.lists.specs.Members.{gather}
use Rattle.interval.specs.declared.tuple.Row.{Row}
use Rattle.plan.specs.Plan.{most_partitions, plan_number}
use Rattle.plan.specs.declared.Partitioning.{Partitioning}
use Rattle.rows.specs.Join.{join_of}
use Rattle.checks.specs.Stores.{Stores}
use Rattle.refusal.specs.Refusal.{answer_number}
use Rattle.checks.specs.Answer.{Answer}
use Rattle.join.specs.Opening.{Opened}
use Rattle.history.specs.Machine.{Told, Machine, machine_after}
use Rattle.history.specs.Runs.{Run}
use Rattle.question.specs.Question.{answered}
use Rattle.question.specs.declared.Question.{Question}
use Rattle.questions.specs.Answered.{QuestionsAnswered}
use Rattle.question_words.specs.QuestionWords.{whole_check, question_words, questions_in, WordsAnswered}

-- the machine's rows, "those that its drawings and spots make by the rule for rows", under the plan in force
abbrev pub machine_rows : Partitioning → Machine → List Row
machine_rows p m = join_of p.minimum m.outer m.inner

-- asked of a rows store: the questions of a slice, and those of a host's words, where these are whole questions
pub record AnswersFrom (p : Partitioning) (rows : List ℕ) (rs : List Row) : Type 0 where
  pub questions : (qs qs' : List Question) (a : Answer) → QuestionsAnswered p rows qs qs' a
      → (answer_number a ≡ 0) × (qs' ≡ map (answered rs) qs)
  pub words : (ws ws' : List ℕ) (a : Answer) → WordsAnswered p rows ws ws' a → whole_check (length ws) ≡ 0
      → (answer_number a ≡ 0) × (ws' ≡ gather question_words (map (answered rs) (questions_in ws)))

-- for every legal plan, every accepted open and every list of calls after it
abbrev pub CurrentAnswers : Type 0
CurrentAnswers =
    (p : Partitioning) → length p.lasts ≡ most_partitions → plan_number p ≡ 0
    → (s s₀ : Stores) (a : Answer) → Opened p s s₀ a → answer_number a ≡ 0
    → (ts : List Told) (p' : Partitioning) (s' : Stores) → Run p s₀ ts p' s'
    → (m : Machine) → machine_after p ts ≡ some m → AnswersFrom p' s'.rows (machine_rows p' m)
