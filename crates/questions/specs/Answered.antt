-- A screenful of questions (document 02, (g)): what the call answers and leaves in the lent questions. It is lent the
-- rows store to be read, and no other store: "only store 3 looked at".
use Rattle.std.specs.Prelude.{List, map, ◌≡◌, ℕ}
use Rattle.plan.specs.declared.Partitioning.{Partitioning}
use Rattle.store.specs.Store.{stored_rows}
use Rattle.checks.specs.Stores.{rows_number}
use Rattle.refusal.specs.Refusal.{answer_number}
use Rattle.checks.specs.Answer.{Answer, changed_of, examined_of}
use Rattle.question.specs.Question.{answered, rows_read}
use Rattle.question.specs.declared.Question.{Question}

-- the questions qs became qs'. "Refusals are 1 to 5 .. and leave all answers unchanged." The second count, `examined`,
-- is the rows read; the first is 0 (document 01: "0 where none is named")
pub record QuestionsAnswered (p : Partitioning) (rows : List ℕ) (qs qs' : List Question) (a : Answer) : Type 0 where
  pub number : answer_number a ≡ rows_number p rows
  pub changed : changed_of a ≡ 0
  pub refused : (answer_number a ≡ 0 → ⊥) → (qs' ≡ qs) × (examined_of a ≡ 0)
  pub accepted : answer_number a ≡ 0 → (qs' ≡ map (answered (stored_rows p rows)) qs) × (examined_of a ≡ rows_read p rows qs)
