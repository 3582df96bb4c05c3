-- The invariant of the loop over the rows of a scan (crate question's `Counting`), of the questions in words.
-- In order: room for the next row, one more, the end.
-- Assumes nothing.
use mathlib.Core.Bool.{true}
use mathlib.Core.List.{List, map}
use mathlib.Core.Path.{◌≡◌, sym, ap, ◌∙◌}
use Prim.Native.Nat.{ℕ}
use lib.ListN.{length}
use Rattle.std.specs.Prelude.{Option, Some, None}
use Rattle.lists.specs.Members.{gather}
use Rattle.cursor.specs.Cursor.{chosen, Advanced}
use Rattle.cursor.specs.declared.Cursor.{Cursor}
use Rattle.cursor.specs.declared.Scan.{Scan}
use Rattle.question.specs.Steps.{with_row, after_rows, room_for}
use Rattle.question.specs.declared.Question.{Question}
use Rattle.question.proofs.Turns.{Counting, counting-room, counting-next, counting-end}
use Rattle.question_words.specs.QuestionWords.{question_words, questions_in}
use Rattle.question_words.specs.QuestionWords.{WholeQuestions, WordsBecame}
use Rattle.question_words.proofs.Words.{questions-words, words-questions}

-- words of the length of whole questions are whole questions
pub whole_long : (ws ws' : List ℕ) → length ws' ≡ length ws → WholeQuestions ws → WholeQuestions ws'
whole_long ws ws' e h = record { whole = rw e h.whole }

-- the questions in words that became those of questions
pub became-questions : {qs : List Question} {ws ws' : List ℕ} → WordsBecame qs ws ws' → questions_in ws' ≡ qs
became-questions {qs} b = rw b.words (questions-words qs)

-- of the rows of a scan, counted for the questions in the words ws, those at this place are left; the words are ws' now
pub record CountingWords (s : Scan) (rows ws : List ℕ) (at : Option Cursor) (ws' : List ℕ) : Type 0 where
  pub counting : Counting s rows (questions_in ws) at (questions_in ws')
  pub whole : WholeQuestions ws'
  pub long : length ws' ≡ length ws

module _ (s : Scan) (rows ws : List ℕ) where
  -- at a row
  module _ (at : Option Cursor) (c : Cursor) (is : at ≡ Some c) {ws' : List ℕ} (k : CountingWords s rows ws at ws') where
    -- there is room for it
    pub words-room : room_for 1 (questions_in ws') ≡ true
    words-room = counting-room s rows (questions_in ws) at c is (questions_in ws') k.counting

    -- it was counted
    pub words-next : (next : Option Cursor) {ws'' : List ℕ} → Advanced s rows c next
        → WordsBecame (map (with_row c.row) (questions_in ws')) ws' ws'' → CountingWords s rows ws next ws''
    words-next next {ws''} adv b = record {
      counting =
          counting-next s rows (questions_in ws) at c is (questions_in ws') k.counting (questions_in ws'')
          (became-questions b) next adv;
      whole = whole_long ws' ws'' b.long k.whole;
      long = b.long ∙ k.long;
    }

  pub words-end : (at : Option Cursor) {ws' : List ℕ} → CountingWords s rows ws at ws' → at ≡ None
      → WordsBecame (after_rows (chosen s rows) (questions_in ws)) ws ws'
  words-end at {ws'} k is =
      let done = counting-end s rows (questions_in ws) at is (questions_in ws') k.counting in
      record { words = sym (words-questions ws' k.whole) ∙ ap (gather question_words) done; long = k.long }
