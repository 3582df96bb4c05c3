-- The steps of the call on the questions in the words, where the checks passed: the scan that is made for them, the
-- room for its rows, the words that it leaves and the rows that it reads.
-- Assumes nothing.
use mathlib.Core.Bool.{true}
use mathlib.Core.List.{List, map}
use mathlib.Core.Path.{◌≡◌, ap, ◌∙◌}
use Prim.Native.Nat.{ℕ}
use lib.ListN.{length}
use Rattle.lists.specs.Members.{gather}
use Rattle.plan.specs.declared.Partitioning.{Partitioning}
use Rattle.store.specs.Store.{stored_rows}
use Rattle.checks.specs.Stores.{rows_number}
use Rattle.cursor.specs.Cursor.{scanned, chosen, Scannable}
use Rattle.cursor.specs.declared.Scan.{Scan}
use Rattle.question.specs.Question.{with_answer, answered, rows_read}
use Rattle.question.specs.Steps.{after_rows, room_for, window_of, scan_of}
use Rattle.question.proofs.Answers.{scannable, room, answers, read}
use Rattle.question_words.specs.QuestionWords.{question_words, questions_in, WordsBecame}
use Rattle.question_words.proofs.Scans.{became-questions}

module _ (p : Partitioning) (rows ws : List ℕ) (known : rows_number p rows ≡ 0) (scan : Scan)
    (made : scan ≡ scan_of p (window_of (questions_in ws))) where
  pub scan-starts : Scannable scan rows
  scan-starts = rw made (scannable p rows known (questions_in ws))

  pub scan-room : {ws' : List ℕ} → WordsBecame (map (with_answer 0) (questions_in ws)) ws ws'
      → room_for (length (chosen scan rows)) (questions_in ws') ≡ true
  scan-room b = rw (made, became-questions b) (room p rows known (questions_in ws))

  pub scan-answers : {ws' ws'' : List ℕ} → WordsBecame (map (with_answer 0) (questions_in ws)) ws ws'
      → WordsBecame (after_rows (chosen scan rows) (questions_in ws')) ws' ws''
      → ws'' ≡ gather question_words (map (answered (stored_rows p rows)) (questions_in ws))
  scan-answers {ws'} {ws''} b c = c.words ∙ ap (gather question_words) after
    where
      after : after_rows (chosen scan rows) (questions_in ws') ≡ map (answered (stored_rows p rows)) (questions_in ws)
      after = rw (made, became-questions b) (answers p rows known (questions_in ws))

  pub scan-read : length (scanned scan rows) ≡ rows_read p rows (questions_in ws)
  scan-read = rw made (read p rows known (questions_in ws))
