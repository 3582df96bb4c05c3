-- On a wall that is kept current the answers count the machine's rows.
-- Assumes nothing.
use mathlib.Core.List.{List, map}
use mathlib.Core.Option.{Option, some, none}
use mathlib.Core.Path.{◌≡◌, sym, ◌∙◌, ap, subst}
use Prim.Native.Nat.{ℕ}
use lib.ListN.{length}
use Rattle.lists.specs.Choice.{first_of}
use Rattle.lists.specs.Members.{gather}
use Rattle.lists.specs.Same.{Same}
use Rattle.interval.specs.Tuple.{same_row}
use Rattle.interval.specs.declared.tuple.Row.{Row}
use Rattle.plan.specs.declared.Partitioning.{Partitioning}
use Rattle.store.specs.Store.{stored_rows}
use Rattle.store.proofs.StoreLoops.{given-rows}
use Rattle.checks.specs.Stores.{rows_number, SoundStore}
use Rattle.checks.proofs.Checks.{store-sound, fit-rows, sound-rows}
use Rattle.history.specs.Machine.{Machine}
use Rattle.history.proofs.Current.{opened-kept, run-kept}
use Rattle.history.proofs.Repartitions.{stored-join}
use Rattle.question.specs.Question.{with_answer, answered}
use Rattle.question.specs.declared.Question.{Question}
use Rattle.question.proofs.Counted.{counts_same}
use Rattle.question_words.specs.QuestionWords.{whole_check, words_number, question_words, questions_in}
use Rattle.current_answers.specs.Answers.{machine_rows, AnswersFrom, CurrentAnswers}

-- a sound rows store that holds these rows, each as often
module _ (p : Partitioning) (rows : List ℕ) (rs : List Row) (s : SoundStore p rows)
    (held : Same same_row (stored_rows p rows) rs) where
  passed : rows_number p rows ≡ 0
  passed = store-sound p rows s

  words-none : (ws : List ℕ) → whole_check (length ws) ≡ 0 → words_number p rows (length ws) ≡ 0
  unfolding words_number first_of
  words-none ws w =
      rw (
        s.legal,
        fit-rows p (length rows) (given-rows p (length rows) (s.legal, s.long)),
        w,
        sound-rows p rows s.sound,
      )

  counted : (qs : List Question) → map (answered (stored_rows p rows)) qs ≡ map (answered rs) qs
  counted qs = λ i. map (λ (q : Question). with_answer (counts_same p rows rs held q i) q) qs

  pub answers-from : AnswersFrom p rows rs
  answers-from = record {
    questions = λ qs qs' a h. let z = h.number ∙ passed in (z, (h.accepted z).0 ∙ counted qs);
    words = λ ws ws' a h w.
        let z = h.number ∙ words-none ws w in
        (z, (h.accepted z).0 ∙ ap (gather question_words) (counted (questions_in ws)));
  }

-- the machine that is there, or another
abbrev machine_or : Machine → Option Machine → Machine
machine_or m (some n) = n
machine_or m none = m

pub current-answers : CurrentAnswers
current-answers p places legal s s₀ a o z ts p' s' run m e =
    let h = run-kept (opened-kept p places legal s s₀ a o z) run in
    let k = h.2 in
    let same : h.0 ≡ m = ap (machine_or m) (sym h.1 ∙ e) in
    subst (λ (n : Machine). AnswersFrom p' s'.rows (machine_rows p' n)) same
    (answers-from p' s'.rows (machine_rows p' h.0)
    (record { legal = k.legal; long = k.rows.long; sound = k.rows.sound }) (stored-join h.0 p' s' k))
