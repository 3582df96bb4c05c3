-- The invariants of the loops over the questions in words: the first i were changed by f, which changes their answers
-- alone; the window of those that are passed.
-- In order: how many questions there are; the start, the next question, one more, the end; a row with another label;
-- the window.
-- Assumes nothing.
use mathlib.Core.List.{List, map}
use mathlib.Core.Path.{◌≡◌, sym, ap, ap₂, ◌∙◌}
use Prim.Native.Nat.{ℕ, ◌+◌, ◌*◌, ◌/◌, ◌≤◌, ◌<◌}
use native.Mathlib.Numerals.{add-one}
use native.Mathlib.Omega.{arith}
use lib.ListN.{length, get_or, set, drop, length-map}
use borrow.Author.Tests.{ne_eqb}
use Rattle.lists.specs.Members.{gather, below}
use Rattle.lists.proofs.Below.{length-below}
use Rattle.lists.proofs.Front.{front, front_length, front-next, front-set, front_same, front-all}
use Rattle.interval.specs.declared.time.Interval.{Interval}
use Rattle.interval.specs.declared.tuple.Row.{Row}
use Rattle.question.specs.Question.{row_meets, with_answer}
use Rattle.question.specs.Steps.{with_row, widened_by, widened_all, no_window, window_of}
use Rattle.question.specs.declared.Question.{Question}
use Rattle.question.proofs.Windows.{window-first, window-next, window-last}
use Rattle.question_words.specs.QuestionWords.{question_width, question_words, question_at, questions_in}
use Rattle.question_words.specs.QuestionWords.{WholeQuestions, WordsBecame}
use Rattle.question_words.proofs.Words.{words-length, words-at, words-set, words-questions}

-- how many questions there are
pub questions-length : (ws : List ℕ) → length (questions_in ws) ≡ length ws / question_width
unfolding questions_in
questions-length ws =
    length-map (below (length ws / question_width)) (question_at ws) ∙ length-below (length ws / question_width)

-- the words ws, of which the first i questions were changed by f, became ws'
pub record Changed (f : Question → Question) (ws : List ℕ) (i : ℕ) (ws' : List ℕ) : Type 0 where
  pub passed : i ≤ length ws / question_width
  pub words : ws' ≡ gather question_words (front f i (questions_in ws))

module _ (f : Question → Question) (ws : List ℕ) where
  pub changed-none : WholeQuestions ws → Changed f ws 0 ws
  changed-none h = record { passed = omega arith; words = sym (words-questions ws h) }

  pub changed-length : WholeQuestions ws → (i : ℕ) {ws' : List ℕ} → Changed f ws i ws' → length ws' ≡ length ws
  changed-length h i {ws'} s =
      ap length s.words ∙ words-length (front f i (questions_in ws))
      ∙ ap (λ (n : ℕ). n * question_width) (front_length f i (questions_in ws) ∙ questions-length ws) ∙ sym h.whole

  -- the next question is as it was
  pub changed-next : (i : ℕ) {ws' : List ℕ} → Changed f ws i ws' → i < length ws / question_width → (d : Question)
      → question_at ws' i ≡ get_or (questions_in ws) i d
  changed-next i {ws'} s l d =
      let m : i < length (front f i (questions_in ws)) =
      omega (arith, front_length f i (questions_in ws), questions-length ws) in
      ap (λ (vs : List ℕ). question_at vs i) s.words ∙ words-at (front f i (questions_in ws)) i d m
      ∙ front-next f i (questions_in ws) d

  -- its answer written
  pub changed-more : ((q : Question) → f q ≡ with_answer (f q).answer q) → (i : ℕ) {ws' : List ℕ} → Changed f ws i ws'
      → i < length ws / question_width → (x : Question) → x ≡ f (question_at ws' i)
      → Changed f ws (i + 1) (set ws' (i * question_width + 2) x.answer)
  changed-more keeps i {ws'} s l x e = record { passed = omega arith; words = written }
    where
      d : Question
      d = question_at ws' i

      now : List Question
      now = front f i (questions_in ws)

      q : Question
      q = get_or now i d

      m : i < length (questions_in ws)
      m = omega (arith, questions-length ws)

      here : x ≡ f q
      here = e ∙ ap f (changed-next i s l d ∙ sym (front-next f i (questions_in ws) d))

      written : set ws' (i * question_width + 2) x.answer ≡ gather question_words (front f (i + 1) (questions_in ws))
      written =
          ap₂ (λ (vs : List ℕ) (y : Question). set vs (i * question_width + 2) y.answer) s.words here
          ∙ words-set now i (f q).answer d (rw (front_length f i (questions_in ws)) m)
          ∙ ap (λ (x : Question). gather question_words (set now i x)) (sym (keeps q))
          ∙ ap (gather question_words) (front-set f i (questions_in ws) d m)
          ∙ ap (λ (n : ℕ). gather question_words (front f n (questions_in ws))) (sym (add-one i))

  -- or left as it is, where f does so
  pub changed-same : (i : ℕ) {ws' : List ℕ} → Changed f ws i ws' → i < length ws / question_width
      → f (question_at ws' i) ≡ question_at ws' i → Changed f ws (i + 1) ws'
  changed-same i {ws'} s l e = record {
    passed = omega arith;
    words =
        s.words
        ∙ ap (gather question_words) (sym (front_same f i (questions_in ws) (question_at ws' i)
        (omega (arith, questions-length ws)) (rw (changed-next i s l (question_at ws' i)) at e)))
        ∙ ap (λ (n : ℕ). gather question_words (front f n (questions_in ws))) (sym (add-one i));
  }

  pub changed-all : WholeQuestions ws → (i : ℕ) {ws' : List ℕ} → Changed f ws i ws' → length ws / question_width ≤ i
      → WordsBecame (map f (questions_in ws)) ws ws'
  changed-all h i {ws'} s l =
      let e : i ≡ length (questions_in ws) = omega (arith, questions-length ws, s.passed) in
      record {
        words = s.words ∙ ap (λ (n : ℕ). gather question_words (front f n (questions_in ws))) e
            ∙ ap (gather question_words) (front-all f (questions_in ws));
        long = changed-length h i s;
      }

-- a row with another label leaves a question as it is
pub other-label : (r : Row) (q : Question) → (q.label ≡ r.label → ⊥) → with_row r q ≡ q
unfolding row_meets
other-label r q ne = rw (ne_eqb r.label q.label (λ e. ne (sym e)))

-- the window of the first i questions in the words: widened by those that are left, it is that of all
abbrev pub Window : List ℕ → ℕ → Interval → Type 0
Window ws i v = widened_all v (drop i (questions_in ws)) ≡ window_of (questions_in ws)

module _ (ws : List ℕ) where
  pub window-none : (v : Interval) → v ≡ no_window → Window ws 0 v
  window-none v e = ap (λ (u : Interval). widened_all u (questions_in ws)) e ∙ window-first (questions_in ws)

  pub window_more : (i : ℕ) (v : Interval) (q : Question) → Window ws i v → i < length ws / question_width
      → q ≡ get_or (questions_in ws) i q → (v' : Interval) → v' ≡ widened_by v q → Window ws (i + 1) v'
  window_more i v q h l at v' e =
      let m : i < length (questions_in ws) = omega (arith, questions-length ws) in
      rw (e ∙ ap (widened_by v) at, add-one) (sym (window-next v (questions_in ws) i q m) ∙ h)

  pub window-all : (i : ℕ) (v : Interval) → Window ws i v → length ws / question_width ≤ i
      → v ≡ window_of (questions_in ws)
  window-all i v h l =
      let m : length (questions_in ws) ≤ i = omega (arith, questions-length ws) in
      sym (window-last v (questions_in ws) i m) ∙ h
