-- Questions on plain words (specs/QuestionWords): the words of a list of questions, the questions in a list of words.
-- In order: how many words; a question of them, the answer of one written; the questions in the words of questions are
-- these, and whole words are those of their questions.
-- Assumes nothing.
use mathlib.Core.List.{List, [], ◌∷◌, map, ◌++◌}
use mathlib.Core.Path.{◌≡◌, refl, ap, ap₂, ◌∙◌}
use Prim.Native.Nat.{ℕ, zero, suc, ◌+◌, ◌*◌, ◌/◌, ◌<◌}
use native.Mathlib.Nat.{not-suc-le-zero, le_of_suc-le-suc}
use native.Mathlib.Omega.{arith}
use lib.ListN.{length, get_or, set}
use Rattle.lists.specs.Members.{gather, up_from, below}
use Rattle.question.specs.Question.{with_answer}
use Rattle.question.specs.declared.Question.{Question}
use Rattle.question_words.specs.QuestionWords.{question_width, question_words, question_at, questions_in}
use Rattle.question_words.specs.QuestionWords.{WholeQuestions}

-- how many words there are
pub words-length : (qs : List Question) → length (gather question_words qs) ≡ length qs * question_width
words-length [] = refl
words-length (q ∷ qs) = omega (arith, words-length qs)

-- a question after the first
word_after : (q : Question) (ws : List ℕ) (i k : ℕ)
    → get_or (q.label ∷ (q.minute.0 ∷ (q.answer ∷ ws))) (suc i * question_width + k) 0
    ≡ get_or ws (i * question_width + k) 0
word_after q ws i k =
    let e : suc i * question_width + k ≡ suc (suc (suc (i * question_width + k))) = omega arith in
    rw e

question-after : (q : Question) (ws : List ℕ) (i : ℕ) → question_at (question_words q ++ ws) (suc i) ≡ question_at ws i
question-after q ws i = λ k. record {
  label = first k;
  minute = record { 0 = word_after q ws i 1 k };
  answer = word_after q ws i 2 k;
}
  where
    first : get_or (question_words q ++ ws) (suc i * question_width) 0 ≡ get_or ws (i * question_width) 0
    first =
        let e : suc i * question_width ≡ suc (suc (suc (i * question_width))) = omega arith in
        rw e

-- question i of the words of questions
pub words-at : (qs : List Question) (i : ℕ) (d : Question) → i < length qs
    → question_at (gather question_words qs) i ≡ get_or qs i d
words-at [] i d l = absurd (not-suc-le-zero l)
words-at (q ∷ qs) zero d l = refl
words-at (q ∷ qs) (suc i) d l =
    question-after q (gather question_words qs) i ∙ words-at qs i d (le_of_suc-le-suc l)

-- its answer written
pub words-set : (qs : List Question) (i v : ℕ) (d : Question) → i < length qs
    → set (gather question_words qs) (i * question_width + 2) v
    ≡ gather question_words (set qs i (with_answer v (get_or qs i d)))
words-set [] i v d l = absurd (not-suc-le-zero l)
words-set (q ∷ qs) zero v d l = refl
words-set (q ∷ qs) (suc i) v d l =
    let e : suc i * question_width + 2 ≡ suc (suc (suc (i * question_width + 2))) = omega arith in
    rw (e, words-set qs i v d (le_of_suc-le-suc l))

-- the questions in the words of questions are these
questions-up : (q : Question) (ws : List ℕ) (i n : ℕ)
    → map (question_at (question_words q ++ ws)) (up_from (suc i) n) ≡ map (question_at ws) (up_from i n)
questions-up q ws i zero = refl
questions-up q ws i (suc n) = ap₂ ◌∷◌ (question-after q ws i) (questions-up q ws (suc i) n)

questions-below : (qs : List Question) → map (question_at (gather question_words qs)) (below (length qs)) ≡ qs
questions-below [] = refl
questions-below (q ∷ qs) =
    ap (λ (rs : List Question). q ∷ rs) (questions-up q (gather question_words qs) 0 (length qs) ∙ questions-below qs)

pub questions-words : (qs : List Question) → questions_in (gather question_words qs) ≡ qs
unfolding questions_in
questions-words qs =
    let e : length (gather question_words qs) / question_width ≡ length qs = omega (arith, words-length qs) in
    rw e (questions-below qs)

-- whole words are those of questions, and so of the questions in them
words_are : (n : ℕ) (ws : List ℕ) → length ws ≡ n * question_width
    → (qs : List Question) × (ws ≡ gather question_words qs)
words_are zero [] e = ([], refl)
words_are zero (w ∷ ws) e = absurd (omega arith)
words_are (suc n) [] e = absurd (omega arith)
words_are (suc n) (w ∷ []) e = absurd (omega arith)
words_are (suc n) (w ∷ (v ∷ [])) e = absurd (omega arith)
words_are (suc n) (w ∷ (v ∷ (u ∷ ws))) e =
    let rest = words_are n ws (omega arith) in (
      record { label = w; minute = record { 0 = v }; answer = u } ∷ rest.0,
      ap (λ (vs : List ℕ). w ∷ (v ∷ (u ∷ vs))) rest.1,
    )

pub words-questions : (ws : List ℕ) → WholeQuestions ws → gather question_words (questions_in ws) ≡ ws
words-questions ws h =
    let qs = words_are (length ws / question_width) ws h.whole in
    rw qs.1 (ap (gather question_words) (questions-words qs.0))
