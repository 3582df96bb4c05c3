-- The calls on words, for hosts: what a call on them leaves. Each promise cites the record of the call itself.
use Rattle.std.specs.Prelude.{◌&&◌, List, ◌≡◌, ℕ, eqb, length, get_or}
use Rattle.interval.specs.declared.tuple.Tuple.{Tuple}
use Rattle.plan.specs.Plan.{most_partitions}
use Rattle.rows.specs.declared.Side.{Side}
use Rattle.checks.specs.Stores.{Stores, stores}
use Rattle.refusal.specs.Refusal.{answer_number}
use Rattle.checks.specs.Answer.{Answer}
use Rattle.join.specs.Opening.{Opened}
use Rattle.join.specs.Changes.{Changed}
use Rattle.join.specs.Sweeps.{Swept}
use Rattle.join.specs.Repartitioning.{Repartitioned}
use Rattle.join.specs.declared.Kind.{Kind}
use Rattle.requirements.specs.Requirements.{RequirementsOf}
use Rattle.question_words.specs.QuestionWords.{WordsAnswered}
use Rattle.gaps.specs.Listed.{GapsListed}
use Rattle.layout.specs.Layout.{plan_words, minutes, plan_in, words_of, told, refusal, answer_fits, requirements_fit}
use Rattle.layout.specs.Layout.{lent_number, requirements_in, no_requirements}

-- a call that was lent an answer buffer, left buffer', and returned n, where `lent` is the number for lengths. An
-- answer lies in these words, its number first; `none` are those of a refusal. Kept: every other buffer is as it was;
-- Done a: what the call promises of its answer a
pub record Exported {A : Type 0} (words : A → List ℕ) (none : ℕ → List ℕ) (lent : ℕ) (buffer buffer' : List ℕ) (n : ℕ)
    (Kept : Type 0) (Done : A → Type 0) : Type 0 where
  pub refused : (lent ≡ 0 → ⊥) → (n ≡ lent) × (buffer' ≡ told buffer (none lent)) × Kept
  pub called : lent ≡ 0 → (a : A) × (buffer' ≡ words a) × (n ≡ get_or (words a) 0 0) × Done a

-- ---- the promise of each call: of the words that it was lent, in the order of its parameters, of those that it may
-- write as it left them ('), and of the number n that it returned

abbrev pub OpenExported : (plan outer inner rows answer outer' inner' rows' answer' : List ℕ) → ℕ → Type 0
OpenExported plan outer inner rows answer outer' inner' rows' answer' n =
    Exported words_of refusal (lent_number plan (answer_fits answer)) answer answer' n
    (stores outer' inner' rows' ≡ stores outer inner rows)
    (λ a. Opened (plan_in plan) (stores outer inner rows) (stores outer' inner' rows') a)

abbrev pub ChangeExported : Kind → (plan : List ℕ) → Side → Tuple
    → (outer inner rows answer outer' inner' rows' answer' : List ℕ) → ℕ → Type 0
ChangeExported kind plan side t outer inner rows answer outer' inner' rows' answer' n =
    Exported words_of refusal (lent_number plan (answer_fits answer)) answer answer' n
    (stores outer' inner' rows' ≡ stores outer inner rows)
    (λ a. Changed kind (plan_in plan) side t (stores outer inner rows) (stores outer' inner' rows') a)

-- c and d: the two caches
abbrev pub SweepExported : (plan outer inner rows c d answer rows' c' d' answer' : List ℕ) → ℕ → Type 0
SweepExported plan outer inner rows c d answer rows' c' d' answer' n =
    Exported words_of refusal (lent_number plan (answer_fits answer)) answer answer' n
    ((rows' ≡ rows) × (c' ≡ c) × (d' ≡ d))
    (λ a. Swept (plan_in plan) (stores outer inner rows) c d (stores outer inner rows') c' d' a)

-- a recut that was called: its own promise, of the plan that the words say after it; refused, it leaves them as they
-- were
pub record CutsPut (plan cuts plan' : List ℕ) (s s' : Stores) (a : Answer) : Type 0 where
  pub made : Repartitioned (plan_in plan) (minutes cuts) s s' a (plan_in plan')
  pub long : length plan' ≡ plan_words
  pub kept : (answer_number a ≡ 0 → ⊥) → plan' ≡ plan

abbrev pub CutsExported : (plan cuts outer inner rows answer plan' outer' inner' rows' answer' : List ℕ) → ℕ → Type 0
CutsExported plan cuts outer inner rows answer plan' outer' inner' rows' answer' n =
    Exported words_of refusal (lent_number plan (answer_fits answer && eqb (length cuts) most_partitions)) answer answer' n
    ((plan' ≡ plan) × (stores outer' inner' rows' ≡ stores outer inner rows))
    (λ a. CutsPut plan cuts plan' (stores outer inner rows) (stores outer' inner' rows') a)

abbrev pub RequirementsExported : (plan outer inner report answer report' answer' : List ℕ) → ℕ → Type 0
RequirementsExported plan outer inner report answer report' answer' n =
    Exported requirements_in no_requirements (lent_number plan (requirements_fit answer)) answer answer' n
    (report' ≡ report) (λ r. RequirementsOf (plan_in plan) outer inner report report' r)

-- a screenful of questions, three words each
abbrev pub QuestionsExported : (plan rows questions answer questions' answer' : List ℕ) → ℕ → Type 0
QuestionsExported plan rows questions answer questions' answer' n =
    Exported words_of refusal (lent_number plan (answer_fits answer)) answer answer' n
    (questions' ≡ questions) (λ a. WordsAnswered (plan_in plan) rows questions questions' a)

-- minutes without a spot, a tuple's words for each record
abbrev pub GapsExported : (plan outer inner gaps answer gaps' answer' : List ℕ) → ℕ → Type 0
GapsExported plan outer inner gaps answer gaps' answer' n =
    Exported words_of refusal (lent_number plan (answer_fits answer)) answer answer' n
    (gaps' ≡ gaps) (λ a. GapsListed (plan_in plan) outer inner gaps gaps' a)
