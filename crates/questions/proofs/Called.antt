-- What the call answers, put together from what the functions that it calls say.
-- Assumes nothing.
use mathlib.Core.List.{List, map}
use mathlib.Core.Path.{◌≡◌, refl, sym, ◌∙◌}
use Prim.Native.Nat.{ℕ}
use Rattle.refusal.specs.Refusal.{number}
use Rattle.refusal.specs.declared.Refusal.{Refusal}
use Rattle.refusal.proofs.Answering.{number-above}
use Rattle.plan.specs.declared.Partitioning.{Partitioning}
use Rattle.store.specs.Store.{stored_rows}
use Rattle.checks.specs.Stores.{rows_number, Says, Counts}
use Rattle.checks.specs.Answer.{Answer}
use Rattle.question.specs.Question.{answered, rows_read}
use Rattle.question.specs.declared.Question.{Question}
use Rattle.questions.specs.Answered.{QuestionsAnswered}

-- a refusal: no question changed
pub refusal : (p : Partitioning) (rows : List ℕ) (qs : List Question) (a : Answer) (r : Refusal)
    → number r ≡ rows_number p rows → Says a (number r) → QuestionsAnswered p rows qs qs a
refusal p rows qs a r e h = record {
  number = h.0 ∙ e;
  changed = h.1.0;
  refused = λ _. (refl, h.1.1);
  accepted = λ z. absurd (number-above r (sym h.0 ∙ z));
}

-- no refusal: the questions are answered
pub acceptance : (p : Partitioning) (rows : List ℕ) (qs zs : List Question) (a : Answer) (n : ℕ)
    → rows_number p rows ≡ 0 → zs ≡ map (answered (stored_rows p rows)) qs → n ≡ rows_read p rows qs → Counts a 0 n
    → QuestionsAnswered p rows qs zs a
acceptance p rows qs zs a n e e₁ e₂ h = record {
  number = h.0 ∙ sym e;
  changed = h.1.0;
  refused = λ z. absurd (z h.0);
  accepted = λ _. (e₁, h.1.1 ∙ e₂);
}
