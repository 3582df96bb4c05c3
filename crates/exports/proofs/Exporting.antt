-- Laws of exported calls: what a call leaves, refused for a length and called; and its promise for what the words say.
-- What a call leaves that is refused for a length the check finds alone: `exported-refused` and `requirements-refused`
-- say it for docs/TRACE.md, which cites them.
-- Assumes nothing.
use mathlib.Core.Bool.{Bool, true, false}
use mathlib.Core.List.{List, [], ◌∷◌}
use mathlib.Core.Path.{◌≡◌, refl, sym, ◌∙◌, ap, subst}
use Prim.Native.Nat.{ℕ}
use lib.ListN.{length}
use Rattle.lists.proofs.Choice.{pick_true}
use Rattle.interval.specs.declared.time.Chronon.{Chronon}
use Rattle.interval.specs.declared.tuple.Tuple.{Tuple}
use Rattle.plan.specs.Plan.{most_partitions}
use Rattle.plan.specs.declared.Partitioning.{Partitioning}
use Rattle.rows.specs.declared.Side.{Side}
use Rattle.std.specs.Prelude.{Ok, Err, is_err}
use Rattle.std.proofs.lemmas.Bool.{false≢true}
use Rattle.refusal.specs.Refusal.{answer_number}
use Rattle.refusal.proofs.Answering.{number-above}
use Rattle.checks.specs.Stores.{Stores, Says}
use Rattle.checks.specs.Answer.{Answer}
use Rattle.join.specs.Opening.{Opened}
use Rattle.join.specs.Changes.{Changed}
use Rattle.join.specs.Sweeps.{Swept}
use Rattle.join.specs.Repartitioning.{Repartitioned}
use Rattle.join.specs.declared.Kind.{Kind}
use Rattle.requirements.specs.Requirements.{RequirementsOf}
use Rattle.sweep_count.specs.Required.{Requirements}
use Rattle.layout.specs.Layout.{plan_words, plan_in, words_of, told, refusal, answer_fits, requirements_fit}
use Rattle.layout.specs.Layout.{lent_number, requirements_in, no_requirements}
use Rattle.layout.proofs.Lent.{lent_fits}
use Rattle.layout.proofs.Words.{put_lasts, plan-put-cuts}
use Rattle.exports.specs.Exports.{Exported, ChangeExported, RequirementsExported}

-- ---- the call

-- a refusal's words
said-refusal : (a : Answer) (n : ℕ) → Says a n → words_of a ≡ refusal n
said-refusal a n s = λ k. s.0 k ∷ (s.1.0 k ∷ (s.1.1 k ∷ []))

module _ {Kept : Type 0} {Done : Answer → Type 0} (lent : ℕ) (buffer : List ℕ) where
  -- a length is wrong: the answer says so, where it has three words
  pub exported-refused : (buffer' : List ℕ) (m n : ℕ) (a : Answer) → m ≡ lent → (m ≡ 0 → ⊥) → Says a m
      → (buffer' ≡ told buffer (words_of a)) × (n ≡ answer_number a) → Kept
      → Exported words_of refusal lent buffer buffer' n Kept Done
  exported-refused buffer' m n a e ne s t k = record {
    refused = λ z. (t.1 ∙ s.0 ∙ e, t.0 ∙ ap (told buffer) (said-refusal a m s ∙ ap refusal e), k);
    called = λ z. absurd (ne (e ∙ z));
  }

  -- the lengths are right: a is the answer
  pub exported-called : (buffer' : List ℕ) (n : ℕ) (a : Answer) → 0 ≡ lent → answer_fits buffer ≡ true
      → (buffer' ≡ told buffer (words_of a)) × (n ≡ answer_number a) → Done a
      → Exported words_of refusal lent buffer buffer' n Kept Done
  exported-called buffer' n a e f t done = record {
    refused = λ ne. absurd (ne (sym e));
    called = λ z. (a, t.0 ∙ pick_true (answer_fits buffer) (words_of a) buffer f, t.1, done);
  }

-- the same of what a sweep requires, told in four words
module _ (plan outer inner report answer : List ℕ) where
  pub requirements-refused : (answer' : List ℕ) (m n : ℕ) → m ≡ lent_number plan (requirements_fit answer)
      → (m ≡ 0 → ⊥) → (answer' ≡ told answer (no_requirements m)) × (n ≡ m)
      → RequirementsExported plan outer inner report answer report answer' n
  requirements-refused answer' m n e ne t = record {
    refused = λ z. (t.1 ∙ e, t.0 ∙ ap (λ (k : ℕ). told answer (no_requirements k)) e, refl);
    called = λ z. absurd (ne (e ∙ z));
  }

  pub requirements-called : (report' answer' : List ℕ) (p : Partitioning) (n : ℕ) (r : Requirements)
      → 0 ≡ lent_number plan (requirements_fit answer) → p ≡ plan_in plan
      → (answer' ≡ told answer (requirements_in r)) × (n ≡ answer_number r)
      → RequirementsOf p outer inner report report' r
      → RequirementsExported plan outer inner report answer report' answer' n
  requirements-called report' answer' p n r e f t done = record {
    refused = λ ne. absurd (ne (sym e));
    called = λ z. (
      r,
      t.0
          ∙ pick_true (requirements_fit answer) (requirements_in r) answer (lent_fits plan (requirements_fit answer) (sym e)),
      t.1,
      subst (λ v. RequirementsOf v outer inner report report' r) f done,
    );
  }

-- ---- what a call promises of plan, side and tuple, it promises of what the words say, which is the same

pub opened-said : (p q : Partitioning) (s s' : Stores) (a : Answer) → p ≡ q → Opened p s s' a → Opened q s s' a
opened-said p q s s' a e d = subst (λ v. Opened v s s' a) e d

pub swept-said : (p q : Partitioning) (s : Stores) (c d : List ℕ) (s' : Stores) (c' d' : List ℕ) (a : Answer) → p ≡ q
    → Swept p s c d s' c' d' a → Swept q s c d s' c' d' a
swept-said p q s c d s' c' d' a e h = subst (λ v. Swept v s c d s' c' d' a) e h

pub changed-said : (k : Kind) (p q : Partitioning) (side : Side) (t : Tuple) (s s' : Stores) (a : Answer) → p ≡ q
    → Changed k p side t s s' a → Changed k q side t s s' a
changed-said k p q side t s s' a e d = subst (λ v. Changed k v side t s s' a) e d

-- a change of an equal side and tuple
pub change-said : (k : Kind) (plan : List ℕ) (x y : Side) (t u : Tuple)
    (outer inner rows answer outer' inner' rows' answer' : List ℕ) (n : ℕ) → x ≡ y → t ≡ u
    → ChangeExported k plan x t outer inner rows answer outer' inner' rows' answer' n
    → ChangeExported k plan y u outer inner rows answer outer' inner' rows' answer' n
change-said k plan x y t u outer inner rows answer outer' inner' rows' answer' n e f h =
    subst (λ v. ChangeExported k plan v u outer inner rows answer outer' inner' rows' answer' n) e
    (subst (λ v. ChangeExported k plan x v outer inner rows answer outer' inner' rows' answer' n) f h)

-- whether an answer is a refusal, by a test of it
pub refused-is-err : (a : Answer) {b : Bool} → b ≡ is_err a → b ≡ true → answer_number a ≡ 0 → ⊥
refused-is-err (Ok counted) e t z = false≢true (sym e ∙ t)
refused-is-err (Err r) e t z = number-above r z

pub accepted-is-ok : (a : Answer) {b : Bool} → b ≡ is_err a → b ≡ false → answer_number a ≡ 0
accepted-is-ok (Ok counted) e f = refl
accepted-is-ok (Err r) e f = absurd (false≢true (sym f ∙ e))

-- a repartition's also of the words that it leaves: refused, they are the plan's as they were
module _ (ws : List ℕ) (p q : Partitioning) (new new' : List Chronon) (s s' : Stores) (a : Answer)
    (e : p ≡ plan_in ws) (f : new ≡ new') (r : Repartitioned p new s s' a q) where
  said-cuts : Repartitioned (plan_in ws) new' s s' a q
  said-cuts = subst (λ v. Repartitioned (plan_in ws) v s s' a q) f (subst (λ v. Repartitioned v new s s' a q) e r)

  pub cuts-kept : (answer_number a ≡ 0 → ⊥) → Repartitioned (plan_in ws) new' s s' a (plan_in ws)
  cuts-kept ne = subst (λ v. Repartitioned (plan_in ws) new' s s' a v) (said-cuts.refused ne).1 said-cuts

  -- accepted, the new last minutes stand in them, the other words and so the minimum are as they were
  pub cuts-put : (ws' : List ℕ) → answer_number a ≡ 0 → length ws ≡ plan_words → length new' ≡ most_partitions
      → ws' ≡ put_lasts ws q.lasts → Repartitioned (plan_in ws) new' s s' a (plan_in ws')
  cuts-put ws' z l n h =
      let back = plan-put-cuts ws l new' q n (said-cuts.accepted z).0 in
      subst (λ v. Repartitioned (plan_in ws) new' s s' a v) (sym (ap plan_in h ∙ back)) said-cuts
