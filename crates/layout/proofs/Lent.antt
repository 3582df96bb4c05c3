-- Laws of the number for lengths: what it is, and what is known where it is 0.
-- Assumes nothing.
use mathlib.Core.Bool.{Bool, true, false}
use mathlib.Core.List.{List, [], ◌∷◌}
use mathlib.Core.Logic.{⊎_elim}
use mathlib.Core.Path.{◌≡◌, refl, ◌∙◌}
use Prim.Native.Nat.{ℕ}
use native.Mathlib.Omega.{arith}
use lib.Dec.{eqb}
use lib.ListN.{length}
use borrow.Author.Tests.{eq-eqb, ne_eqb, eqb-true, eqb-false}
use Rattle.lists.specs.Choice.{first_of}
use Rattle.lists.proofs.Choice.{bool_cases, answer-here, answer-next, answer-last}
use Rattle.plan.specs.Plan.{plan_number}
use Rattle.layout.specs.Layout.{plan_words, plan_in, lent_number}

module _ (ws : List ℕ) where
  -- a plan of another length
  pub lent_other : (right : Bool) → (length ws ≡ plan_words → ⊥) → 4 ≡ lent_number ws right
  unfolding lent_number
  lent_other right ne = rw (ne_eqb (length ws) plan_words ne)

  module _ (e : length ws ≡ plan_words) where
    -- all lengths are right
    pub lent-right : (right : Bool) → right ≡ true → 0 ≡ lent_number ws right
    unfolding lent_number
    lent-right right r = rw (eq-eqb (length ws) plan_words e, r)

    -- another is not: the plan's own number, or 4
    pub lent-own : (right : Bool) (n : ℕ) → right ≡ false → n ≡ first_of (plan_number (plan_in ws) ∷ (4 ∷ []))
        → n ≡ lent_number ws right
    unfolding lent_number
    lent-own right n r h = rw (eq-eqb (length ws) plan_words e, r) h

  -- 0: the plan's length is right, and the others are
  pub lent-long : (right : Bool) → lent_number ws right ≡ 0 → length ws ≡ plan_words
  lent-long right z =
      ⊎_elim (λ t. eqb-true (length ws) plan_words t)
      (λ t. absurd (omega (arith, lent_other right (eqb-false (length ws) plan_words t))))
      (bool_cases (eqb (length ws) plan_words))

  pub lent_fits : (right : Bool) → lent_number ws right ≡ 0 → right ≡ true
  lent_fits right z =
      let e = lent-long right z in
      let n = plan_number (plan_in ws) in
      ⊎_elim (λ t. t)
      (λ r.
      absurd
      (⊎_elim (λ t. omega (arith, lent-own e right 4 r (answer-next _ refl (eqb-true n 0 t) (answer-last refl))))
      (λ t. eqb-false n 0 t (lent-own e right n r (answer-here _ refl (eqb-false n 0 t)) ∙ z))
      (bool_cases (eqb n 0))))
      (bool_cases right)
