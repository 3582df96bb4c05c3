-- `layout::lent_plan` meets its contract: the plan's length, the others, the plan's own number, 4.
-- Assumes nothing.
use mathlib.Core.Path.{refl, ◌∙◌, ap}
use borrow.Author.Rules.{rules}
use Rattle.lists.proofs.Choice.{answer-last}
use Rattle.refusal.proofs.Answering.{refused-here, passed-next}
use Rattle.plan.specs.Plan.{plan_number}
use Rattle.layout.proofs.Lent.{lent_other, lent-right, lent-own}
use Rattle.layout.proofs.lent_plan.Goals as goal

pub returns-then-plan-ne-PLAN_WORDS-clause-number : goal.returns-then-plan-ne-PLAN_WORDS-clause-number
returns-then-plan-ne-PLAN_WORDS-clause-number c =
    let a = c.args in
    lent_other a.plan.now a.right c.if-plan-ne-PLAN_WORDS.true

pub returns-then-right-clause-number : goal.returns-then-right-clause-number
returns-then-right-clause-number c =
    let a = c.args in
    lent-right a.plan.now c.if-plan-ne-PLAN_WORDS.false a.right c.if-right.true

pub returns-in_err-plan_number-clause-number : goal.returns-in_err-plan_number-clause-number
returns-in_err-plan_number-clause-number c =
    let a = c.args in
    lent-own a.plan.now c.if-plan-ne-PLAN_WORDS.false a.right _ c.if-right.false
    (refused-here c.in_err-plan_number.field-0.0 _ (search rules)
    (c.in_err-plan_number.ensures ∙ ap plan_number c.plan_in-p.ensures))

pub returns-clause-number : goal.returns-clause-number
returns-clause-number c =
    let a = c.args in
    lent-own a.plan.now c.if-plan-ne-PLAN_WORDS.false a.right _ c.if-right.false
    (passed-next _ (c.in_ok-plan_number.ensures ∙ ap plan_number c.plan_in-p.ensures) (answer-last refl))
