-- Every call refuses a plan that is not legal by the plan's own number: it stands first in each list of checks.
-- Assumes nothing.
use mathlib.Core.Path.{◌≡◌, sym, ◌∙◌}
use native.Mathlib.Omega.{arith}
use lib.ListN.{length}
use borrow.Author.Tests.{eq-eqb}
use Rattle.lists.proofs.Choice.{first-here}
use Rattle.plan.specs.Plan.{minimum_check, plan_number}
use Rattle.plan.specs.declared.Partitioning.{Partitioning}
use Rattle.plan.proofs.Homes.{minimum-answers}
use Rattle.checks.specs.Stores.{Stores, lengths_number, open_number, store_number, rows_number}
use Rattle.join.specs.Changes.{insert_number, delete_number}
use Rattle.join.specs.Sweeps.{sweep_number}
use Rattle.join.specs.Repartitioning.{repartition_number}
use Rattle.requirements.specs.Requirements.{requirements_number}
use Rattle.question_words.specs.QuestionWords.{words_number}
use Rattle.report.specs.Report.{report_number}
use Rattle.layout.specs.Layout.{plan_words, lent_number}
use Rattle.refused_plans.specs.Refused.{RefusedEverywhere, MinimumRefused}

module _ (p : Partitioning) (s : Stores) (bad : plan_number p ≡ 0 → ⊥) where
  opened : open_number p s ≡ plan_number p
  unfolding lengths_number
  opened = first-here (plan_number p) _ bad

  stored : store_number p s ≡ plan_number p
  unfolding store_number
  stored = first-here (open_number p s) _ (λ z. bad (sym opened ∙ z)) ∙ opened

  bad-stored : store_number p s ≡ 0 → ⊥
  bad-stored z = bad (sym stored ∙ z)

  asked : rows_number p s.rows ≡ plan_number p
  unfolding rows_number
  asked = first-here (plan_number p) _ bad

pub refused-everywhere : RefusedEverywhere
unfolding insert_number delete_number sweep_number repartition_number requirements_number words_number report_number lent_number
refused-everywhere p s bad = record {
  opening = opened p s bad;
  insert = λ side t. first-here (store_number p s) _ (bad-stored p s bad) ∙ stored p s bad;
  delete = λ side t. first-here (store_number p s) _ (bad-stored p s bad) ∙ stored p s bad;
  sweep = λ c d. first-here (store_number p s) _ (bad-stored p s bad) ∙ stored p s bad;
  repartition = λ new. first-here (store_number p s) _ (bad-stored p s bad) ∙ stored p s bad;
  requirements = λ words. first-here (plan_number p) _ bad;
  questions = asked p s bad;
  question_words = λ words. first-here (plan_number p) _ bad;
  report = λ room. first-here (rows_number p s.rows) _ (λ z. bad (sym (asked p s bad) ∙ z)) ∙ asked p s bad;
  host = λ plan long is. rw (eq-eqb (length plan) plan_words long, is) (first-here (plan_number p) _ bad);
}

pub minimum-refused : MinimumRefused
unfolding minimum_check
minimum-refused p s e h g m =
    let is : plan_number p ≡ 18 = sym (minimum-answers p e h g) ∙ rw m in
    rw is at (refused-everywhere p s (λ z. omega (arith, sym is ∙ z)))
