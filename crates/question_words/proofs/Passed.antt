-- What checks 1 to 5 of the rows store and of the questions' words say where they pass.
-- Assumes nothing.
use mathlib.Core.List.{List}
use mathlib.Core.Path.{◌≡◌, ◌∙◌}
use Prim.Native.Nat.{ℕ, ◌%◌}
use native.Mathlib.Omega.{arith}
use lib.Dec.{eqb}
use lib.ListN.{length}
use borrow.Author.Tests.{eqb-true}
use Rattle.lists.proofs.Choice.{first-none, first_next}
use Rattle.plan.specs.Plan.{plan_number}
use Rattle.plan.specs.declared.Partitioning.{Partitioning}
use Rattle.checks.specs.Stores.{rows_length, rows_number}
use Rattle.checks.proofs.Checks.{check-passed}
use Rattle.question_words.specs.QuestionWords.{question_width, whole_check, words_number, WholeQuestions}

pub record Passed (p : Partitioning) (rows ws : List ℕ) : Type 0 where
  pub legal : plan_number p ≡ 0
  pub sound : rows_number p rows ≡ 0
  pub whole : WholeQuestions ws

-- check 4 of the words
whole-passed : (ws : List ℕ) → whole_check (length ws) ≡ 0 → WholeQuestions ws
unfolding whole_check
whole-passed ws e =
    let none = eqb-true (length ws % question_width) 0 (check-passed (eqb (length ws % question_width) 0) 3 e) in
    record { whole = omega (arith, none) }

pub passed : (p : Partitioning) (rows ws : List ℕ) → words_number p rows (length ws) ≡ 0 → Passed p rows ws
unfolding words_number rows_number
passed p rows ws e =
    let plan = first-none (plan_number p) _ e in
    let long = first-none (rows_length p (length rows)) _ plan.1 in
    let whole = first-none (whole_check (length ws)) _ long.1 in
    record {
      legal = plan.0;
      sound = first_next (plan_number p) _ plan.0 ∙ first_next (rows_length p (length rows)) _ long.0 ∙ whole.1;
      whole = whole-passed ws whole.0;
    }
