-- A plan that is not legal, in every call that takes one: the number that each call's promise cites is the plan's own.
use Rattle.std.specs.Prelude.{true, false, ◌||◌, List, ◌≡◌, ℕ, length}
use Rattle.interval.specs.declared.time.Chronon.{Chronon}
use Rattle.interval.specs.declared.tuple.Tuple.{Tuple}
use Rattle.plan.specs.Plan.{outside, most_partitions, most_tuples, most_rows, most_minimum, cuts_of, cover, plan_number}
use Rattle.plan.specs.declared.Partitioning.{Partitioning}
use Rattle.rows.specs.declared.Side.{Side}
use Rattle.checks.specs.Stores.{Stores, open_number, rows_number}
use Rattle.join.specs.Changes.{insert_number, delete_number}
use Rattle.join.specs.Sweeps.{sweep_number}
use Rattle.join.specs.Repartitioning.{repartition_number}
use Rattle.requirements.specs.Requirements.{requirements_number}
use Rattle.question_words.specs.QuestionWords.{words_number}
use Rattle.report.specs.Report.{report_number}
use Rattle.layout.specs.Layout.{plan_words, plan_in, lent_number}

-- every call with that plan is refused with n: open, insert, delete, sweep with any caches, repartition with any cuts,
-- what a sweep requires with a report of any length, a list of questions, and one in any number of words, the text of
-- the rows with any room; and a host's call whose other lengths are wrong (where they are right the call goes on to one
-- of these)
pub record RefusedBy (n : ℕ) (p : Partitioning) (s : Stores) : Type 0 where
  pub opening : open_number p s ≡ n
  pub insert : (side : Side) (t : Tuple) → insert_number p side t s ≡ n
  pub delete : (side : Side) (t : Tuple) → delete_number p side t s ≡ n
  pub sweep : (c d : List ℕ) → sweep_number p s c d ≡ n
  pub repartition : (new : List Chronon) → repartition_number p new s ≡ n
  pub requirements : (words : ℕ) → requirements_number p s.outer s.inner words ≡ n
  pub questions : rows_number p s.rows ≡ n
  pub question_words : (words : ℕ) → words_number p s.rows words ≡ n
  pub report : (room : ℕ) → report_number p s.rows room ≡ n
  pub host : (plan : List ℕ) → length plan ≡ plan_words → plan_in plan ≡ p → lent_number plan false ≡ n

-- whatever the stores are: a plan's own number comes before all others
abbrev pub RefusedEverywhere : Type 0
RefusedEverywhere = (p : Partitioning) (s : Stores) → (plan_number p ≡ 0 → ⊥) → RefusedBy (plan_number p) p s

-- "A minimum out of range is refused with 18, after 3, in every call that takes a plan": where none of 1 to 3 applies
abbrev pub MinimumRefused : Type 0
MinimumRefused =
    (p : Partitioning) (s : Stores) → outside 1 most_partitions p.count ≡ false → cover (cuts_of p) ≡ true
    → (outside 1 most_tuples p.tuples || outside 1 most_rows p.rows) ≡ false
    → outside 1 most_minimum p.minimum ≡ true → RefusedBy 18 p s
