-- `questions::answer` meets its contract: a refusal changes no question; where the checks pass, each has its answer.
-- Assumes nothing.
use mathlib.Core.Path.{refl, sym}
use Rattle.std.proofs.Common.{rules}
use Rattle.checks.proofs.Refusals.{refusal-says}
use Rattle.questions.proofs.Called.{refusal, acceptance}
use Rattle.questions.proofs.answer.Goals as goal

pub returns-in_err-rows_number : goal.returns-in_err-rows_number
returns-in_err-rows_number c =
    let refused = c.in_err-rows_number.field-0.0 in
    refusal _ _ _ _ refused c.in_err-rows_number.ensures (refusal-says c.from_residual.result refused (search rules))

pub answer_sound-read-requires : goal.answer_sound-read-requires
answer_sound-read-requires c = sym c.in_ok-rows_number.ensures

pub returns : goal.returns
returns c =
    acceptance _ _ _ _ _ _ (sym c.in_ok-rows_number.ensures) c.answer_sound-read.ensures.0 c.answer_sound-read.ensures.1
    (refl, (refl, refl))
