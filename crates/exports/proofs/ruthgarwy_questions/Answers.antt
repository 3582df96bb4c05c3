-- `exports::ruthgarwy_questions` meets its contract: lengths, then `question_words::answer` with the plan that the
-- words say.
-- Assumes nothing.
use mathlib.Core.Path.{◌≡◌, sym, subst}
use Rattle.layout.specs.Layout.{plan_in, answer_fits, lent_number}
use Rattle.layout.proofs.Lent.{lent_fits}
use Rattle.question_words.specs.QuestionWords.{WordsAnswered}
use Rattle.exports.proofs.Exporting.{exported-called}
use Rattle.exports.proofs.ruthgarwy_questions.Goals as goal

pub returns : goal.returns
returns c =
    let a = c.args in
    let right = answer_fits a.answer.now in
    let qs = a.questions.now in
    exported-called {Kept = c.answer-a.new.ws ≡ qs} {Done = λ r. WordsAnswered (plan_in a.plan.now) a.rows.now qs c.answer-a.new.ws r}
    (lent_number a.plan.now right) a.answer.now c.tell-2.new.answer c.tell-2.result
    c.answer-a.result c.in-Ok.ensures.number (lent_fits a.plan.now right (sym c.in-Ok.ensures.number)) c.tell-2.ensures
    (subst (λ v. WordsAnswered v a.rows.now qs c.answer-a.new.ws c.answer-a.result) c.in-Ok.ensures.plan
    c.answer-a.ensures)
