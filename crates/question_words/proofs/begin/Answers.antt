-- `question_words::begin` meets its contract. The loop's invariant: the answers of the first i questions were cleared,
-- and the window, widened by the questions that are left, is that of all.
-- Assumes nothing.
use mathlib.Core.Path.{refl, ap, ◌∙◌}
use Rattle.question.specs.Question.{with_answer}
use Rattle.question_words.proofs.Loops.{changed-none}
use Rattle.question_words.proofs.Loops.{changed-next, changed-more, changed-all}
use Rattle.question_words.proofs.Loops.{window-none, window_more, window-all}
use Rattle.question_words.proofs.begin.Goals as goal

pub loop-i-init : goal.loop-i-init
loop-i-init c = (changed-none _ _ c.requires, window-none c.args.ws.now _ c.no_window-window.ensures)

pub loop-i-preserved : goal.loop-i-preserved
loop-i-preserved c =
    let ws = c.args.ws.now in
    let taken = c.loop-i-test.true in
    let q = c.question_at-q.result in
    let asked = c.question_at-q.ensures in (
      changed-more _ _ (λ q. refl) c.loop-i.i c.loop-i.invariant.0 taken _
          (c.cleared.ensures ∙ ap (with_answer 0) asked),
      window_more ws c.loop-i.i c.loop-i.window q c.loop-i.invariant.1 taken
          (asked ∙ changed-next _ _ c.loop-i.i c.loop-i.invariant.0 taken q) _ c.widened-window.ensures,
    )

pub returns : goal.returns
returns c = (
  changed-all _ _ c.requires c.loop-i.i c.loop-i.invariant.0 c.loop-i-test.false,
  window-all c.args.ws.now c.loop-i.i c.loop-i.window c.loop-i.invariant.1 c.loop-i-test.false,
)
