-- `question_words::count_row` meets its contract. The loop's invariant: the row was counted for the first i questions.
-- Assumes nothing.
use mathlib.Core.Path.{refl, ap, ◌∙◌}
use Prim.Native.Nat.{◌<◌}
use native.Mathlib.Omega.{arith}
use lib.ListN.{length}
use Rattle.question.specs.Steps.{with_row}
use Rattle.question_words.specs.QuestionWords.{questions_in}
use Rattle.question.proofs.Rooms.{room_at}
use Rattle.question_words.proofs.Loops.{changed-none}
use Rattle.question_words.proofs.Loops.{changed-next, changed-more, changed-same, changed-all, questions-length}
use Rattle.question_words.proofs.Loops.{other-label}
use Rattle.question_words.proofs.count_row.Goals.{then-q-r, else-q-r}
use Rattle.question_words.proofs.count_row.Goals as goal

pub loop-i-init : goal.loop-i-init
loop-i-init c = changed-none _ _ c.requires.whole_questions

pub with_row-next-requires : goal.with_row-next-requires
with_row-next-requires c =
    let taken = c.loop-i-test.true in
    let d = c.question_at-q.result in
    let qs = questions_in c.args.ws.now in
    let l : c.loop-i.i < length qs = omega (arith, questions-length c.args.ws.now, taken) in
    rw (c.question_at-q.ensures ∙ changed-next _ _ c.loop-i.i c.loop-i.invariant taken d)
    (room_at qs c.loop-i.i d c.requires.ws_value l)

pub loop-i-preserved : goal.loop-i-preserved
loop-i-preserved c =
    let taken = c.loop-i-test.true in
    let r = c.args.r in
    let is = c.question_at-q.ensures in
    (elim c.if-q-r.branch [
      | then-q-r w ↦ rw w.ws-is (changed-more _ _ (λ q. refl) c.loop-i.i c.loop-i.invariant taken _
          (w.with_row-next.ensures ∙ ap (with_row r) is))
      | else-q-r w ↦ rw w.ws-is (changed-same _ _ c.loop-i.i c.loop-i.invariant taken
          (rw is at (other-label r c.question_at-q.result w.if-q-r.false)))
    ])

pub returns : goal.returns
returns c = changed-all _ _ c.requires.whole_questions c.loop-i.i c.loop-i.invariant c.loop-i-test.false
