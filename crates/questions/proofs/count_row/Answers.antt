-- `questions::count_row` meets its contract. Assumes nothing.
use native.Mathlib.Omega.{arith}
use Rattle.question.proofs.Rooms.{room_at}
use Rattle.questions.proofs.Loops.{changed-next, changed-more, changed-all}
use Rattle.questions.proofs.count_row.Goals as goal

pub with_row-requires : goal.with_row-requires
with_row-requires c =
    let qs = c.args.qs.now in
    let at = c.loop-q in
    rw (changed-next _ qs at.q-index at.invariant _) (room_at qs at.q-index _ c.requires (omega arith))

pub loop-q-preserved : goal.loop-q-preserved
loop-q-preserved c =
    changed-more _ c.args.qs.now c.loop-q.q-index c.loop-q.invariant (omega arith) _ _ c.with_row.ensures

pub returns : goal.returns
returns c = changed-all _ c.args.qs.now c.loop-q.q-index c.loop-q.invariant c.loop-q-test.false
