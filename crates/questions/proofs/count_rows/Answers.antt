-- `questions::count_rows` meets its contract. Assumes nothing.
use Rattle.question.proofs.Turns.{counting-room, counting-next}
use Rattle.questions.proofs.count_rows.Goals as goal

pub count_row-requires : goal.count_row-requires
count_row-requires c = counting-room _ _ _ c.loop-at.at _ c.in-Some.is _ c.loop-at.invariant

pub loop-at-preserved : goal.loop-at-preserved
loop-at-preserved c =
    counting-next _ _ _ c.loop-at.at _ c.in-Some.is _ c.loop-at.invariant _ c.count_row.ensures _ c.next-at.ensures
