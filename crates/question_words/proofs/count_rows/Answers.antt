-- `question_words::count_rows` meets its contract. The loop's invariant is `CountingWords`: the rows that are left
-- are still to be counted. The measure is how many they are.
-- Assumes nothing.
use Rattle.question_words.proofs.Scans.{words-room, words-next, words-end}
use Rattle.question_words.proofs.count_rows.Goals as goal

pub count_row-requires : goal.count_row-requires
count_row-requires c =
    let inv = c.loop-at.invariant in
    record { whole_questions = inv.whole; ws_value = words-room _ _ _ c.loop-at.at _ c.in-Some.is inv }

pub loop-at-preserved : goal.loop-at-preserved
loop-at-preserved c =
    words-next _ _ _ c.loop-at.at _ c.in-Some.is c.loop-at.invariant c.next-at.result c.next-at.ensures
    c.count_row.ensures

pub returns : goal.returns
returns c = words-end _ _ _ c.loop-at.at c.loop-at.invariant c.in_default.is
