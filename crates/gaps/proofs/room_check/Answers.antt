-- `gaps::room_check` meets its contract: check 19.
-- Assumes nothing.
use borrow.Author.Tests.{lt-ltb, le-ltb}
use Rattle.gaps.specs.Listed.{words_for, room_check}
use Rattle.gaps.proofs.room_check.Goals as goal

pub returns-then-room-records : goal.returns-then-room-records
unfolding room_check
returns-then-room-records c =
    let a = c.args in
    rw (lt-ltb a.room (words_for a.records) c.if-room-records.true)

pub returns : goal.returns
unfolding room_check
returns c =
    let a = c.args in
    rw (le-ltb a.room (words_for a.records) c.if-room-records.false)
