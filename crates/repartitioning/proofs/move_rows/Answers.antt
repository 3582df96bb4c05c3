-- `repartitioning::move_rows` meets its contract: the row records moved to their homes, by their width.
-- Assumes nothing.
use Rattle.repartitioning.proofs.TuplesAndRows.{rows-movable, rows-moved}
use Rattle.repartitioning.proofs.move_rows.Goals as goal

pub row_room-room-requires : goal.row_room-room-requires
row_room-room-requires c = c.requires.recut.old

pub rehome-requires : goal.rehome-requires
rehome-requires c =
    let a = c.args in
    rows-movable a.p a.q a.ws.now c.requires.recut c.requires.rows_stand c.row_room-room.result
    c.row_room-room.ensures c.requires.ws_value

pub returns : goal.returns
returns c =
    let a = c.args in
    rows-moved a.p a.q a.ws.now c.requires.recut c.requires.rows_stand c.row_room-room.result
    c.row_room-room.ensures _ c.rehome.ensures
