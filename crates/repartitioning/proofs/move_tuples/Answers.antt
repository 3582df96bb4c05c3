-- `repartitioning::move_tuples` meets its contract: the tuple records moved to their homes, by their width.
-- Assumes nothing.
use Rattle.repartitioning.proofs.TuplesAndRows.{tuples-movable, tuples-moved}
use Rattle.repartitioning.proofs.move_tuples.Goals as goal

pub tuple_room-room-requires : goal.tuple_room-room-requires
tuple_room-room-requires c = c.requires.recut.old

pub rehome-requires : goal.rehome-requires
rehome-requires c =
    let a = c.args in
    tuples-movable a.p a.q a.ws.now c.requires.recut c.requires.tuples_stand c.tuple_room-room.result
    c.tuple_room-room.ensures c.requires.ws_value

pub returns : goal.returns
returns c =
    let a = c.args in
    tuples-moved a.p a.q a.ws.now c.requires.recut c.requires.tuples_stand c.tuple_room-room.result
    c.tuple_room-room.ensures _ c.rehome.ensures
