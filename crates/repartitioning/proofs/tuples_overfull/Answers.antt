-- `repartitioning::tuples_overfull` meets its contract: the tuple records counted at their homes, by their width.
-- Assumes nothing.
use mathlib.Core.Path.{◌∙◌}
use native.Mathlib.Omega.{arith}
use Rattle.repartitioning.proofs.TuplesAndRows.{tuples-overfull-is, tuples-counts, tuples-homed}
use Rattle.repartitioning.proofs.tuples_overfull.Goals as goal

pub tuple_room-room-requires : goal.tuple_room-room-requires
tuple_room-room-requires c = c.requires.recut.old

pub overfull-requires : goal.overfull-requires
overfull-requires c =
    let a = c.args in
    let recut = c.requires.recut in
    let stand = c.requires.tuples_stand in
    let room = c.tuple_room-room.result in
    let is = c.tuple_room-room.ensures in
    record {
      le_width = omega arith;
      q_value = recut.new;
      counts = tuples-counts a.p a.q a.ws.now recut stand room is;
      homed = tuples-homed a.p a.q a.ws.now recut stand room is;
    }

pub returns : goal.returns
returns c =
    let a = c.args in
    c.overfull.ensures
    ∙ tuples-overfull-is a.p a.q a.ws.now c.requires.recut c.requires.tuples_stand c.tuple_room-room.result
    c.tuple_room-room.ensures
