-- `repartitioning::rows_overfull` meets its contract: the row records counted at their homes, by their width.
-- Assumes nothing.
use mathlib.Core.Path.{◌∙◌}
use native.Mathlib.Omega.{arith}
use Rattle.repartitioning.proofs.TuplesAndRows.{rows-overfull-is, rows-counts, rows-homed}
use Rattle.repartitioning.proofs.rows_overfull.Goals as goal

pub row_room-room-requires : goal.row_room-room-requires
row_room-room-requires c = c.requires.recut.old

pub overfull-requires : goal.overfull-requires
overfull-requires c =
    let a = c.args in
    let recut = c.requires.recut in
    let stand = c.requires.rows_stand in
    let room = c.row_room-room.result in
    let is = c.row_room-room.ensures in
    record {
      le_width = omega arith;
      q_value = recut.new;
      counts = rows-counts a.p a.q a.ws.now recut stand room is;
      homed = rows-homed a.p a.q a.ws.now recut stand room is;
    }

pub returns : goal.returns
returns c =
    let a = c.args in
    c.overfull.ensures
    ∙ rows-overfull-is a.p a.q a.ws.now c.requires.recut c.requires.rows_stand c.row_room-room.result
    c.row_room-room.ensures
