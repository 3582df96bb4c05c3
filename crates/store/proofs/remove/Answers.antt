-- `store::remove` meets its contract: the partition is lent to the writer and put back.
-- Assumes nothing.
use Prim.Native.Nat.{◌*◌, ◌<◌}
use native.Mathlib.Omega.{arith}
use Rattle.part.specs.Part.{room_of, counted, removed}
use Rattle.store.proofs.StoreLoops.{lent, lent_is, lent-room, put_back}
use Rattle.store.proofs.remove.Goals as goal

pub remove-requires : goal.remove-requires
remove-requires c =
    let a = c.args in
    let at = a.i.0 * a.room in
    let lent-part = lent_is at a.room a.store.now in
    let held : a.k < counted (lent at a.room a.store.now) = rw lent-part c.requires.k_bound in
    let room = lent-room (room_of a.width (counted (lent at a.room a.store.now))) at a.room a.store.now
    c.requires.room_in_bounds (rw lent-part c.requires.i_bound) in
    record {
      k_bound = omega arith;
      part_in_bounds = omega (arith, room);
    }

pub returns : goal.returns
returns c =
    let a = c.args in
    let taken = c.remove.ensures in
    put_back (removed a.width a.k) (a.i.0 * a.room) a.room a.store.now _ taken
