-- `soundness::sound_tuples` meets its contract: check 5 of a store of tuples.
-- Assumes nothing.
use native.Mathlib.Omega.{arith}
use Rattle.store.specs.Store.{sound_tuple_part, sound_tuples}
use Rattle.store.proofs.StoreLoops.{tuples-given}
use Rattle.soundness.specs.Between.{sound_parts}
use Rattle.soundness.proofs.sound_tuples.Goals as goal

pub tuple_room-requires : goal.tuple_room-requires
tuple_room-requires c = (tuples-given _ _ c.requires).0

pub sound_parts-requires : goal.sound_parts-requires
sound_parts-requires c =
    let f = tuples-given _ _ c.requires in
    record {
      p_value = f.0;
      parts_fit = record { roomy = omega (arith, c.tuple_room.ensures); long = rw c.tuple_room.ensures f.1 };
    }

pub returns : goal.returns
unfolding sound_parts sound_tuples sound_tuple_part
returns c = rw c.tuple_room.ensures at c.sound_parts.ensures
