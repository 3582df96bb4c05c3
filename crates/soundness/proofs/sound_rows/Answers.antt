-- `soundness::sound_rows` meets its contract: check 5 of a store of rows.
-- Assumes nothing.
use native.Mathlib.Omega.{arith}
use Rattle.store.specs.Store.{row_at_home, sound_row_part, sound_rows}
use Rattle.store.proofs.StoreLoops.{rows-given}
use Rattle.soundness.specs.Between.{sound_parts}
use Rattle.soundness.proofs.sound_rows.Goals as goal

pub row_room-requires : goal.row_room-requires
row_room-requires c = (rows-given _ _ c.requires).0

pub sound_parts-requires : goal.sound_parts-requires
sound_parts-requires c =
    let f = rows-given _ _ c.requires in
    record {
      p_value = f.0;
      parts_fit = record { roomy = omega (arith, c.row_room.ensures); long = rw c.row_room.ensures f.1 };
    }

pub returns : goal.returns
unfolding sound_parts sound_rows sound_row_part row_at_home
returns c = rw c.row_room.ensures at c.sound_parts.ensures
