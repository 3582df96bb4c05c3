-- `cursor::next` meets its contract. Assumes nothing.
use native.Mathlib.Omega.{arith}
use Rattle.cursor.proofs.Cursors.{scan-inside, advanced}
use Rattle.cursor.proofs.next.Goals as goal

pub overflow_add-at : goal.overflow_add-at
overflow_add-at c =
    let scannable = c.requires.scannable in
    let at = c.requires.stands in
    omega (arith, at.place, scannable.roomy.within _ at.partition, scan-inside _ _ scannable _ at.partition)

pub reach-requires : goal.reach-requires
reach-requires c =
    let at = c.requires.stands in
    record {
      scannable = c.requires.scannable;
      i_le_count = omega (arith, at.partition);
      k_bound = omega (arith, at.place);
    }

pub returns : goal.returns
returns c = advanced _ _ _ _ c.requires.stands c.reach.ensures
