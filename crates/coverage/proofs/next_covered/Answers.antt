-- `coverage::next_covered` meets its contract: the partitions from that of m up decide.
-- Assumes nothing.
use mathlib.Core.Path.{◌∙◌}
use Rattle.rows.proofs.JoinsStored.{roomy-tuples, home-count}
use Rattle.coverage.proofs.NextCovered.{next-from-home}
use Rattle.coverage.proofs.next_covered.Goals as goal

pub covered_from-requires : goal.covered_from-requires
covered_from-requires c =
    let a = c.args in
    record {
      roomy = rw c.tuple_room-room.ensures
          (roomy-tuples a.p a.inner.now c.requires.inner_len c.requires.inner_value);
      from_le_count = rw c.home-from.ensures (home-count a.p _);
    }

pub returns : goal.returns
returns c =
    let a = c.args in
    c.covered_from.ensures
    ∙ rw (c.tuple_room-room.ensures, c.home-from.ensures)
    (next-from-home a.p a.inner.now c.requires.inner_value a.d a.m.0)
