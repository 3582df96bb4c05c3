-- A tuple store and the rows store, from plan p to plan q with other cuts: whether they fit, that they can be moved,
-- and what the move leaves; by the laws of Moving, for each of the two kinds of records.
-- Assumes nothing.
use mathlib.Core.Bool.{false}
use mathlib.Core.List.{List}
use mathlib.Core.Path.{◌≡◌, refl, sym, ap, ◌∙◌}
use Prim.Native.Nat.{ℕ}
use native.Mathlib.Omega.{arith}
use lib.Dec.{ltb}
use lib.ListN.{length}
use Rattle.lists.specs.Members.{any, below}
use Rattle.interval.specs.Tuple.{tuple_width, tuple_of, to, legal_tuple, same_tuple}
use Rattle.interval.specs.Tuple.{row_width, row_of, row_to, legal_row, same_row}
use Rattle.interval.proofs.Tuples.{legal-tuple, legal-row, valid-ok}
use Rattle.interval.specs.declared.tuple.Tuple.{Tuple}
use Rattle.interval.specs.declared.tuple.Row.{Row}
use Rattle.plan.specs.Plan.{cuts_of}
use Rattle.plan.specs.declared.Partitioning.{Partitioning}
use Rattle.part.proofs.Parts.{tuples, rows}
use Rattle.store.specs.Store.{tuple_room, row_room, tuple_at_home, row_at_home, sound_tuple_part, sound_row_part}
use Rattle.store.specs.Store.{stored_tuples, stored_rows, tuples_at, rows_at}
use Rattle.store.proofs.StoreLoops.{tuples-given, rows-given}
use Rattle.store.proofs.Stores.{sound-tuples-at, sound-rows-at, tuples-sound-by, rows-sound-by}
use Rattle.lists.proofs.Choice.{and_left}
use Rattle.moves.specs.Moves.{stored_records, Counts}
use Rattle.rehoming.specs.Rehoming.{Movable, Rehomed}
use Rattle.move_count.specs.Crowding.{overfull, Homed}
use Rattle.repartitioning.specs.Moving.{tuples_overfull, rows_overfull, TuplesMoved, RowsMoved, Recut}
use Rattle.repartitioning.specs.Moving.{TuplesStand, RowsStand}
use Rattle.repartitioning.proofs.Moving.{Held, Standing, overfull-is, counts, homed, movable, after-move}

-- ---- tuples

abbrev tuples-held : Held tuples
tuples-held = record {
  legal = legal_tuple;
  last = to;
  same = same_tuple;
  last-is = λ r. refl;
  in-calendar = λ t e. (valid-ok t.valid (legal-tuple t e).valid).1;
  wide = omega arith;
}

module _ (p q : Partitioning) (ws : List ℕ) (recut : Recut p q) (stand : TuplesStand p ws) where
  -- what a store holds does not go by the cuts
  tuples-stored : stored_tuples p ws ≡ stored_tuples q ws
  unfolding stored_tuples
  tuples-stored = rw (recut.count, recut.tuples)

  tuples-room : tuple_room p ≡ tuple_room q
  tuples-room = rw recut.tuples

  tuples-standing : Standing tuples tuples-held q.tuples q.count ws
  unfolding sound_tuple_part tuple_at_home
  tuples-standing = record {
    long = rw (recut.count, recut.tuples) (tuples-given p (length ws) stand.fits).1;
    ok = λ i r. tuple_at_home p i (tuple_of r);
    ok-legal = λ i r e. and_left (legal_tuple (tuple_of r)) _ e;
    sound = λ i l. rw recut.tuples (sound-tuples-at p ws stand.sound i (omega (arith, recut.count)));
  }

  -- the code's room of a partition is that of p, and so of q
  module _ (room : ℕ) (is : room ≡ tuple_room p) where
    pub tuples-overfull-is : overfull tuple_width room q q.tuples ws ≡ tuples_overfull p q ws
    unfolding tuples_overfull tuples_at stored_tuples
    tuples-overfull-is =
        ap (λ (n : ℕ). overfull tuple_width n q q.tuples ws) (is ∙ tuples-room)
        ∙ sym (overfull-is tuples tuples-held q q.tuples recut.new ws)
        ∙ ap (λ (ts : List Tuple). any (λ i. ltb q.tuples (length (tuples_at q i ts))) (below q.count))
        (sym tuples-stored)

    pub tuples-counts : Counts tuple_width room q.count ws
    tuples-counts = rw (is, tuples-room) (counts tuples tuples-held q q.tuples recut.new ws tuples-standing)

    pub tuples-homed : Homed tuple_width (cuts_of q) (stored_records tuple_width room q.count ws)
    tuples-homed = rw (is, tuples-room) (homed tuples tuples-held q q.tuples recut.new ws tuples-standing)

    pub tuples-movable : tuples_overfull p q ws ≡ false → Movable tuple_width room q ws
    tuples-movable none =
        rw (is, tuples-room)
        (movable tuples tuples-held q q.tuples recut.new ws tuples-standing
        (rw (is, tuples-room) at tuples-overfull-is ∙ none))

    pub tuples-moved : (ws' : List ℕ) → Rehomed tuple_width room q ws ws' → TuplesMoved p q ws ws'
    unfolding stored_tuples sound_tuple_part tuple_at_home
    tuples-moved ws' moved =
        let r : Rehomed tuple_width (tuple_room q) q ws ws' = rw (is, tuples-room) at moved in
        let after = after-move tuples tuples-held q q.tuples recut.new ws tuples-standing ws' r in
        record { long = r.long; sound = tuples-sound-by q ws' after.0; held = rw tuples-stored after.1 }

-- ---- rows

abbrev rows-held : ℕ → Held rows
rows-held minimum = record {
  legal = legal_row minimum;
  last = row_to;
  same = same_row;
  last-is = λ r. refl;
  in-calendar = λ r e. (valid-ok r.valid (legal-row minimum r e).valid).1;
  wide = omega arith;
}

module _ (p q : Partitioning) (ws : List ℕ) (recut : Recut p q) (stand : RowsStand p ws) where
  -- what the rows store holds does not go by the cuts
  rows-stored : stored_rows p ws ≡ stored_rows q ws
  unfolding stored_rows
  rows-stored = rw (recut.count, recut.rows)

  rows-room : row_room p ≡ row_room q
  rows-room = rw recut.rows

  -- both plans ask the same minutes of a row
  abbrev held : Held rows
  held = rows-held q.minimum

  rows-standing : Standing rows held q.rows q.count ws
  unfolding sound_row_part row_at_home
  rows-standing = record {
    long = rw (recut.count, recut.rows) (rows-given p (length ws) stand.fits).1;
    ok = λ i r. row_at_home p i (row_of r);
    ok-legal = λ i r e. rw recut.minimum (and_left (legal_row p.minimum (row_of r)) _ e);
    sound = λ i l. rw recut.rows (sound-rows-at p ws stand.sound i (omega (arith, recut.count)));
  }

  -- the code's room of a partition is that of p, and so of q
  module _ (room : ℕ) (is : room ≡ row_room p) where
    pub rows-overfull-is : overfull row_width room q q.rows ws ≡ rows_overfull p q ws
    unfolding rows_overfull rows_at stored_rows
    rows-overfull-is =
        ap (λ (n : ℕ). overfull row_width n q q.rows ws) (is ∙ rows-room)
        ∙ sym (overfull-is rows held q q.rows recut.new ws)
        ∙ ap (λ (rs : List Row). any (λ i. ltb q.rows (length (rows_at q i rs))) (below q.count))
        (sym rows-stored)

    pub rows-counts : Counts row_width room q.count ws
    rows-counts = rw (is, rows-room) (counts rows held q q.rows recut.new ws rows-standing)

    pub rows-homed : Homed row_width (cuts_of q) (stored_records row_width room q.count ws)
    rows-homed = rw (is, rows-room) (homed rows held q q.rows recut.new ws rows-standing)

    pub rows-movable : rows_overfull p q ws ≡ false → Movable row_width room q ws
    rows-movable none =
        rw (is, rows-room)
        (movable rows held q q.rows recut.new ws rows-standing
        (rw (is, rows-room) at rows-overfull-is ∙ none))

    pub rows-moved : (ws' : List ℕ) → Rehomed row_width room q ws ws' → RowsMoved p q ws ws'
    unfolding stored_rows sound_row_part row_at_home
    rows-moved ws' moved =
        let r : Rehomed row_width (row_room q) q ws ws' = rw (is, rows-room) at moved in
        let after = after-move rows held q q.rows recut.new ws rows-standing ws' r in
        record { long = r.long; sound = rows-sound-by q ws' after.0; held = rw rows-stored after.1 }
