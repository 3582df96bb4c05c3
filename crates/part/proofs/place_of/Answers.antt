-- `part::place_of` meets its contract. The loop's invariant is `Passed`: no record before this place equals the
-- one sought. Assumes nothing.
use Prim.Native.Nat.{◌+◌}
use native.Mathlib.Omega.{arith}
use Rattle.part.specs.Part.{counted}
use Rattle.part.proofs.Parts.{Kind, room-le}
use Rattle.part.proofs.Loops.{place_here, place-more, place_none}
use Rattle.part.proofs.place_of.Given.{Over}
use Rattle.part.proofs.place_of.Goals as goal

-- the kind of record that R is
abbrev kind : (g : Over) → Kind g.row.R.Denot
kind g = record {
  width = g.R.Record.WIDTH;
  value = g.R.Record.of_words;
  held = g.R.Held.records;
  at = g.R.Held.at;
  held-is = g.met.R.Held.records_is;
  at-is = g.met.R.Held.at_is;
}

pub record_at-requires : goal.record_at-requires
unfolding counted
record_at-requires g c =
    let a = c.args in
    omega (arith, room-le g.R.Record.WIDTH (c.loop-place.place + 1) (counted a.part.now) (omega arith))

pub returns-then-same : goal.returns-then-same
unfolding counted
returns-then-same g c =
    let a = c.args in
    rw (g.met.R.Held.place_is a.sought a.part.now)
    (place_here (kind g) a.part.now (omega arith)
    (rw (← c.record_at.ensures, ← c.same.ensures) c.if-same.true) c.loop-place.invariant)

pub loop-place-preserved : goal.loop-place-preserved
unfolding counted
loop-place-preserved g c =
    let a = c.args in
    place-more (kind g) a.part.now (omega arith)
    (rw (← c.record_at.ensures, ← c.same.ensures) c.if-same.false) c.loop-place.invariant

pub returns : goal.returns
unfolding counted
returns g c =
    let a = c.args in
    rw (g.met.R.Held.place_is a.sought a.part.now)
    (place_none (kind g) a.part.now (omega arith) c.loop-place.invariant)
