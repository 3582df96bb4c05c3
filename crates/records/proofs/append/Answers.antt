-- `records::append` meets its contract: the count word one up, and what `write` leaves, is `appended`.
-- Assumes nothing.
use Prim.Native.Nat.{◌+◌}
use native.Mathlib.Omega.{arith}
use lib.ListN.{length-set}
use Rattle.part.specs.Part.{counted, appended}
use Rattle.part.proofs.Parts.{room_next, room-above}
use Rattle.records.proofs.append.Goals as goal

pub overflow_add-part : goal.overflow_add-part
unfolding counted
overflow_add-part g c =
    omega (arith, room-above g.R.Record.WIDTH (counted c.args.part.now + 1) g.met.R.Record.has_words)

pub overflow_mul-WIDTH : goal.overflow_mul-WIDTH
unfolding counted
overflow_mul-WIDTH g c = rw c.WIDTH.ensures (omega (arith, room_next g.R.Record.WIDTH (counted c.args.part.now)))

pub overflow_add-WIDTH : goal.overflow_add-WIDTH
unfolding counted
overflow_add-WIDTH g c = rw c.WIDTH.ensures (omega (arith, room_next g.R.Record.WIDTH (counted c.args.part.now)))

pub write-requires : goal.write-requires
unfolding counted
write-requires g c =
    rw c.WIDTH.ensures (simp length-set (omega (arith, room_next g.R.Record.WIDTH (counted c.args.part.now))))

pub returns : goal.returns
unfolding counted appended
returns g c = rw c.WIDTH.ensures at c.write.ensures
