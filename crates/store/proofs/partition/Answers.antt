-- `store::partition` meets its contract.
-- Assumes nothing.
use mathlib.Core.Path.{ap}
use Prim.Native.Nat.{ℕ, ◌*◌}
use native.Mathlib.Nat.{add-sub_cancel_left}
use lib.ListN.{take, drop}
use Rattle.store.proofs.partition.Goals as goal

pub returns : goal.returns
returns c =
    let a = c.args in ap (λ (k : ℕ). take k (drop (a.i.0 * a.room) a.store.now))
    (add-sub_cancel_left (a.i.0 * a.room) a.room)
