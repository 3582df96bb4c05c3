-- `store::fits_tuples` meets its contract: a legal plan gives that many words.
-- Assumes nothing.
use Rattle.plan.proofs.Homes.{plan-legal-test}
use Rattle.store.proofs.StoreLoops.{tuples-fit}
use Rattle.store.specs.Store.{fits_tuples}
use Rattle.store.proofs.fits_tuples.Goals as goal

pub tuple_room-requires : goal.tuple_room-requires
tuple_room-requires c = c.requires

pub overflow_mul-result : goal.overflow_mul-result
overflow_mul-result c = rw c.tuple_room.ensures (tuples-fit c.args.p c.requires)

pub returns : goal.returns
unfolding fits_tuples
returns c = rw (plan-legal-test c.args.p c.requires, ← c.tuple_room.ensures)
