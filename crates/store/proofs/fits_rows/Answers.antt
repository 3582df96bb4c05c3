-- `store::fits_rows` meets its contract: a legal plan gives that many words.
-- Assumes nothing.
use Rattle.plan.proofs.Homes.{plan-legal-test}
use Rattle.store.proofs.StoreLoops.{rows_fit}
use Rattle.store.specs.Store.{fits_rows}
use Rattle.store.proofs.fits_rows.Goals as goal

pub row_room-requires : goal.row_room-requires
row_room-requires c = c.requires

pub overflow_mul-result : goal.overflow_mul-result
overflow_mul-result c = rw c.row_room.ensures (rows_fit c.args.p c.requires)

pub returns : goal.returns
unfolding fits_rows
returns c = rw (plan-legal-test c.args.p c.requires, ← c.row_room.ensures)
