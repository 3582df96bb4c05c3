-- `store::append` meets its contract: the partition is lent to the writer and put back.
-- Assumes nothing.
use Rattle.store.proofs.StoreLoops.{lent-append, lent_back}
use Rattle.store.proofs.append.Goals as goal

pub append-requires : goal.append-requires
append-requires g c = lent-append _ _ _ _ c.requires.room_in_bounds c.requires.i_bound

pub returns : goal.returns
returns g c =
    let a = c.args in
    lent_back _ a.i.0 a.room _ a.store.now c.append.ensures
