-- `gaps::list_store` meets its contract. The loop's invariant is `Listing`: what is left are the records of the
-- partitions from i on. Assumes nothing.
use Rattle.gaps.specs.Listed.{gaps}
use Rattle.gaps.proofs.Placing.{Listing}
use Rattle.gaps.proofs.Stored.{records_left}
use Rattle.gaps.proofs.list_store.Given as goal

abbrev pub invariant-loop-i : goal.invariant-loop-i
invariant-loop-i l =
    Listing l.initial.out 0 (gaps l.p l.outer l.inner) (records_left l.p l.outer l.inner l.i) l.out l.records
