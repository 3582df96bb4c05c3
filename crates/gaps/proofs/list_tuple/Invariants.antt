-- `gaps::list_tuple` meets its contract. The loop's invariant is `Listing`: what is left are the records from minute m
-- on. The measure is how many minutes are left. Assumes nothing.
use Prim.Native.Nat.{suc, ◌-◌}
use Rattle.gaps.specs.Listed.{gaps_by}
use Rattle.gaps.proofs.Placing.{Listing}
use Rattle.gaps.proofs.Records.{records_from}
use Rattle.gaps.proofs.list_tuple.Given as goal

abbrev pub invariant-loop-m : goal.invariant-loop-m
invariant-loop-m l =
    Listing l.initial.out l.initial.records (gaps_by l.p l.inner l.d)
    (records_from l.p l.inner l.d l.m) l.out l.records

abbrev pub decreases-loop-m : goal.decreases-loop-m
decreases-loop-m l = suc l.end - l.m
