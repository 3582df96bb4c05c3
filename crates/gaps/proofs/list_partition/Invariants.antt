-- `gaps::list_partition` meets its contract. The loop's invariant is `Listing`: what is left are the records of the
-- drawings from i on. Assumes nothing.
use lib.ListN.{drop}
use Rattle.lists.specs.Members.{gather}
use Rattle.part.specs.Part.{tuples_in}
use Rattle.gaps.specs.Listed.{gaps_by}
use Rattle.gaps.proofs.Placing.{Listing}
use Rattle.gaps.proofs.list_partition.Given as goal

abbrev pub invariant-loop-i : goal.invariant-loop-i
invariant-loop-i l = Listing l.initial.out l.initial.records (gather (gaps_by l.p l.inner) (tuples_in l.part))
    (gather (gaps_by l.p l.inner) (drop l.i (tuples_in l.part))) l.out l.records
