-- `soundness::records_between` meets its contract. The loop's invariant: the records from k on decide.
-- Assumes nothing.
use mathlib.Core.Path.{◌≡◌}
use lib.ListN.{drop}
use Rattle.lists.specs.Members.{all}
use Rattle.lists.specs.Words.{records_of}
use Rattle.soundness.specs.Between.{width_of, record_between}
use Rattle.soundness.proofs.records_between.Given as goal

abbrev pub invariant-loop-k : goal.invariant-loop-k
invariant-loop-k l = all (record_between l.kind l.first.0 l.last.0) (records_of (width_of l.kind) l.n (drop 1 l.part))
    ≡ all (record_between l.kind l.first.0 l.last.0) (drop l.k (records_of (width_of l.kind) l.n (drop 1 l.part)))
