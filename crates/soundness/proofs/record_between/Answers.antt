-- `soundness::record_between` meets its contract: by the kind, the record is read as a tuple or as a row.
-- Assumes nothing.
use mathlib.Core.Path.{◌∙◌, ap}
use Prim.Native.Nat.{ℕ}
use lib.Dec.{eqb}
use Rattle.interval.specs.Tuple.{legal_tuple}
use Rattle.refusal.proofs.Answering.{accepted-test}
use Rattle.soundness.proofs.Loops.{tuple-read, row_read}
use Rattle.soundness.proofs.record_between.Goals as goal

pub record_at-t-requires : goal.record_at-t-requires
record_at-t-requires c = rw c.in-Tuples.is at c.requires

pub record_at-row-requires : goal.record_at-row-requires
record_at-row-requires c = rw c.in-Rows.is at c.requires

pub returns-in-Tuples : goal.returns-in-Tuples
unfolding legal_tuple
returns-in-Tuples c =
    let a = c.args in
    rw c.in-Tuples.is
    (c.legal_between.ensures
    ∙ tuple-read a.first.0 a.last.0 a.k c.is_ok-legal.result a.part.now
    c.record_at-t.result c.record_at-t.ensures
    (c.is_ok-legal.ensures.value
    ∙ accepted-test c.tuple_number.result
    ∙ ap (λ (n : ℕ). eqb n 0) c.tuple_number.ensures))

pub returns-in-Rows : goal.returns-in-Rows
returns-in-Rows c =
    let a = c.args in
    rw c.in-Rows.is
    (c.legal_between-in-Rows.ensures
    ∙ row_read a.first.0 a.last.0 a.k c.legal_row-legal.result a.part.now _
    c.record_at-row.result c.record_at-row.ensures c.legal_row-legal.ensures)
