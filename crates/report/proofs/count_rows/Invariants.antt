-- `report::count_rows` meets its contract. The loop's invariant is `CountedTo`: the rows of the lanes before lane i are
-- counted. Assumes nothing.
use Rattle.part.specs.Part.{counted}
use Rattle.store.specs.Store.{row_part}
use Rattle.report.proofs.Bounds.{CountedTo}
use Rattle.report.proofs.count_rows.Given as goal

abbrev pub invariant-loop-i : goal.invariant-loop-i
invariant-loop-i l = CountedTo (λ i. counted (row_part l.fn.p l.rows i)) l.fn.p.count l.i l.count
