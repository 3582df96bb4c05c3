-- `part::times_of_row` meets its contract. The loop's invariant is `Tallied`: k rows are seen, and `times`
-- of them equal the row. Assumes nothing.
use Rattle.interval.specs.Tuple.{same_row}
use Rattle.part.specs.Part.{rows_in}
use Rattle.part.proofs.Loops.{Tallied}
use Rattle.part.proofs.times_of_row.Given as goal

abbrev pub invariant-loop-k : goal.invariant-loop-k
invariant-loop-k l = Tallied (same_row l.row) (rows_in l.part) l.k l.equal_rows
