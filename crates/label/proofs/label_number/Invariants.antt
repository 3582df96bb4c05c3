-- `label::label_number` meets its contract. The loop's invariant is `Read`: so many letters at the end are read, and
-- their sum by the table is n. Assumes nothing.
use Rattle.label.proofs.Loops.{Read}
use Rattle.label.proofs.label_number.Given as goal

abbrev pub invariant-loop-after : goal.invariant-loop-after
invariant-loop-after l = Read l.weights l.letters l.after l.n
