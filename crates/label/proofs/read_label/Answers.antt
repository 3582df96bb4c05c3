-- `label::read_label` meets its contract: 0 is no label's number.
-- Assumes nothing.
use Rattle.label.proofs.Loops.{read-refused, read-accepted}
use Rattle.label.proofs.read_label.Goals as goal

pub returns-then-n-eq0 : goal.returns-then-n-eq0
returns-then-n-eq0 c =
    read-refused c.args.field.now c.label_number-n.result
    c.label_number-n.ensures c.if-n-eq0.true

pub returns : goal.returns
returns c =
    read-accepted c.args.field.now c.label_number-n.result
    c.label_number-n.ensures c.if-n-eq0.false
