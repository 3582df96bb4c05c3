-- `lines::read_least` meets its contract: the rest of the line is a number, or the line is malformed.
-- Assumes nothing.
use Rattle.lines.proofs.Answers.{number-value, number-refused}
use Rattle.lines.proofs.Forms.{least-refused, least-value}
use Rattle.lines.proofs.read_least.Goals as goal

pub returns-in_default : goal.returns-in_default
returns-in_default c =
    let bs = c.args.rest.now in
    let r = c.read_number in
    least-refused bs (number-refused bs r.result r.ensures c.in_default.is)

pub returns : goal.returns
returns c =
    let bs = c.args.rest.now in
    let r = c.read_number in
    least-value bs c.in-Some.minutes (number-value bs r.result c.in-Some.minutes r.ensures c.in-Some.is)
