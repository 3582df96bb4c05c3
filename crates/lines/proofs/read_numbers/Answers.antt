-- `lines::read_numbers` meets its contract: a number up to the first comma, and the minutes after it.
-- Assumes nothing.
use native.Mathlib.Omega.{arith}
use Rattle.lines.proofs.Answers.{number-value, number-refused}
use Rattle.lines.proofs.Fields.{cut_before}
use Rattle.lines.proofs.Forms.{numbers-none, numbers-item, numbers-span}
use Rattle.lines.proofs.read_numbers.Goals as goal

pub returns-then-rest-c : goal.returns-then-rest-c
returns-then-rest-c c =
    let w = c.args.word in
    let label = c.args.label in
    let bs = c.args.rest.now in
    let k = c.place_of-c in
    numbers-none w label bs k.result k.ensures (omega arith)

pub returns-in_default : goal.returns-in_default
returns-in_default c =
    let w = c.args.word in
    let label = c.args.label in
    let bs = c.args.rest.now in
    let k = c.place_of-c in
    let r = c.read_number in
    numbers-item w label bs k.result k.ensures (omega (arith, c.if-rest-c.false))
    (number-refused (cut_before k.result bs) r.result r.ensures c.in_default.is)

pub returns : goal.returns
returns c =
    let w = c.args.word in
    let label = c.args.label in
    let bs = c.args.rest.now in
    let k = c.place_of-c in
    let l = c.read_number in
    numbers-span w label bs k.result k.ensures c.read_span.result c.in-Some.item
    (omega (arith, c.if-rest-c.false))
    (number-value (cut_before k.result bs) l.result c.in-Some.item l.ensures c.in-Some.is)
    c.read_span.ensures
