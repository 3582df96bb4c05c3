-- `lines::read_change` meets its contract: a label up to the first comma, and the numbers after it.
-- Assumes nothing.
use native.Mathlib.Omega.{arith}
use Rattle.lines.proofs.Answers.{label-value, label-refused}
use Rattle.lines.proofs.Fields.{cut_before}
use Rattle.lines.proofs.Forms.{change-none, change-label, change-numbers}
use Rattle.lines.proofs.read_change.Goals as goal

pub returns-then-rest-c : goal.returns-then-rest-c
returns-then-rest-c c =
    let w = c.args.word in
    let bs = c.args.rest.now in
    let k = c.place_of-c in
    change-none w bs k.result k.ensures (omega arith)

pub returns-in_default : goal.returns-in_default
returns-in_default c =
    let w = c.args.word in
    let bs = c.args.rest.now in
    let k = c.place_of-c in
    let r = c.read_label in
    change-label w bs k.result k.ensures (omega (arith, c.if-rest-c.false))
    (label-refused (cut_before k.result bs) r.result r.ensures c.in_default.is)

pub returns : goal.returns
returns c =
    let w = c.args.word in
    let bs = c.args.rest.now in
    let k = c.place_of-c in
    let l = c.read_label in
    change-numbers w bs k.result k.ensures c.read_numbers.result c.in-Some.label
    (omega (arith, c.if-rest-c.false))
    (label-value (cut_before k.result bs) l.result c.in-Some.label l.ensures c.in-Some.is)
    c.read_numbers.ensures
