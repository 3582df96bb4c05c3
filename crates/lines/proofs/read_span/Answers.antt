-- `lines::read_span` meets its contract: a number up to the first comma, and a number after it; a comma more is none.
-- Assumes nothing.
use native.Mathlib.Omega.{arith}
use Rattle.lines.proofs.Answers.{number-value, number-refused}
use Rattle.lines.proofs.Fields.{cut_before, cut_after}
use Rattle.lines.proofs.Forms.{span_none, span-first, span_last, span_value}
use Rattle.lines.proofs.read_span.Goals as goal

pub returns-then-rest-c : goal.returns-then-rest-c
returns-then-rest-c c =
    let at = c.args in
    let bs = c.args.rest.now in
    let k = c.place_of-c in
    span_none at.word at.label at.item bs k.result k.ensures (omega arith)

pub returns-in_default : goal.returns-in_default
returns-in_default c =
    let at = c.args in
    let bs = c.args.rest.now in
    let k = c.place_of-c in
    let r = c.read_number in
    span-first at.word at.label at.item bs k.result k.ensures
    (omega (arith, c.if-rest-c.false))
    (number-refused (cut_before k.result bs) r.result r.ensures c.in_default.is)

pub returns-in_default-read_number : goal.returns-in_default-read_number
returns-in_default-read_number c =
    let at = c.args in
    let bs = c.args.rest.now in
    let k = c.place_of-c in
    let r = c.read_number-2 in
    span_last at.word at.label at.item bs k.result k.ensures
    (omega (arith, c.if-rest-c.false))
    (number-refused (cut_after k.result bs) r.result r.ensures c.in_default-read_number.is)

pub returns : goal.returns
returns c =
    let at = c.args in
    let bs = c.args.rest.now in
    let k = c.place_of-c in
    let r = c.read_number in
    let s = c.read_number-2 in
    span_value at.word at.label at.item bs k.result k.ensures c.in-Some.first c.in-Some-read_number.last
    (omega (arith, c.if-rest-c.false))
    (number-value (cut_before k.result bs) r.result c.in-Some.first r.ensures c.in-Some.is)
    (number-value (cut_after k.result bs) s.result c.in-Some-read_number.last s.ensures c.in-Some-read_number.is)
