-- `lines::read_line` meets its contract: by the bytes before the first comma, a lane's last minute,
-- a `least` line's minutes or a change.
-- Assumes nothing.
use mathlib.Core.Path.{sym, ◌∙◌}
use native.Mathlib.Omega.{arith}
use Rattle.lines.specs.Line.{lane_bytes, least_bytes, bytes_of}
use Rattle.lines.proofs.Fields.{cut_before, same-bytes-eq}
use Rattle.lines.proofs.Forms.{line-long, line-none, line-lane, line-least, line-change, line_other}
use Rattle.lines.specs.declared.Word.TheVariants.{DrawIn, DrawOut, SpotIn, SpotOut}
use Rattle.lines.proofs.read_line.Goals as goal

pub returns-then-line-gt-LINE_LENGTH : goal.returns-then-line-gt-LINE_LENGTH
returns-then-line-gt-LINE_LENGTH c = line-long c.args.line.now (omega arith)

pub returns-then-line-c : goal.returns-then-line-c
returns-then-line-c c =
    let k = c.place_of-c in
    line-none c.args.line.now (omega arith) k.result k.ensures
    (omega arith)

pub returns-then-eq : goal.returns-then-eq
returns-then-eq c =
    let bs = c.args.line.now in
    let k = c.place_of-c in
    let word = cut_before k.result bs in
    line-lane bs (omega (arith, c.if-line-gt-LINE_LENGTH.false)) k.result k.ensures
    c.read_lane.result (omega (arith, c.if-line-c.false))
    (sym (same-bytes-eq word lane_bytes _ _ c.as_slice.ensures c.eq.ensures) ∙ c.if-eq.true)
    c.read_lane.ensures

pub returns-then-eq-2 : goal.returns-then-eq-2
returns-then-eq-2 c =
    let bs = c.args.line.now in
    let k = c.place_of-c in
    let word = cut_before k.result bs in
    line-least bs (omega (arith, c.if-line-gt-LINE_LENGTH.false)) k.result k.ensures c.read_least.result
    (omega (arith, c.if-line-c.false))
    (sym (same-bytes-eq word least_bytes _ _ c.as_slice-2.ensures c.eq-2.ensures) ∙ c.if-eq-2.true)
    c.read_least.ensures

pub returns-then-eq-3 : goal.returns-then-eq-3
returns-then-eq-3 c =
    let bs = c.args.line.now in
    let k = c.place_of-c in
    let word = cut_before k.result bs in
    line-change bs (omega (arith, c.if-line-gt-LINE_LENGTH.false)) k.result k.ensures
    c.read_change.result DrawIn (omega (arith, c.if-line-c.false))
    (sym (same-bytes-eq word (bytes_of DrawIn) _ _ c.as_slice-3.ensures c.eq-3.ensures) ∙ c.if-eq-3.true)
    c.read_change.ensures

pub returns-then-eq-4 : goal.returns-then-eq-4
returns-then-eq-4 c =
    let bs = c.args.line.now in
    let k = c.place_of-c in
    let word = cut_before k.result bs in
    line-change bs (omega (arith, c.if-line-gt-LINE_LENGTH.false)) k.result k.ensures
    c.read_change-then-eq-4.result DrawOut (omega (arith, c.if-line-c.false))
    (sym (same-bytes-eq word (bytes_of DrawOut) _ _ c.as_slice-4.ensures c.eq-4.ensures) ∙ c.if-eq-4.true)
    c.read_change-then-eq-4.ensures

pub returns-then-eq-5 : goal.returns-then-eq-5
returns-then-eq-5 c =
    let bs = c.args.line.now in
    let k = c.place_of-c in
    let word = cut_before k.result bs in
    line-change bs (omega (arith, c.if-line-gt-LINE_LENGTH.false)) k.result k.ensures
    c.read_change-then-eq-5.result SpotIn (omega (arith, c.if-line-c.false))
    (sym (same-bytes-eq word (bytes_of SpotIn) _ _ c.as_slice-5.ensures c.eq-5.ensures) ∙ c.if-eq-5.true)
    c.read_change-then-eq-5.ensures

pub returns-then-eq-6 : goal.returns-then-eq-6
returns-then-eq-6 c =
    let bs = c.args.line.now in
    let k = c.place_of-c in
    let word = cut_before k.result bs in
    line-change bs (omega (arith, c.if-line-gt-LINE_LENGTH.false)) k.result k.ensures
    c.read_change-then-eq-6.result SpotOut (omega (arith, c.if-line-c.false))
    (sym (same-bytes-eq word (bytes_of SpotOut) _ _ c.as_slice-6.ensures c.eq-6.ensures) ∙ c.if-eq-6.true)
    c.read_change-then-eq-6.ensures

pub returns : goal.returns
returns c =
    let bs = c.args.line.now in
    let k = c.place_of-c in
    let word = cut_before k.result bs in
    line_other bs (omega (arith, c.if-line-gt-LINE_LENGTH.false)) k.result k.ensures
    (omega (arith, c.if-line-c.false))
    (record {
      lane = sym (same-bytes-eq word lane_bytes _ _ c.as_slice.ensures c.eq.ensures) ∙ c.if-eq.false;
      least = sym (same-bytes-eq word least_bytes _ _ c.as_slice-2.ensures c.eq-2.ensures) ∙ c.if-eq-2.false;
      drawin = sym (same-bytes-eq word (bytes_of DrawIn) _ _ c.as_slice-3.ensures c.eq-3.ensures) ∙ c.if-eq-3.false;
      drawout = sym (same-bytes-eq word (bytes_of DrawOut) _ _ c.as_slice-4.ensures c.eq-4.ensures) ∙ c.if-eq-4.false;
      spotin = sym (same-bytes-eq word (bytes_of SpotIn) _ _ c.as_slice-5.ensures c.eq-5.ensures) ∙ c.if-eq-5.false;
      spotout = sym (same-bytes-eq word (bytes_of SpotOut) _ _ c.as_slice-6.ensures c.eq-6.ensures) ∙ c.if-eq-6.false;
    })
