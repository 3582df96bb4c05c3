-- `stream::finish` meets its contract.
-- Assumes nothing.
use mathlib.Core.Path.{◌≡◌, sym, ◌∙◌, ap}
use Prim.Native.Nat.{◌≤◌}
use native.Mathlib.Omega.{arith}
use lib.ListN.{length, take}
use lib.Seq.{length-take-le}
use Rattle.refusal_text.proofs.Refusals.{unfinished-length}
use Rattle.text_end.proofs.Endings.{rest-counted}
use Rattle.stream.specs.Taking.{kept_bytes}
use Rattle.stream.specs.Finishing.{rest_text}
use Rattle.stream.proofs.Finishes.{finish-short, finish_with, finish-without, rest-taken, rest-within}
use Rattle.stream.proofs.finish.Goals as goal

pub returns-then-out-lt-FINISH_BYTES : goal.returns-then-out-lt-FINISH_BYTES
returns-then-out-lt-FINISH_BYTES c = finish-short _ _ _ c.if-out-lt-FINISH_BYTES.true

pub slice_bounds-rest-end : goal.slice_bounds-rest-end
slice_bounds-rest-end c =
    let within : c.put_rest-n.result ≤ length c.put_rest-n.new.rest =
    rest-within _ _ _ _ c.put_rest-n.ensures in
    within

pub slice_bounds-finish_report-end : goal.slice_bounds-finish_report-end
slice_bounds-finish_report-end c =
    let within : c.put_rest-n.result ≤ length c.put_rest-n.new.rest =
    rest-within _ _ _ _ c.put_rest-n.ensures in
    let counted : c.put_rest-n.result ≡ length (take c.put_rest-n.result c.put_rest-n.new.rest) =
    sym (length-take-le _ _ within) in
    counted

pub finish_report-requires : goal.finish_report-requires
finish_report-requires c =
    let rest-is : take c.put_rest-n.result c.put_rest-n.new.rest
    ≡ rest_text c.args.s =
    rest-taken _ _ _ _ c.put_rest-n.ensures
    ∙ rest-counted c.args.s.lines c.args.s.kept c.args.s.line (omega (arith, c.well_formed.0.1.1.1.1.1.0.1.0.1)) in
    let rest-size : length (take c.put_rest-n.result c.put_rest-n.new.rest) ≤ 50 =
    let s = c.args.s in
    omega (arith, ap length rest-is, unfinished-length s.lines (kept_bytes s)) in
    omega (arith, rest-size, c.if-out-lt-FINISH_BYTES.false)

pub returns-then-session : goal.returns-then-session
returns-then-session c =
    let rest-is : take c.put_rest-n.result c.put_rest-n.new.rest
    ≡ rest_text c.args.s =
    rest-taken _ _ _ _ c.put_rest-n.ensures
    ∙ rest-counted c.args.s.lines c.args.s.kept c.args.s.line (omega (arith, c.well_formed.0.1.1.1.1.1.0.1.0.1)) in
    finish_with _ _ _ c.if-out-lt-FINISH_BYTES.false _ rest-is c.if-session.true _ _ _ c.finish_report.ensures

pub slice_bounds-rest-end-2 : goal.slice_bounds-rest-end-2
slice_bounds-rest-end-2 c =
    let within : c.put_rest-n.result ≤ length c.put_rest-n.new.rest =
    rest-within _ _ _ _ c.put_rest-n.ensures in
    within

pub slice_bounds-finish_plain-end : goal.slice_bounds-finish_plain-end
slice_bounds-finish_plain-end c =
    let within : c.put_rest-n.result ≤ length c.put_rest-n.new.rest =
    rest-within _ _ _ _ c.put_rest-n.ensures in
    let counted : c.put_rest-n.result ≡ length (take c.put_rest-n.result c.put_rest-n.new.rest) =
    sym (length-take-le _ _ within) in
    counted

pub finish_plain-requires : goal.finish_plain-requires
finish_plain-requires c =
    let rest-is : take c.put_rest-n.result c.put_rest-n.new.rest
    ≡ rest_text c.args.s =
    rest-taken _ _ _ _ c.put_rest-n.ensures
    ∙ rest-counted c.args.s.lines c.args.s.kept c.args.s.line (omega (arith, c.well_formed.0.1.1.1.1.1.0.1.0.1)) in
    let rest-size : length (take c.put_rest-n.result c.put_rest-n.new.rest) ≤ 50 =
    let s = c.args.s in
    omega (arith, ap length rest-is, unfinished-length s.lines (kept_bytes s)) in
    omega (arith, rest-size, c.if-out-lt-FINISH_BYTES.false)

pub returns : goal.returns
returns c =
    let rest-is : take c.put_rest-n.result c.put_rest-n.new.rest
    ≡ rest_text c.args.s =
    rest-taken _ _ _ _ c.put_rest-n.ensures
    ∙ rest-counted c.args.s.lines c.args.s.kept c.args.s.line (omega (arith, c.well_formed.0.1.1.1.1.1.0.1.0.1)) in
    finish-without _ _ _ c.if-out-lt-FINISH_BYTES.false _ rest-is c.if-session.false _ _ c.finish_plain.ensures
