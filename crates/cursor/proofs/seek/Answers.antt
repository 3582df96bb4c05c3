-- `cursor::seek` meets its contract. The loop's invariant is `Looked`: no row from k on before this place touches the
-- window. Assumes nothing.
use mathlib.Core.Path.{sym, ◌∙◌}
use native.Mathlib.Omega.{arith}
use Rattle.cursor.proofs.Cursors.{looked-none, looked-more, looked-here, looked-all}
use Rattle.cursor.proofs.seek.Goals as goal

pub loop-place-init : goal.loop-place-init
loop-place-init c = looked-none _ _ _ c.requires.k_bound

pub returns-then-touches : goal.returns-then-touches
returns-then-touches c =
    looked-here _ c.args.part.now _ _ _ (omega arith) c.record_at-row.ensures (sym c.touches.ensures ∙ c.if-touches.true)
    c.loop-place.invariant _

pub loop-place-preserved : goal.loop-place-preserved
loop-place-preserved c =
    looked-more _ c.args.part.now _ _ _ (omega arith) c.record_at-row.ensures (sym c.touches.ensures ∙ c.if-touches.false)
    c.loop-place.invariant

pub returns : goal.returns
returns c = looked-all _ c.args.part.now _ _ (omega arith) c.loop-place.invariant
