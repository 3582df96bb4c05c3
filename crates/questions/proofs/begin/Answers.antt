-- `questions::begin` meets its contract. Assumes nothing.
use Prim.Native.Nat.{◌<◌}
use native.Mathlib.Omega.{arith}
use lib.ListN.{length}
use Rattle.questions.proofs.Loops.{changed-none, changed-next, changed-more, changed-all}
use Rattle.questions.proofs.Loops.{window-none, window_more, window-all}
use Rattle.questions.proofs.begin.Goals as goal

pub loop-q-init : goal.loop-q-init
loop-q-init c = (changed-none _ c.args.qs.now, window-none c.args.qs.now _ c.no_window-window.ensures)

pub loop-q-preserved : goal.loop-q-preserved
loop-q-preserved c =
    let qs = c.args.qs.now in
    let at = c.loop-q in
    let here : at.q-index < length qs = omega arith in (
      changed-more _ qs at.q-index at.invariant.0 here _ _ c.cleared.ensures,
      window_more qs at.q-index at.window _ _ at.invariant.1 here (changed-next _ qs at.q-index at.invariant.0 _) _
          c.widened-window.ensures,
    )

pub returns : goal.returns
returns c =
    let qs = c.args.qs.now in
    let at = c.loop-q in (
      changed-all _ qs at.q-index at.invariant.0 c.loop-q-test.false,
      window-all qs at.q-index at.window at.invariant.1 c.loop-q-test.false,
    )
