-- `gaps::put` meets its contract: the record is written where the buffer has room for it.
-- Assumes nothing.
use mathlib.Core.Path.{◌∙◌}
use Rattle.gaps.proofs.Placing.{placed-here, placed-not}
use Rattle.gaps.proofs.put.Goals.{then-end-out, else-end-out}
use Rattle.gaps.proofs.put.Goals as goal

pub returns : goal.returns
returns c =
    let a = c.args in
    let out = c.if-end-out.out in
    elim c.if-end-out.branch [
      | then-end-out w ↦ placed-here a.out.now a.k a.t out (w.out-is ∙ w.write.ensures)
      | else-end-out w ↦ placed-not a.out.now a.k a.t out w.if-end-out.false w.out-is
    ]

pub shape_of-out : goal.shape_of-out
shape_of-out c = (returns c).long
