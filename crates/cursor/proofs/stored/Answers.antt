-- `cursor::stored` meets its contract. Assumes nothing.
use mathlib.Core.Path.{◌∙◌}
use native.Mathlib.Omega.{arith}
use Rattle.rows.specs.Partners.{examined_from}
use Rattle.cursor.proofs.Cursors.{roomy-tuples, scanned-length}
use Rattle.cursor.proofs.stored.Goals as goal

pub examined_from-requires : goal.examined_from-requires
examined_from-requires c =
    let pre = c.requires in
    record {
      roomy = roomy-tuples _ _ pre;
      from_le_count = omega (arith, pre.inside);
    }

pub returns : goal.returns
unfolding examined_from
returns c = c.examined_from.ensures ∙ scanned-length _ _ _ _
