-- `exports::ruthgarwy_delete` meets its contract: a change of its kind, with the side and the tuple that the words say.
-- Assumes nothing.
use Rattle.join.specs.declared.Kind.TheVariants.{Delete}
use Rattle.exports.proofs.Exporting.{change-said}
use Rattle.exports.proofs.ruthgarwy_delete.Goals as goal

pub returns : goal.returns
returns c =
    let a = c.args in
    change-said Delete a.plan.now _ _ _ _ _ _ _ _ _ _ _ _ _ c.side_of.ensures c.tuple_of-gone.ensures
    c.change.ensures
