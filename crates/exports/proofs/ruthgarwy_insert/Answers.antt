-- `exports::ruthgarwy_insert` meets its contract: a change of its kind, with the side and the tuple that the words say.
-- Assumes nothing.
use Rattle.join.specs.declared.Kind.TheVariants.{Insert}
use Rattle.exports.proofs.Exporting.{change-said}
use Rattle.exports.proofs.ruthgarwy_insert.Goals as goal

pub returns : goal.returns
returns c =
    let a = c.args in
    change-said Insert a.plan.now _ _ _ _ _ _ _ _ _ _ _ _ _ c.side_of.ensures c.tuple_of-new.ensures
    c.change.ensures
