-- `exports::ruthgarwy_requirements` meets its contract: lengths, then `requirements::of_sweep` with the plan that the
-- words say.
-- Assumes nothing.
use Rattle.exports.proofs.Exporting.{requirements-called}
use Rattle.exports.proofs.ruthgarwy_requirements.Goals as goal

pub returns : goal.returns
returns c =
    let a = c.args in
    requirements-called a.plan.now a.outer.now a.inner.now a.report.now a.answer.now
    c.of_sweep-r.new.report c.tell_size-2.new.answer c.in-Ok.p
    c.tell_size-2.result c.of_sweep-r.result c.in-Ok.ensures.number c.in-Ok.ensures.plan
    c.tell_size-2.ensures c.of_sweep-r.ensures
