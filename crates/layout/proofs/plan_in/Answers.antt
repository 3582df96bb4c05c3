-- `layout::plan_in` meets its contract: three words, the 64 last minutes after them, and the minimum.
-- Assumes nothing.
use Rattle.layout.proofs.Words.{plan-said}
use Rattle.layout.proofs.plan_in.Goals as goal

pub returns : goal.returns
returns c = plan-said c.args.words.now c.lasts_in-lasts.result c.lasts_in-lasts.ensures
