-- `stream::start` meets its contract.
-- Assumes nothing.
use mathlib.Core.Path.{◌∙◌, ap}
use Rattle.session_plan.specs.declared.Session.{Session}
use Rattle.stream.specs.Taking.{between_lines}
use Rattle.stream.proofs.start.Goals as goal

pub returns : goal.returns
returns c = c.between_lines.ensures ∙ ap (λ (s : Session). between_lines s 0) c.start.ensures
