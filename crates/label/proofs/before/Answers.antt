-- `label::before` meets its contract: the seven bytes read are the array's first seven.
-- Assumes nothing.
use mathlib.Core.Path.{ap}
use mathlib.Core.List.{List, ◌∷◌}
use Prim.Native.Nat.{ℕ}
use Rattle.lists.proofs.Parts.{reads-are}
use native.Mathlib.Omega.{arith}
use Rattle.label.proofs.before.Goals as goal

pub returns : goal.returns
returns c = ap (λ (l : List ℕ). c.args.b ∷ l) (reads-are 7 0 0 0 c.args.after (omega arith))
