-- `soundness::zeros_one_by_one` meets its contract. The loop's invariant: the words from i on decide.
-- Assumes nothing.
use mathlib.Core.Path.{◌≡◌}
use lib.ListN.{drop}
use Rattle.lists.specs.Words.{zeros}
use Rattle.soundness.proofs.zeros_one_by_one.Given as goal

abbrev pub invariant-loop-i : goal.invariant-loop-i
invariant-loop-i l = zeros (drop l.from l.words) ≡ zeros (drop l.i l.words)
