-- `soundness::any_of_eight` meets its contract: the joined bits of eight words.
-- Assumes nothing.
use Rattle.soundness.proofs.Zeros.{eight-test}
use Rattle.soundness.proofs.any_of_eight.Goals as goal

pub returns : goal.returns
returns c =
    eight-test c.args.words.now
    c.args.i
    c.requires
