-- `question::scan_of` meets its contract: each part is what the function asked for it gives.
-- Assumes nothing.
use Rattle.question.specs.Steps.{scan_of}
use Rattle.question.proofs.scan_of.Goals as goal

pub returns : goal.returns
unfolding scan_of
returns c =
    let args = c.args in
    λ i. record {
      room = c.row_room-room.ensures i;
      count = args.p.count;
      from = record { 0 = c.home-from.ensures i };
      window = args.window;
    }
