-- The buffers keep their lengths, and the calls of `stream` so far are a run of the theorem.
use Rattle.std.proofs.Common.{◌≡◌, ℕ, ◌+◌, ◌*◌, length}
use Rattle.checks.specs.Stores.{stores}
use Rattle.refusal_text.specs.Refusals.{refusal_room}
use Rattle.session_plan.specs.Lanes.{wall_tuple_words, wall_row_words}
use Rattle.stream.specs.Finishing.{finish_room}
use Rattle.wall.specs.Run.{Following}
use Rattle.wall.proofs.run.Given as goal

-- the most bytes of a part
abbrev pub part_most : ℕ
part_most = 4096

abbrev pub invariant-loop : goal.invariant-loop
invariant-loop l = record {
  outer : length l.outer ≡ wall_tuple_words;
  inner : length l.inner ≡ wall_tuple_words;
  rows : length l.rows ≡ wall_row_words;
  part : length l.part ≡ part_most;
  text : length l.text ≡ refusal_room * part_most + finish_room;
  follows : Following l.reading (stores l.outer l.inner l.rows);
}
