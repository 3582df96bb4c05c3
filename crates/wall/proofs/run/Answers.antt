-- Before the first part the run is empty.
use Rattle.std.proofs.Common.{List, [], ◌≡◌, ℕ, length, rules, arith, sym, subst}
use Rattle.checks.specs.Stores.{stores}
use Rattle.session_plan.specs.Lanes.{wall_tuple_words, wall_row_words}
use Rattle.stream.specs.Taking.{at_start}
use Rattle.stream.specs.declared.Reading.{Reading}
use Rattle.program_text.specs.Streamed.{started}
use Rattle.wall.specs.Run.{Following}
use Rattle.wall.proofs.run.Goals as goal

begin : (r : Reading) (outer inner rows : List ℕ) → r ≡ at_start → length outer ≡ wall_tuple_words
    → length inner ≡ wall_tuple_words → length rows ≡ wall_row_words → Following r (stores outer inner rows)
begin r outer inner rows e a b c =
    subst (λ (v : Reading). Following v (stores outer inner rows)) (sym e)
    (record {
      first = stores outer inner rows;
      long = record { outer = omega (arith, a); inner = omega (arith, b); rows = omega (arith, c) };
      parts = [];
      text = [];
      reads = started;
    })

pub loop-init : goal.loop-init
loop-init c = record {
  outer = search rules;
  inner = search rules;
  rows = search rules;
  part = search rules;
  text = search rules;
  follows = begin _ _ _ _ c.start-reading.ensures (search rules) (search rules) (search rules);
}
