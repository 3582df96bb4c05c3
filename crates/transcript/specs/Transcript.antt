-- A session's lines, one after the other, as `session::step`'s own promise has them: the numbers that they got, what
-- the plain machine of demand 3 is told of them, the session and the lent stores after them.
use Rattle.std.specs.Prelude.{List, [], ◌∷◌, ℕ}
use Rattle.interval.specs.declared.tuple.Tuple.{Tuple}
use Rattle.rows.specs.declared.Side.TheVariants.{Outer, Inner}
use Rattle.refusal.specs.Refusal.{answer_number}
use Rattle.checks.specs.Stores.{Stores}
use Rattle.history.specs.Machine.{Call, insert, delete, Told}
use Rattle.lines.specs.Line.{line_of}
use Rattle.lines.specs.declared.Word.{Word}
use Rattle.lines.specs.declared.Word.TheVariants.{DrawIn, DrawOut, SpotIn, SpotOut}
use Rattle.lines.specs.declared.Line.{Line}
use Rattle.lines.specs.declared.Line.TheVariants.{Lane, Least, Change, Malformed}
use Rattle.session_plan.specs.Lanes.{fresh}
use Rattle.session_plan.specs.declared.Session.{Session}
use Rattle.session.specs.Session.{Stepped, stepped_to, SteppedBy}

-- the call that a change asks for: `drawin` and `spotin` insert, `drawout` and `spotout` withdraw
abbrev pub call_of : Word → Tuple → Call
call_of DrawIn t = insert Outer t
call_of DrawOut t = delete Outer t
call_of SpotIn t = insert Inner t
call_of SpotOut t = delete Inner t

-- what the machine was told, the newest first, after a line that got that number: it is "told which call is made, on
-- which side, with which tuple .. and whether it answered 0"; of a lane line, of a `least` line and of a line that is
-- not of the form, nothing
abbrev pub heard : Line → ℕ → List Told → List Told
heard (Lane m) n ts = ts
heard (Least minimum) n ts = ts
heard (Change w t) n ts = record { call = call_of w t; number = n } ∷ ts
heard Malformed n ts = ts

-- the lines that a session took since `fresh`, on lent words S₀ of any contents, which nobody else writes in: the
-- number of each, the newest first, what the machine was told, the session and the words after them. A line is the
-- bytes before its byte 10.
pub data Transcript (S₀ : Stores) : List ℕ → List Told → Session → Stores → Type 0 where
  begun : Transcript S₀ [] [] fresh S₀
  then : {ns : List ℕ} {ts : List Told} {s : Session} {S S' : Stores} {r : Stepped} (bytes : List ℕ)
      → Transcript S₀ ns ts s S → SteppedBy s (line_of bytes) S S' r
      → Transcript S₀ (answer_number r ∷ ns) (heard (line_of bytes) (answer_number r) ts) (stepped_to s r) S'
