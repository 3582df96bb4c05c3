-- What the program's loop keeps: the calls of `stream` that were made so far are a run of the theorem of the program's
-- text (crate `program_text`), on stores that had the words of 8 lanes. So no call is refused, and what they wrote is
-- what the theorem says.
use Rattle.std.specs.Prelude.{List, ℕ, ◌≤◌, length, Ok}
use Rattle.checks.specs.Stores.{Stores, stores}
use Rattle.session.specs.Session.{EightPartitions}
use Rattle.stream.specs.Taking.{TakenBy}
use Rattle.stream.specs.Finishing.{FinishedBy}
use Rattle.stream.specs.declared.Reading.{Reading}
use Rattle.stream.specs.declared.Taken.{Taken}
use Rattle.program_text.specs.Streamed.{Reads}

-- the stores as they were at first, the parts taken since, the last first, and what was written for them
pub record Following (reading : Reading) (S : Stores) : Type 0 where
  pub first : Stores
  pub long : EightPartitions first
  pub parts : List (List ℕ)
  pub text : List ℕ
  pub reads : Reads first parts text reading S

-- the same where only the rows store is at hand
pub record FollowingRows (reading : Reading) (rows : List ℕ) : Type 0 where
  pub outer : List ℕ
  pub inner : List ℕ
  pub follows : Following reading (stores outer inner rows)

-- a part that was taken, as `take` promises it where it is not refused: it is one of the run's, and its text lies
-- within the buffer
pub record PartFollowed (s : Reading) (part out : List ℕ) (S : Stores) (out' : List ℕ) (S' : Stores) (r : Taken)
    : Type 0 where
  pub taken : TakenBy s part out S out' S' (Ok r)
  pub follows : Following r.reading S'
  pub within : r.bytes ≤ length out'

-- the end of the text, as `finish` promises it
pub record EndFollowed (s : Reading) (rows out rows' out' : List ℕ) (bytes : ℕ) : Type 0 where
  pub ended : FinishedBy s rows out rows' out' (Ok bytes)
  pub within : bytes ≤ length out'
