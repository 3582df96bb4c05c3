-- The program's work on one line (document 01, "Lines and the program"): the words of the lent stores that a session
-- uses, the number that a line gets, and what a line leaves. The session, its plan, how many words its lanes use and
-- the checks of a lane line and of a `least` line are in crate `session_plan`.
-- The laws are in proofs/: Reached (the sessions that steps reach), Numbers (the numbers that they meet).
use Rattle.std.specs.Prelude.{not, [], ◌∷◌, ◌≡◌, ℕ, ◌≤◌, eqb, length, take, drop, Result, Ok, Err}
use Rattle.lists.specs.Choice.{pick, refuse_if, first_of}
use Rattle.interval.specs.Time.{calendar_end}
use Rattle.interval.specs.declared.time.Chronon.{Chronon}
use Rattle.interval.specs.declared.tuple.Tuple.{Tuple}
use Rattle.plan.specs.declared.Partitioning.{Partitioning}
use Rattle.rows.specs.declared.Side.{Side}
use Rattle.rows.specs.declared.Side.TheVariants.{Outer, Inner}
use Rattle.checks.specs.Stores.{Stores, stores, open_number}
use Rattle.refusal.specs.Refusal.{answer_number}
use Rattle.refusal.specs.declared.Refusal.{Refusal}
use Rattle.checks.specs.Answer.{Answer}
use Rattle.join.specs.Opening.{blank}
use Rattle.join.specs.Changes.{insert_number, delete_number, Changed}
use Rattle.join.specs.declared.Kind.{Kind}
use Rattle.join.specs.declared.Kind.TheVariants.{Insert, Delete}
use Rattle.lines.specs.Line.{line_number}
use Rattle.lines.specs.declared.Word.{Word}
use Rattle.lines.specs.declared.Word.TheVariants.{DrawIn, DrawOut, SpotIn, SpotOut}
use Rattle.lines.specs.declared.Line.{Line}
use Rattle.lines.specs.declared.Line.TheVariants.{Lane, Least, Change, Malformed}
use Rattle.session_plan.specs.Lanes.{plan_of, with_lane, with_minimum, used_tuples, used_rows, wall_tuple_words, wall_row_words}
use Rattle.session_plan.specs.Lanes.{lane_check, least_check}
use Rattle.session_plan.specs.declared.Session.{Session}

-- ---- the lent stores, and the words in use

-- lent stores that have the words of 8 lanes, as the program's have
pub record EightPartitions (S : Stores) : Type 0 where
  pub outer : wall_tuple_words ≤ length S.outer
  pub inner : wall_tuple_words ≤ length S.inner
  pub rows : wall_row_words ≤ length S.rows

-- the wall: the words in use
abbrev pub wall_of : Session → Stores → Stores
wall_of s S =
    stores (take (used_tuples s) S.outer) (take (used_tuples s) S.inner) (take (used_rows s) S.rows)

-- the words beyond them
abbrev pub rest_of : Session → Stores → Stores
rest_of s S =
    stores (drop (used_tuples s) S.outer) (drop (used_tuples s) S.inner) (drop (used_rows s) S.rows)

-- ---- a lane line

-- the lane that completes the plan opens the wall, with open's own checks: 4 where a lent store is shorter than the
-- plan needs, which only a direct caller can meet
unfoldable pub lane_number : Session → Chronon → Stores → ℕ
lane_number s m S =
    first_of
    (lane_check s m.0
    ∷ (pick (eqb m.0 calendar_end) (open_number (plan_of (with_lane s m)) (wall_of (with_lane s m) S)) 0 ∷ []))

-- ---- a change: the call that its word asks for

-- `in` inserts, `out` withdraws
abbrev pub kind_of : Word → Kind
kind_of DrawIn = Insert
kind_of DrawOut = Delete
kind_of SpotIn = Insert
kind_of SpotOut = Delete

-- `draw` is the side of drawings, `spot` that of spots
abbrev pub side_of : Word → Side
side_of DrawIn = Outer
side_of DrawOut = Outer
side_of SpotIn = Inner
side_of SpotOut = Inner

-- the number of a call of that kind
abbrev pub number_of : Kind → Partitioning → Side → Tuple → Stores → ℕ
number_of Insert p side t S = insert_number p side t S
number_of Delete p side t S = delete_number p side t S

abbrev pub call_number : Word → Partitioning → Tuple → Stores → ℕ
call_number w p t S = number_of (kind_of w) p (side_of w) t S

abbrev pub Called : Word → Partitioning → Tuple → Stores → Stores → Answer → Type 0
Called w p t S S' a = Changed (kind_of w) p (side_of w) t S S' a

-- 16 for "a change before the plan is complete", which comes before all others; then the call's own number
unfoldable pub change_line_number : Session → Word → Tuple → Stores → ℕ
change_line_number s w t S =
    first_of (refuse_if (not s.complete) 16 ∷ (call_number w (plan_of s) t (wall_of s S) ∷ []))

-- ---- a line: its number, and the session after it

-- a line that is not of the form has a number of its own, whatever the session
abbrev pub step_number : Session → Line → Stores → ℕ
step_number s (Lane m) S = lane_number s m S
step_number s (Least n) S = least_check s n
step_number s (Change w t) S = change_line_number s w t S
step_number s Malformed S = line_number Malformed

-- the session that a line makes where it is accepted
abbrev pub session_with : Session → Line → Session
session_with s (Lane m) = with_lane s m
session_with s (Least n) = with_minimum s n
session_with s (Change w t) = s
session_with s Malformed = s

unfoldable pub session_after : Session → Line → Stores → Session
session_after s line S = pick (eqb (step_number s line S) 0) (session_with s line) s

-- ---- what an accepted line leaves in the stores

-- a wall that was opened: every word in use is 0, and no other word changed
pub record WallOpened (s : Session) (S S' : Stores) : Type 0 where
  pub wall : wall_of s S' ≡ blank (wall_of s S)
  pub rest : rest_of s S' ≡ rest_of s S

-- a call on the wall: what it answered and left in the words in use, and no other word changed
pub record WallChanged (s : Session) (w : Word) (t : Tuple) (S S' : Stores) : Type 0 where
  pub answer : Answer
  pub number : answer_number answer ≡ 0
  pub wall : Called w (plan_of s) t (wall_of s S) (wall_of s S') answer
  pub rest : rest_of s S' ≡ rest_of s S

-- a lane line: every word is kept, or the wall is opened where it completes the plan
pub record LaneTaken (s : Session) (m : Chronon) (S S' : Stores) : Type 0 where
  pub between : (m.0 ≡ calendar_end → ⊥) → S' ≡ S
  pub completing : m.0 ≡ calendar_end → WallOpened (with_lane s m) S S'

-- a `least` line leaves every word as it was
abbrev pub Taken : Session → Line → Stores → Stores → Type 0
Taken s (Lane m) S S' = LaneTaken s m S S'
Taken s (Least n) S S' = S' ≡ S
Taken s (Change w t) S S' = WallChanged s w t S S'
Taken s Malformed S S' = ⊥

-- ---- a step: the stores S before and S' after a line that a session took

-- what a line gets: the session after it, or its refusal
abbrev pub Stepped : Type 0
Stepped = Result Session Refusal

-- the session after a line: the answer's, or where it was refused the one before
abbrev pub stepped_to : Session → Stepped → Session
stepped_to s (Ok next) = next
stepped_to s (Err refusal) = s

pub record SteppedBy (s : Session) (line : Line) (S S' : Stores) (r : Stepped) : Type 0 where
  pub number : answer_number r ≡ step_number s line S
  pub session : stepped_to s r ≡ session_after s line S
  pub refused : (answer_number r ≡ 0 → ⊥) → (stepped_to s r ≡ s) × (S' ≡ S)
  pub accepted : answer_number r ≡ 0 → Taken s line S S'

-- ---- the parts of a step: opening a wall, and a change

pub record WallOpening (s : Session) (S S' : Stores) (n : ℕ) : Type 0 where
  pub number : n ≡ open_number (plan_of s) (wall_of s S)
  pub refused : (n ≡ 0 → ⊥) → S' ≡ S
  pub accepted : n ≡ 0 → WallOpened s S S'

pub record WallChanging (s : Session) (w : Word) (t : Tuple) (S S' : Stores) (n : ℕ) : Type 0 where
  pub number : n ≡ change_line_number s w t S
  pub refused : (n ≡ 0 → ⊥) → S' ≡ S
  pub accepted : n ≡ 0 → WallChanged s w t S S'
