-- Demand 3 of sessions of lines, stated, and that no line gets 17. They are proved in proofs/Sessions.antt
-- (`session-kept`) and proofs/Numbers.antt (`never-late`).
use Rattle.std.specs.Prelude.{Bool, true, false, List, [], ◌∷◌, ◌++◌, ◌≡◌, ℕ, ◌≤◌, eqb, length, drop}
use Rattle.std.proofs.Math.Option.{some}
use Rattle.lists.specs.Members.{all, any}
use Rattle.interval.specs.declared.tuple.Row.{Row}
use Rattle.plan.specs.declared.Partitioning.{Partitioning}
use Rattle.rows.specs.Join.{join_of}
use Rattle.checks.specs.Stores.{Stores}
use Rattle.history.specs.Machine.{Told, Machine, machine_after}
use Rattle.history.specs.KeptCurrent.{Current, Untouched}
use Rattle.refusal.specs.Refusal.{answer_number}
use Rattle.report.specs.Report.{text_room, report_number, Reported, bytes_of, ReportWritten}
use Rattle.lines.specs.Line.{line_of}
use Rattle.lines.specs.declared.Line.{Line}
use Rattle.lines.specs.declared.Line.TheVariants.{Lane, Least, Change, Malformed}
use Rattle.session_plan.specs.Lanes.{wall_rows_most, plan_of}
use Rattle.session_plan.specs.declared.Session.{Session}
use Rattle.session.specs.Session.{EightPartitions, wall_of}
use Rattle.transcript.specs.Transcript.{Transcript, begun, then}
use Rattle.transcript.specs.Rows.{printed_rows}

-- "The program can meet 2, 7 to 11, 15 and 16; the rest only a direct caller can." So it meets neither 5 nor 12, nor 17
-- (see NeverLate below); and 18, of a `least` line (document 02, (f))
abbrev pub numbers_met : List ℕ
numbers_met = 0 ∷ 2 ∷ 7 ∷ 8 ∷ 9 ∷ 10 ∷ 11 ∷ 15 ∷ 16 ∷ 18 ∷ []

abbrev pub is_met : ℕ → Bool
is_met n = any (eqb n) numbers_met

-- of a line that got n: "each accepted change left untouched every rows lane that shares no minute with the changed
-- span"
abbrev pub Framed : Session → Line → ℕ → Stores → Stores → Type 0
Framed s (Lane m) n S S' = Unit {0}
Framed s (Least minimum) n S S' = Unit {0}
Framed s (Change w t) n S S' = n ≡ 0 → Untouched (plan_of s) t (wall_of s S).rows (wall_of s S').rows
Framed s Malformed n S S' = Unit {0}

abbrev pub AllFramed : {S₀ : Stores} {ns : List ℕ} {ts : List Told} {s : Session} {S : Stores}
    → Transcript S₀ ns ts s S → Type 0
AllFramed begun = Unit {0}
AllFramed (then {s = s} {S = S} {S' = S'} {r = r} bytes x b) =
    AllFramed x × Framed s (line_of bytes) (answer_number r) S S'

-- what `report::write`, lent the wall's rows and a buffer, answers and leaves in the buffer: no refusal, and the text
-- of these rows, the bytes after it kept
pub record Printed (p : Partitioning) (rs : List Row) (out out' : List ℕ) (r : Reported) : Type 0 where
  pub number : answer_number r ≡ 0
  pub bytes : bytes_of r ≡ length (printed_rows p rs)
  pub text : out' ≡ printed_rows p rs ++ drop (length (printed_rows p rs)) out

-- what holds after the lines of a transcript
pub record LinesKept {S₀ : Stores} {ns : List ℕ} {ts : List Told} {s : Session} {S : Stores}
    (x : Transcript S₀ ns ts s S) : Type 0 where
  -- every line's number is one that the program can meet
  pub numbers : all is_met ns ≡ true
  -- where the plan is complete, the machine that began with that plan has not failed, and the wall holds what it holds
  pub current : s.complete ≡ true
      → (m : Machine) × (machine_after (plan_of s) ts ≡ some m) × Current m (plan_of s) (wall_of s S)
  -- each accepted change left the other lanes of store 3 as they were
  pub framed : AllFramed x
  -- a report of the wall's rows is never refused, where the buffer has room for the text of the most rows
  pub reported : s.complete ≡ true → (room : ℕ) → text_room wall_rows_most ≤ room
      → report_number (plan_of s) (wall_of s S).rows room ≡ 0
  -- and it prints the rows of the machine's drawings and spots
  pub printed : s.complete ≡ true → (m : Machine) → machine_after (plan_of s) ts ≡ some m
      → (out rows' out' : List ℕ) (r : Reported) → ReportWritten (plan_of s) (wall_of s S).rows out rows' out' r
      → text_room wall_rows_most ≤ length out
      → Printed (plan_of s) (join_of s.minimum m.outer m.inner) out out' r

-- Demand 3 of the program: for every list of lines that a session took since `fresh`, on lent stores that have the
-- words of 8 lanes (1,032, 1,032 and 2,568)
abbrev pub SessionKept : Type 0
SessionKept =
    (S₀ : Stores) → EightPartitions S₀
    → (ns : List ℕ) (ts : List Told) (s : Session) (S : Stores) (x : Transcript S₀ ns ts s S) → LinesKept x

-- Document 02, (c), in the program: a line's LAST has at most eight digits, so no line of any such list gets 17.
abbrev pub NeverLate : Type 0
NeverLate =
    (S₀ : Stores) → EightPartitions S₀
    → (ns : List ℕ) (ts : List Told) (s : Session) (S : Stores) → Transcript S₀ ns ts s S → any (eqb 17) ns ≡ false
