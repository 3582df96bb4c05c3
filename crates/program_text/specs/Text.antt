-- What the program `wall` prints, as a function of the bytes of its input (document 01, "Lines and the program"): no
-- word of stores or of parts, and of the code only its types. The lines of an input are in `stream` (Input), the text
-- of refusals in `refusal_text`, what a wall answers to a change in `history` (Answering), the text of rows in
-- `transcript` (Rows).
-- Closed cases are in proofs/Cases.antt, document 01's example first.
use Rattle.std.specs.Prelude.{not, List, [], ◌∷◌, ◌++◌, ℕ, eqb}
use Rattle.std.proofs.Math.Option.{Option, none, some}
use Rattle.lists.specs.Choice.{pick, refuse_if, first_of}
use Rattle.interval.specs.declared.tuple.Tuple.{Tuple}
use Rattle.rows.specs.Join.{join_of}
use Rattle.rows.specs.declared.Side.{Side}
use Rattle.join.specs.declared.Kind.{Kind}
use Rattle.join.specs.declared.Kind.TheVariants.{Insert, Delete}
use Rattle.history.specs.Machine.{Machine, accept}
use Rattle.history.specs.Answering.{insert_answer, delete_answer}
use Rattle.lines.specs.Line.{line_number}
use Rattle.lines.specs.declared.Line.{Line}
use Rattle.lines.specs.declared.Line.TheVariants.{Lane, Least, Change, Malformed}
use Rattle.refusal_text.specs.Refusals.{line_count, refusals, unfinished_text}
use Rattle.report.specs.Text.{count_line}
use Rattle.session_plan.specs.Lanes.{fresh, plan_of, with_lane, with_minimum, lane_check, least_check}
use Rattle.session_plan.specs.declared.Session.{Session}
use Rattle.session.specs.Session.{kind_of, side_of}
use Rattle.transcript.specs.Transcript.{call_of}
use Rattle.transcript.specs.Rows.{printed_rows}
use Rattle.stream.specs.Input.{unfinished, values_of}

-- ---- the numbers that lines get, by the plain machine of demand 3

-- the lane lines taken so far, the minimum, and the machine's drawings and spots
pub record State : Type 0 where
  pub session : Session
  pub outer : List Tuple
  pub inner : List Tuple

-- before the first line
abbrev pub begun : State
begun = record { session = fresh; outer = []; inner = [] }

-- the machine, whose plan in force is that of the lane lines and of the last accepted `least` line
abbrev pub machine_of : State → Machine
machine_of s = record { plan = plan_of s.session; outer = s.outer; inner = s.inner }

-- what a wall answers to a change that inserts, to one that withdraws
abbrev pub call_answer : Kind → Machine → Side → Tuple → ℕ
call_answer Insert m side t = insert_answer m side t
call_answer Delete m side t = delete_answer m side t

-- a line's number. "A lane line that isn't above the one before, or an eighth that isn't 99999999, gives 2"; one after
-- the plan is complete gives 16, and so does a change before it; a line that is not of the form gives 15. "For a line,
-- 15 and 16 come before all others." A `least` line "gets 16 once the plan is complete", and "with a number out of
-- range gets 18, after 15 and 16"
abbrev pub answer_to : State → Line → ℕ
answer_to s (Lane m) = lane_check s.session m.0
answer_to s (Least minimum) = least_check s.session minimum
answer_to s (Change w t) =
    first_of (refuse_if (not s.session.complete) 16 ∷ (call_answer (kind_of w) (machine_of s) (side_of w) t ∷ []))
answer_to s Malformed = line_number Malformed

-- the machine's drawings and spots after a call; that it has failed (none) does not come up
abbrev pub holding : State → Option Machine → State
holding s none = s
holding s (some m) = record { session = s.session; outer = m.outer; inner = m.inner }

-- what an accepted line makes of it: one lane more ("the line with 99999999 completes the plan"), a minimum ("the last
-- accepted one counts"), a change; a line that is not of the form is not accepted
abbrev pub accepted : State → Line → State
accepted s (Lane m) = record { session = with_lane s.session m; outer = s.outer; inner = s.inner }
accepted s (Least minimum) = record {
  session = with_minimum s.session minimum;
  outer = s.outer;
  inner = s.inner;
}
accepted s (Change w t) = holding s (accept (call_of w t) (machine_of s))
accepted s Malformed = s

-- a refused line changes nothing ("gives 2 and is not counted"; "neither does a refused call")
unfoldable pub after : State → Line → State
after s line = pick (eqb (answer_to s line) 0) (accepted s line) s

-- lines one after the other: their numbers, in order, and what they leave
abbrev pub numbers_of : State → List Line → List ℕ
numbers_of s [] = []
numbers_of s (line ∷ lines) = answer_to s line ∷ numbers_of (after s line) lines

abbrev pub state_after : State → List Line → State
state_after s [] = s
state_after s (line ∷ lines) = state_after (after s line) lines

-- ---- the text

-- "At the end come `rows,COUNT`, the number of stored rows in all lanes, and the rows by lane, first, last, label
-- number, drawing, spot"; "No complete plan: `rows,0`."
unfoldable pub report_text : State → List ℕ
report_text s =
    pick s.session.complete
    (printed_rows (plan_of s.session) (join_of s.session.minimum s.outer s.inner))
    (count_line 0)

-- of an input whose finished lines have these values and that ends with these unfinished bytes: "A refused line prints
-- `refused,LINE,NUMBER`, lines counted from 1."; "an unfinished last line gives 15"; then the report
abbrev pub text_of_lines : List Line → List ℕ → List ℕ
text_of_lines lines rest =
    let numbers = numbers_of begun lines in
    refusals 0 numbers ++ (unfinished_text (line_count 0 numbers) rest ++ report_text (state_after begun lines))

-- what the program prints for an input
unfoldable pub text_of_input : List ℕ → List ℕ
text_of_input bytes = text_of_lines (values_of bytes) (unfinished bytes)
