-- The end of the input: what `finish` answers and leaves, for any reading, any words and any bytes. The report is that
-- of the words in use (`report::write`'s own promise), behind the refusal of an unfinished last line.
use Rattle.std.specs.Prelude.{true, false, List, [], ◌∷◌, ◌++◌, ◌≡◌, ℕ, ◌+◌, ◌-◌, ltb, length, take, drop}
use Rattle.lists.specs.Choice.{pick, refuse_if, first_of}
use Rattle.refusal_text.specs.Refusals.{refusal_room, unfinished_text}
use Rattle.report.specs.Text.{count_line}
use Rattle.refusal.specs.Refusal.{answer_number}
use Rattle.report.specs.Report.{text_room, report_number, Reported, bytes_of, ReportWritten}
use Rattle.session_plan.specs.Lanes.{plan_of, used_rows, wall_rows_most}
use Rattle.text_end.specs.Ending.{Finished}
use Rattle.stream.specs.Taking.{kept_bytes, onto}
use Rattle.stream.specs.declared.Reading.{Reading}

-- the refusal of an unfinished last line
abbrev pub rest_text : Reading → List ℕ
rest_text s = unfinished_text s.lines (kept_bytes s)

-- a refusal, and the report of the most rows: 8 lanes of 64
abbrev pub finish_room : ℕ
finish_room = refusal_room + text_room wall_rows_most

-- 4 for a shorter text buffer; then the report's own number, which no session meets that began with `fresh` on stores
-- in which nobody else writes
unfoldable pub finish_number : Reading → List ℕ → ℕ → ℕ
finish_number s rows room =
    first_of
    (refuse_if (ltb room finish_room) 4
    ∷ (pick s.session.complete
    (report_number (plan_of s.session) (take (used_rows s.session) rows) (room - length (rest_text s)))
    0
    ∷ []))

-- the report of the words in use, into the text buffer from the place after the refusal on
pub record ReportAfter (s : Reading) (rows out rows' out' : List ℕ) (r : Finished) : Type 0 where
  pub reported : Reported
  pub number : answer_number reported ≡ 0
  pub report : ReportWritten (plan_of s.session) (take (used_rows s.session) rows) (drop (length (rest_text s)) out)
      (take (used_rows s.session) rows') (drop (length (rest_text s)) out') reported
  pub beyond : drop (used_rows s.session) rows' ≡ drop (used_rows s.session) rows
  pub rest : take (length (rest_text s)) out' ≡ rest_text s
  pub bytes : bytes_of r ≡ length (rest_text s) + bytes_of reported

-- "No complete plan: `rows,0`."
pub record NoReport (s : Reading) (rows out rows' out' : List ℕ) (r : Finished) : Type 0 where
  pub store : rows' ≡ rows
  pub text : out' ≡ onto (rest_text s ++ count_line 0) out
  pub bytes : bytes_of r ≡ length (rest_text s ++ count_line 0)

pub record FinishedBy (s : Reading) (rows out rows' out' : List ℕ) (r : Finished) : Type 0 where
  pub number : answer_number r ≡ finish_number s rows (length out)
  pub refused : (answer_number r ≡ 0 → ⊥) → (rows' ≡ rows) × ((out' ≡ out) × (bytes_of r ≡ 0))
  pub complete : answer_number r ≡ 0 → s.session.complete ≡ true → ReportAfter s rows out rows' out' r
  pub incomplete : answer_number r ≡ 0 → s.session.complete ≡ false → NoReport s rows out rows' out' r
