-- The end of the text: the refusal of an unfinished last line, by how many of its bytes are kept; and a report behind a
-- refusal in hand (`report::write`'s own promise), of the words in use. The laws are in proofs/Endings.antt.
use Rattle.std.specs.Prelude.{List, [], ◌≡◌, ℕ, zero, suc, ◌+◌, length, take, drop, Result}
use Rattle.lines.specs.Line.{line_number}
use Rattle.lines.specs.declared.Line.TheVariants.{Malformed}
use Rattle.refusal_text.specs.Refusals.{refusal_line, next_line}
use Rattle.refusal.specs.Refusal.{answer_number}
use Rattle.refusal.specs.declared.Refusal.{Refusal}
use Rattle.report.specs.Report.{Reported, bytes_of, ReportWritten}
use Rattle.session_plan.specs.Lanes.{plan_of, used_rows}
use Rattle.session_plan.specs.declared.Session.{Session}

-- "an unfinished last line gives 15": the line after n lines, of which so many bytes are kept; of none there is no line
unfoldable pub rest_refusal : ℕ → ℕ → List ℕ
rest_refusal n zero = []
rest_refusal n (suc kept) = refusal_line (next_line n) (line_number Malformed)

-- what the end of the input gets: how many bytes of text there are, or a refusal, with no text
abbrev pub Finished : Type 0
Finished = Result ℕ Refusal

-- a report behind a refusal in hand: into the text buffer from the place after the refusal on
pub record ReportEnded (s : Session) (rest rows out rows' out' : List ℕ) (r : Finished) : Type 0 where
  pub reported : Reported
  pub report : ReportWritten (plan_of s) (take (used_rows s) rows) (drop (length rest) out) (take (used_rows s) rows')
      (drop (length rest) out') reported
  pub number : answer_number r ≡ answer_number reported
  pub refused : (answer_number r ≡ 0 → ⊥) → (rows' ≡ rows) × ((out' ≡ out) × (bytes_of r ≡ 0))
  pub beyond : drop (used_rows s) rows' ≡ drop (used_rows s) rows
  pub start : answer_number r ≡ 0 → take (length rest) out' ≡ rest
  pub bytes : answer_number r ≡ 0 → bytes_of r ≡ length rest + bytes_of reported
