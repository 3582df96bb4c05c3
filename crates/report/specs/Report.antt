-- The report of a wall's rows: what `write` answers and leaves, in terms of the words and bytes it was lent.
use Rattle.std.specs.Prelude.{true, List, [], ◌∷◌, ◌++◌, ◌≡◌, ℕ, ◌+◌, ◌*◌, ◌≤◌, ◌<◌, ltb, length, drop, Result, Ok, Err}
use Rattle.lists.specs.Choice.{refuse_if, first_of}
use Rattle.lists.specs.Same.{Same}
use Rattle.interval.specs.Tuple.{same_row}
use Rattle.plan.specs.declared.Partitioning.{Partitioning}
use Rattle.part.specs.Part.{counted, rows_in}
use Rattle.store.specs.Store.{row_part, sound_rows}
use Rattle.checks.specs.Stores.{rows_number}
use Rattle.report.specs.Order.{sorted}
use Rattle.report.specs.Text.{head_bytes, row_bytes, row_count, text_of}
use Rattle.refusal.specs.Refusal.{answer_number}
use Rattle.refusal.specs.declared.Refusal.{Refusal}

-- the bytes that the text of so many rows surely fits in (proved in proofs/Bounds.antt: text-bound)
abbrev pub text_room : ℕ → ℕ
text_room n = head_bytes + row_bytes * n

-- checks 1 to 5, with 18, of plan and store 3, as of every call that is lent that store alone; and 4 again where the
-- buffer is too short, which stands last since only a sound store tells how many rows there are
unfoldable pub report_number : Partitioning → List ℕ → ℕ → ℕ
report_number p rows room =
    first_of (rows_number p rows ∷ (refuse_if (ltb room (text_room (row_count p rows))) 4 ∷ []))

-- the rows store before and after: each lane holds its rows, now sorted ("Rows may stand in any order in a lane"), and
-- every other word is as it was
pub record SortedStore (p : Partitioning) (rows rows' : List ℕ) : Type 0 where
  pub long : length rows' ≡ length rows
  pub sound : sound_rows p rows' ≡ true
  pub counts : (i : ℕ) → i < p.count → counted (row_part p rows' i) ≡ counted (row_part p rows i)
  pub held : (i : ℕ) → i < p.count → Same same_row (rows_in (row_part p rows' i)) (rows_in (row_part p rows i))
  pub ordered : (i : ℕ) → i < p.count → sorted (rows_in (row_part p rows' i)) ≡ true

-- the text in the buffer's first bytes; the bytes after it keep their contents
pub record TextWritten (p : Partitioning) (rows' out out' : List ℕ) (bytes : ℕ) : Type 0 where
  pub text : out' ≡ text_of p rows' ++ drop (length (text_of p rows')) out
  pub size : bytes ≡ length (text_of p rows')
  pub within : bytes ≤ length out

-- what the call answers: the length of the text, or a refusal, with no text
abbrev pub Reported : Type 0
Reported = Result ℕ Refusal

abbrev pub bytes_of : Result ℕ Refusal → ℕ
bytes_of (Ok bytes) = bytes
bytes_of (Err refusal) = 0

pub record ReportWritten (p : Partitioning) (rows out rows' out' : List ℕ) (r : Reported) : Type 0 where
  pub number : answer_number r ≡ report_number p rows (length out)
  pub refused : (answer_number r ≡ 0 → ⊥) → (rows' ≡ rows) × ((out' ≡ out) × (bytes_of r ≡ 0))
  pub store : answer_number r ≡ 0 → SortedStore p rows rows'
  pub written : answer_number r ≡ 0 → TextWritten p rows' out out' (bytes_of r)
