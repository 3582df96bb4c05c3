-- A reading of the input, and what `start` and `take` answer and leave, for any reading, any bytes and any lent words:
-- by the steps that the lines make (`session::step`'s own promise), since the stores after a line are only related to
-- those before it.
use Rattle.std.specs.Prelude.{◌||◌, List, [], ◌∷◌, ◌++◌, ◌≡◌, ℕ, ◌+◌, ◌*◌, ltb, length, take, drop, replicate}
use Rattle.std.specs.Prelude.{Result, Ok, Err}
use Rattle.lists.specs.Choice.{pick, refuse_if}
use Rattle.lists.specs.Members.{any}
use Rattle.checks.specs.Stores.{Stores}
use Rattle.lines.specs.Line.{line_length, line_of}
use Rattle.lines.specs.declared.Line.{Line}
use Rattle.text_buffer.specs.Buffer.{Put}
use Rattle.refusal_text.specs.Refusals.{answer_text, refusal_room, next_line, line_count, refusals}
use Rattle.session_plan.specs.Lanes.{fresh}
use Rattle.session_plan.specs.declared.Session.{Session}
use Rattle.refusal.specs.Refusal.{answer_number}
use Rattle.refusal.specs.declared.Refusal.{Refusal}
use Rattle.session.specs.Session.{Stepped, stepped_to, SteppedBy}
use Rattle.stream.specs.Input.{is_end, values_after, rest_after}
use Rattle.stream.specs.declared.Reading.{Reading}
use Rattle.stream.specs.declared.Taken.{Taken}

-- ---- lines one after the other, the first line first: their numbers, the session and the stores after them

pub data Steps : Session → Stores → List Line → List ℕ → Session → Stores → Type 0 where
  none : {s : Session} {S : Stores} → Steps s S [] [] s S
  then : {s s' : Session} {S S' S'' : Stores} {line : Line} {lines : List Line} {ns : List ℕ} {r : Stepped}
      → SteppedBy s line S S' r → Steps (stepped_to s r) S' lines ns s' S''
      → Steps s S (line ∷ lines) (answer_number r ∷ ns) s' S''

-- ---- a reading

-- of an unfinished line 81 bytes are kept at most: "at most 80 bytes", so the 81st tells already that it is too long
abbrev pub kept_most : ℕ
kept_most = line_length + 1

abbrev pub blank_line : List ℕ
blank_line = replicate kept_most 0

-- after so many finished lines, and before the next one's first byte
abbrev pub between_lines : Session → ℕ → Reading
between_lines s n = record { session = s; lines = n; kept = 0; line = blank_line }

-- before the first byte of all
abbrev pub at_start : Reading
at_start = between_lines fresh 0

abbrev pub kept_bytes : Reading → List ℕ
kept_bytes s = take s.kept s.line

-- bytes at the start of a buffer; the bytes after them keep their contents
abbrev pub onto : List ℕ → List ℕ → List ℕ
onto bytes buffer = bytes ++ drop (length bytes) buffer

-- ---- a part of the input

-- 4 for a reading that keeps more bytes than it has room for, and for a text buffer without room for a refusal for each
-- byte of the part, of which each may end a line
unfoldable pub take_number : Reading → ℕ → ℕ → ℕ
take_number s size room = refuse_if (ltb kept_most s.kept || ltb room (refusal_room * size)) 4

-- the bytes since the last byte 10, as far as they are kept, after a part
abbrev pub kept_after : Reading → List ℕ → List ℕ
kept_after s part = take kept_most (rest_after (kept_bytes s) part)

-- the lines that the part finishes made these steps, and their refusals are the buffer's first bytes
pub record PartTaken (s : Reading) (part out : List ℕ) (S : Stores) (out' : List ℕ) (S' : Stores) (r : Taken)
    : Type 0 where
  pub numbers : List ℕ
  pub steps : Steps s.session S (values_after (kept_bytes s) part) numbers r.reading.session S'
  pub lines : r.reading.lines ≡ line_count s.lines numbers
  pub kept : r.reading.kept ≡ length (kept_after s part)
  -- a byte 10 blanks the line's bytes
  pub line : r.reading.line ≡ onto (kept_after s part) (pick (any is_end part) blank_line s.line)
  pub text : out' ≡ onto (refusals s.lines numbers) out
  pub bytes : r.bytes ≡ length (refusals s.lines numbers)

-- the reading after a part and the bytes of its text: a part that is refused leaves the reading, and there is no text
abbrev pub taken_of : Reading → Result Taken Refusal → Taken
taken_of s (Ok taken) = taken
taken_of s (Err refusal) = record { reading = s; bytes = 0 }

pub record TakenBy (s : Reading) (part out : List ℕ) (S : Stores) (out' : List ℕ) (S' : Stores)
    (r : Result Taken Refusal) : Type 0 where
  pub number : answer_number r ≡ take_number s (length part) (length out)
  pub refused : (answer_number r ≡ 0 → ⊥)
      → ((taken_of s r).reading ≡ s) × (((taken_of s r).bytes ≡ 0) × ((out' ≡ out) × (S' ≡ S)))
  pub accepted : answer_number r ≡ 0 → PartTaken s part out S out' S' (taken_of s r)

-- ---- what the private steps promise one another

-- bytes of the unfinished line, kept as far as there is room
abbrev pub with_bytes : Reading → List ℕ → Reading
with_bytes s bytes =
    let k = take kept_most (kept_bytes s ++ bytes) in
    record { session = s.session; lines = s.lines; kept = length k; line = onto k s.line }

-- byte 10: a step, and its refusal
pub record LineEnded (s : Reading) (at : ℕ) (out : List ℕ) (S : Stores) (out' : List ℕ) (S' : Stores) (r : Taken)
    : Type 0 where
  pub stepped : Stepped
  pub step : SteppedBy s.session (line_of (kept_bytes s)) S S' stepped
  pub reading : r.reading ≡ between_lines (stepped_to s.session stepped) (next_line s.lines)
  pub text : Put at (answer_text (next_line s.lines) (answer_number stepped)) out out' r.bytes
