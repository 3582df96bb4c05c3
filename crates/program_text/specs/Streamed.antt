-- The theorem of the program's text, stated: for every list of bytes and every way to cut it into parts, what the calls
-- of `stream` write, in order, is the text of the whole input. It is proved in proofs/Streams.antt (`streamed`), with
-- what follows from it and with laws of the definitions.
use Rattle.std.specs.Prelude.{false, List, [], ◌∷◌, ◌++◌, map, ◌≡◌, ℕ, ◌*◌, ◌≤◌, length, take, Result}
use Rattle.lists.specs.Members.{any}
use Rattle.refusal.specs.Refusal.{answer_number}
use Rattle.refusal.specs.declared.Refusal.{Refusal}
use Rattle.checks.specs.Stores.{Stores}
use Rattle.lines.specs.Line.{in_capitals}
use Rattle.refusal_text.specs.Refusals.{refusal_room, last_line, line_count, refusals, unfinished_text}
use Rattle.session.specs.Session.{EightPartitions}
use Rattle.report.specs.Report.{bytes_of}
use Rattle.text_end.specs.Ending.{Finished}
use Rattle.stream.specs.Input.{is_end, finished_lines, unfinished, values_of, values_after, rest_after}
use Rattle.stream.specs.Taking.{kept_most, at_start, taken_of, TakenBy}
use Rattle.stream.specs.Finishing.{finish_room, FinishedBy}
use Rattle.stream.specs.declared.Reading.{Reading}
use Rattle.stream.specs.declared.Taken.{Taken}
use Rattle.program_text.specs.Text.{begun, numbers_of, text_of_input}

-- `start`, then `take` of one part after the other, as its own promise has it: parts of any size, empty ones too, on
-- lent words S₀ of any contents, which nobody else writes in; each call is lent a text buffer of its own, of any
-- contents, with room. The parts, the last first; what was written, the bytes that each call tells; the reading and the
-- words after them.
pub data Reads (S₀ : Stores) : List (List ℕ) → List ℕ → Reading → Stores → Type 0 where
  started : Reads S₀ [] [] at_start S₀
  then : {parts : List (List ℕ)} {text : List ℕ} {s : Reading} {S S' : Stores} {out out' : List ℕ}
      {r : Result Taken Refusal} (part : List ℕ) → Reads S₀ parts text s S → refusal_room * length part ≤ length out
      → TakenBy s part out S out' S' r
      → Reads S₀ (part ∷ parts) (text ++ take (taken_of s r).bytes out') (taken_of s r).reading S'

-- the input that parts, the last first, make
abbrev pub input_of : List (List ℕ) → List ℕ
input_of [] = []
input_of (part ∷ parts) = input_of parts ++ part

-- and then `finish`, lent the store of rows and a text buffer with room: all that is written for the parts
pub data Prints (S₀ : Stores) : List (List ℕ) → List ℕ → Type 0 where
  finished : {parts : List (List ℕ)} {text : List ℕ} {s : Reading} {S : Stores} {out rows' out' : List ℕ} {r : Finished}
      → Reads S₀ parts text s S → finish_room ≤ length out → FinishedBy s S.rows out rows' out' r
      → Prints S₀ parts (text ++ take (bytes_of r) out')

-- what was written after some parts is the refusals of the lines finished so far; all that is written is the text of
-- the input
pub record Written (S₀ : Stores) (parts : List (List ℕ)) : Type 0 where
  pub sofar : (text : List ℕ) (s : Reading) (S : Stores) → Reads S₀ parts text s S
      → text ≡ refusals 0 (numbers_of begun (values_of (input_of parts)))
  pub whole : (text : List ℕ) → Prints S₀ parts text → text ≡ text_of_input (input_of parts)

-- the theorem, for lent stores that have the words of 8 lanes
abbrev pub Streamed : Type 0
Streamed = (S₀ : Stores) → EightPartitions S₀ → (parts : List (List ℕ)) → Written S₀ parts

-- ---- what follows

-- how an input is cut changes nothing in what is written, and neither does what the stores and the buffers held
abbrev pub CutsDoNotMatter : Type 0
CutsDoNotMatter =
    (S₀ S₁ : Stores) → EightPartitions S₀ → EightPartitions S₁
    → (ps qs : List (List ℕ)) → input_of ps ≡ input_of qs
    → (text other : List ℕ) → Prints S₀ ps text → Prints S₁ qs other → text ≡ other

-- what is written after some parts begins the text of every input that begins with them: a program that stops there,
-- since a read or a write failed, leaves a prefix of the text
abbrev pub Prefix : Type 0
Prefix =
    (S₀ : Stores) → EightPartitions S₀
    → (parts : List (List ℕ)) (text : List ℕ) (s : Reading) (S : Stores) → Reads S₀ parts text s S
    → (more : List ℕ) → (rest : List ℕ) × (text_of_input (input_of parts ++ more) ≡ text ++ rest)

-- no call of such a run is refused: with room for its text, each `take` answers 0, and so does `finish`
pub record NotRefused (s : Reading) (S : Stores) : Type 0 where
  pub taken : (part out out' : List ℕ) (S' : Stores) (r : Result Taken Refusal)
      → refusal_room * length part ≤ length out → TakenBy s part out S out' S' r → answer_number r ≡ 0
  pub ended : (out rows' out' : List ℕ) (r : Finished) → finish_room ≤ length out
      → FinishedBy s S.rows out rows' out' r → answer_number r ≡ 0

abbrev pub NeverRefused : Type 0
NeverRefused =
    (S₀ : Stores) → EightPartitions S₀
    → (parts : List (List ℕ)) (text : List ℕ) (s : Reading) (S : Stores) → Reads S₀ parts text s S → NotRefused s S

-- ---- laws of the definitions

-- of an unfinished line 81 bytes are kept at most, which decides nothing: after those that are kept, a part finishes
-- lines of the values, leaves the bytes kept and gets the refusal that it would after all bytes of the line, which have
-- no byte 10
pub record KeptSame (bytes part : List ℕ) : Type 0 where
  pub values : values_after (take kept_most bytes) part ≡ values_of (bytes ++ part)
  pub kept : take kept_most (rest_after (take kept_most bytes) part) ≡ take kept_most (unfinished (bytes ++ part))
  pub refusal : (n : ℕ) → unfinished_text n (take kept_most bytes) ≡ unfinished_text n bytes

abbrev pub KeptDecideNothing : Type 0
KeptDecideNothing = (bytes part : List ℕ) → any is_end bytes ≡ false → KeptSame bytes part

-- "lines counted from 1": after fewer than 2^64 lines the count is how many they are
abbrev pub Counted : Type 0
Counted = (numbers : List ℕ) → length numbers ≤ last_line → line_count 0 numbers ≡ length numbers

-- document 02, (a), of whole inputs: whether a label stands in small letters changes nothing that is printed. Two
-- inputs whose finished lines are the same once their labels stand in capitals, with the same unfinished end, have one
-- text
abbrev pub CaseDoesNotMatter : Type 0
CaseDoesNotMatter =
    (xs ys : List ℕ) → map in_capitals (finished_lines xs) ≡ map in_capitals (finished_lines ys)
    → unfinished xs ≡ unfinished ys → text_of_input xs ≡ text_of_input ys
