-- The text of refusals (document 01: "A refused line prints `refused,LINE,NUMBER`, lines counted from 1.").
-- Closed cases are in proofs/Cases.antt.
use Rattle.std.specs.Prelude.{List, [], ◌∷◌, ◌++◌, ℕ, ◌+◌, ltb, eqb}
use Rattle.lists.specs.Choice.{pick}
use Rattle.lines.specs.Fields.{comma, line_end, digits_of}
use Rattle.lines.specs.Line.{line_number}
use Rattle.lines.specs.declared.Line.TheVariants.{Malformed}
use Rattle.text_buffer.specs.Buffer.{ended}

-- `refused`
abbrev pub refused_bytes : List ℕ
refused_bytes = 114 ∷ (101 ∷ (102 ∷ (117 ∷ (115 ∷ (101 ∷ (100 ∷ []))))))

-- "A refused line prints `refused,LINE,NUMBER`"
unfoldable pub refusal_line : ℕ → ℕ → List ℕ
refusal_line line number =
    ended refused_bytes comma ++ (ended (digits_of line) comma ++ ended (digits_of number) line_end)

-- an accepted line prints nothing
unfoldable pub answer_text : ℕ → ℕ → List ℕ
answer_text line number = pick (eqb number 0) [] (refusal_line line number)

-- the bytes that a refusal surely fits in: `refused,`, two numbers of at most 20 digits, a comma and byte 10
abbrev pub refusal_room : ℕ
refusal_room = 50

-- "lines counted from 1": the number of the line after n lines. The last number of 64 bits stays: no input gets there
abbrev pub last_line : ℕ
last_line = 18446744073709551615

abbrev pub next_line : ℕ → ℕ
next_line n = pick (ltb n last_line) (n + 1) n

-- how many lines there are after those that got these numbers, n before them
abbrev pub line_count : ℕ → List ℕ → ℕ
line_count n [] = n
line_count n (k ∷ ks) = line_count (next_line n) ks

-- the refusals of lines that got these numbers, after n lines
abbrev pub refusals : ℕ → List ℕ → List ℕ
refusals n [] = []
refusals n (k ∷ ks) = answer_text (next_line n) k ++ refusals (next_line n) ks

-- "an unfinished last line gives 15": the line after n lines, of those bytes; of none there is no line
unfoldable pub unfinished_text : ℕ → List ℕ → List ℕ
unfinished_text n [] = []
unfinished_text n (b ∷ bs) = refusal_line (next_line n) (line_number Malformed)
