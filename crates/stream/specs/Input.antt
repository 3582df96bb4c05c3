-- The lines of an input (document 01: "A line is at most 80 bytes before its byte 10; an unfinished last line ..").
-- The laws are in proofs/Cuts.antt: cutting the input changes neither its lines nor its unfinished rest. Closed cases
-- are in proofs/Cases.antt.
use Rattle.std.specs.Prelude.{Bool, List, [], ◌∷◌, ◌++◌, map, ℕ}
use Rattle.lists.specs.Choice.{pick}
use Rattle.lists.specs.Members.{any}
use Rattle.lines.specs.Fields.{line_end, is_byte}
use Rattle.lines.specs.Line.{line_of}
use Rattle.lines.specs.declared.Line.{Line}

-- byte 10
abbrev pub is_end : ℕ → Bool
is_end b = is_byte line_end b

-- bytes in front of the first of some finished lines; where there is none, their line is not finished
abbrev pub in_front : List ℕ → List (List ℕ) → List (List ℕ)
in_front u [] = []
in_front u (l ∷ ls) = (u ++ l) ∷ ls

-- the finished lines, in order: for each byte 10 the bytes before it, back to the byte 10 before that
abbrev pub finished_lines : List ℕ → List (List ℕ)
finished_lines [] = []
finished_lines (b ∷ bs) = pick (is_end b) ([] ∷ finished_lines bs) (in_front (b ∷ []) (finished_lines bs))

-- the bytes after the last byte 10, all where there is none: the unfinished last line, if there are any
abbrev pub unfinished : List ℕ → List ℕ
unfinished [] = []
unfinished (b ∷ bs) = pick (any is_end (b ∷ bs)) (unfinished bs) (b ∷ bs)

-- the values of the finished lines
abbrev pub values_of : List ℕ → List Line
values_of bs = map line_of (finished_lines bs)

-- after bytes of an unfinished line: the values of the lines that a part finishes, and the unfinished bytes then
abbrev pub values_after : List ℕ → List ℕ → List Line
values_after kept part = map line_of (in_front kept (finished_lines part))

abbrev pub rest_after : List ℕ → List ℕ → List ℕ
rest_after kept part = pick (any is_end part) (unfinished part) (kept ++ part)
