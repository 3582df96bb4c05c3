-- Closed cases that compute, from the definitions that the theorem cites: document 01's example, from the bytes of its
-- lines to what the machine holds after them, and from that to the bytes of its output, with the minimum 1 and with 5;
-- then lines that are refused, or tell the machine nothing.
-- Assumes nothing.
use mathlib.Core.List.{List, [], ◌∷◌, ◌++◌, map}
use mathlib.Core.Option.{Option, some}
use mathlib.Core.Path.{◌≡◌, refl}
use Prim.Native.Nat.{ℕ, ◌-◌}
use Prim.Native.Char.{code}
use Prim.Native.String.{String, [] as []ₛ, ◌∷◌ as ◌∷ₛ◌}
use lib.ListN.{length, replicate}
use Rattle.label.specs.Label.{rank, is_letter, is_label, label_number, capital, capitals, is_label_field}
use Rattle.label.specs.Label.{field_label_number, letters_of}
use Rattle.interval.specs.Time.{overlap, durability, durable}
use Rattle.interval.specs.Tuple.{tuple, same_label, same_interval, same_tuple}
use Rattle.interval.specs.declared.tuple.Tuple.{Tuple}
use Rattle.plan.specs.Plan.{cuts_of, home_of, home}
use Rattle.plan.specs.declared.Partitioning.{Partitioning}
use Rattle.store.specs.Store.{rows_at}
use Rattle.rows.specs.Join.{rows_of_pair, join_of}
use Rattle.history.specs.Machine.{Told, Machine, machine_after}
use Rattle.lines.specs.Fields.{is_number, value_of, digits_of}
use Rattle.lines.specs.Line.{lane_of, least_of, change_of, worded, form_of, line_of}
use Rattle.report.specs.Order.{before}
use Rattle.report.specs.Text.{row_line, count_line}
use Rattle.transcript.specs.Transcript.{heard}
use Rattle.transcript.specs.Rows.{put_row, sort_rows, lane_lines, printed_rows}

-- ---- how a case is written

abbrev bytes : String → List ℕ
bytes []ₛ = []
bytes (c ∷ₛ s) = code c ∷ bytes s

-- a line and the number that it got
pub record Got : Type 0 where
  pub line : String
  pub number : ℕ

abbrev got : String → ℕ → Got
got l n = record { line = l; number = n }

-- what the machine was told of lines, the first line first
abbrev told_of : List Got → List Told → List Told
told_of [] ts = ts
told_of (g ∷ gs) ts = told_of gs (heard (line_of (bytes g.line)) g.number ts)

abbrev plan : ℕ → List ℕ → Partitioning
plan n cuts = record {
  count = n;
  lasts = map (λ (m : ℕ). record { 0 = m }) (cuts ++ replicate (64 - length cuts) 0);
  tuples = 32;
  rows = 64;
  minimum = 1;
}

abbrev three : Partitioning
three = plan 3 (34 ∷ 40 ∷ 99999999 ∷ [])

abbrev holds : List Tuple → List Tuple → Option Machine
holds ds ss = some (record { plan = three; outer = ds; inner = ss })

-- ---- document 01's example

abbrev example : List Got
example =
    got "lane,34" 0
    ∷ got "lane,40" 0
    ∷ got "lane,99999999" 0
    ∷ got "drawin,AL,10,30,31" 0
    ∷ got "drawin,AL,11,32,32" 0
    ∷ got "drawin,AL,10,33,40" 0
    ∷ got "drawin,AL,11,41,48" 0
    ∷ got "spotin,AL,1,30,35" 0
    ∷ got "spotin,AL,2,36,48" 0
    ∷ []

abbrev drawings : List Tuple
drawings = tuple 38 11 41 48 ∷ tuple 38 10 33 40 ∷ tuple 38 11 32 32 ∷ tuple 38 10 30 31 ∷ []

abbrev spots : List Tuple
spots = tuple 38 2 36 48 ∷ tuple 38 1 30 35 ∷ []

example-told : machine_after three (told_of example []) ≡ holds drawings spots
unfolding is_number value_of rank is_letter is_label label_number capital capitals is_label_field field_label_number
    lane_of change_of worded form_of line_of
example-told = refl

abbrev output : List ℕ
output =
    bytes "rows,5\n"
    ++ bytes "1,AL,10,1,30,31\n"
    ++ bytes "1,AL,11,1,32,32\n"
    ++ bytes "2,AL,10,1,33,35\n"
    ++ bytes "2,AL,10,2,36,40\n"
    ++ bytes "3,AL,11,2,41,48\n"

example-printed : printed_rows three (join_of 1 drawings spots) ≡ output
unfolding printed_rows lane_lines sort_rows put_row before row_line count_line digits_of letters_of overlap durability durable
    same_label rows_of_pair join_of rows_at home home_of cuts_of
example-printed = refl

-- with `least,5` (document 02, (f)) the rows of 2, 1 and 3 minutes are none; that of 5 is one
example-least : printed_rows three (join_of 5 drawings spots)
    ≡ bytes "rows,2\n" ++ bytes "2,AL,10,2,36,40\n" ++ bytes "3,AL,11,2,41,48\n"
unfolding printed_rows lane_lines sort_rows put_row before row_line count_line digits_of letters_of overlap durability durable
    same_label rows_of_pair join_of rows_at home home_of cuts_of
example-least = refl

-- ---- refused lines, and lines that tell nothing

-- a `least` line before the lane lines, a change before the plan is complete, a lane that does not rise, a minimum out
-- of range, no line of the form, a `least` line after the plan is complete; then a drawing inserted twice and withdrawn
-- once, its label in small letters (document 02, (a)), and a withdrawal that finds no such spot
abbrev mixed : List Got
mixed =
    got "least,1" 0
    ∷ got "drawin,AL,10,30,31" 16
    ∷ got "lane,34" 0
    ∷ got "lane,34" 2
    ∷ got "least,0" 18
    ∷ got "lane,40" 0
    ∷ got "lane" 15
    ∷ got "lane,99999999" 0
    ∷ got "least,15" 16
    ∷ got "drawin,AL,10,30,31" 0
    ∷ got "drawin,AL,10,30,31" 0
    ∷ got "drawout,al,10,30,31" 0
    ∷ got "spotout,AL,1,30,35" 11
    ∷ []

mixed-told : machine_after three (told_of mixed []) ≡ holds (tuple 38 10 30 31 ∷ []) []
unfolding is_number value_of rank is_letter is_label label_number capital capitals is_label_field field_label_number
    lane_of least_of change_of worded form_of line_of same_interval same_tuple
mixed-told = refl
