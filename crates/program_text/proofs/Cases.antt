-- Closed cases that compute: inputs and their texts. One table, one theorem (`cases-hold`).
-- In order: how a case is written; document 01's example; what a line is; lane lines; changes; rows; small letters in
-- labels; the fewest minutes of a row; the theorem.
-- Assumes nothing.
use mathlib.Core.List.{List, [], ◌∷◌, ◌++◌, map}
use mathlib.Core.Path.{◌≡◌, refl}
use Prim.Native.Nat.{ℕ}
use Prim.Native.Char.{code}
use Prim.Native.String.{String, [] as []ₛ, ◌∷◌ as ◌∷ₛ◌}
use lib.ListN.{replicate}
use Rattle.lists.specs.Choice.{first_of}
use Rattle.lists.specs.Members.{gather}
use Rattle.label.specs.Label.{rank, is_letter, is_label, label_number, capital, capitals, is_label_field}
use Rattle.label.specs.Label.{field_label_number, letters_of, label_check}
use Rattle.interval.specs.Time.{overlap, durability, durable}
use Rattle.interval.specs.Tuple.{same_label, same_interval, same_tuple, tuple_number, item_check, valid_check}
use Rattle.plan.specs.Plan.{cuts_of, minimum_check, home_of, home}
use Rattle.store.specs.Store.{tuples_at, rows_at}
use Rattle.rows.specs.Join.{rows_of_pair, join_of}
use Rattle.history.specs.Answering.{partition_full, rows_pass, insert_answer, delete_answer}
use Rattle.lines.specs.Fields.{is_number, value_of, digits_of}
use Rattle.lines.specs.Line.{lane_of, least_of, change_of, worded, form_of, line_of}
use Rattle.refusal_text.specs.Refusals.{refusal_line, answer_text, unfinished_text}
use Rattle.report.specs.Order.{before}
use Rattle.report.specs.Text.{row_line, count_line}
use Rattle.session_plan.specs.Lanes.{bad_lane, lane_check, least_check}
use Rattle.transcript.specs.Rows.{put_row, sort_rows, lane_lines, printed_rows}
use Rattle.program_text.specs.Text.{after, report_text, text_of_input}

-- ---- how a case is written

abbrev bytes : String → List ℕ
bytes []ₛ = []
bytes (c ∷ₛ s) = code c ∷ bytes s

pub record Case : Type 0 where
  pub input : List ℕ
  pub prints : List ℕ

-- an input and its text, byte for byte
abbrev exact : String → String → Case
exact input text = record { input = bytes input; prints = bytes text }

-- the same by lines, each of which is ended by byte 10
abbrev ended : List String → List ℕ
ended lines = gather (λ l. bytes l ++ (10 ∷ [])) lines

abbrev session : List String → List String → Case
session lines text = record { input = ended lines; prints = ended text }

-- ---- document 01's example

abbrev example : Case
example =
    session
    ("lane,34"
    ∷ "lane,40"
    ∷ "lane,99999999"
    ∷ "drawin,AL,10,30,31"
    ∷ "drawin,AL,11,32,32"
    ∷ "drawin,AL,10,33,40"
    ∷ "drawin,AL,11,41,48"
    ∷ "spotin,AL,1,30,35"
    ∷ "spotin,AL,2,36,48"
    ∷ [])
    ("rows,5"
    ∷ "1,AL,10,1,30,31"
    ∷ "1,AL,11,1,32,32"
    ∷ "2,AL,10,1,33,35"
    ∷ "2,AL,10,2,36,40"
    ∷ "3,AL,11,2,41,48"
    ∷ [])

-- ---- what a line is

-- nothing; empty lines; unfinished last lines, also of the form; byte 13 is a byte like others
abbrev lines : List Case
lines =
    exact "" "rows,0\n"
    ∷ exact "\n" "refused,1,15\nrows,0\n"
    ∷ exact "\n\n" "refused,1,15\nrefused,2,15\nrows,0\n"
    ∷ exact "x" "refused,1,15\nrows,0\n"
    ∷ exact "x\n" "refused,1,15\nrows,0\n"
    ∷ exact "\nx" "refused,1,15\nrefused,2,15\nrows,0\n"
    ∷ exact "lane,5" "refused,1,15\nrows,0\n"
    ∷ exact "lane,5\n" "rows,0\n"
    ∷ exact "lane,99999999\ndrawin,A,1,1,1\nspotin,A,1,1,1" "refused,3,15\nrows,0\n"
    ∷ exact "lane,99999999" "refused,1,15\nrows,0\n"
    ∷ exact "lane,99999999\n" "rows,0\n"
    ∷ exact "lane,5\r\nlane,6\n" "refused,1,15\nrows,0\n"
    ∷ exact "lane,99999999\n\rdrawin,A,1,1,1\n" "refused,2,15\nrows,0\n"
    ∷ []

-- the form, after a plan of one lane: nine letters, small and capital, no letter; a leading 0, nine digits, a space; a
-- field too few or too many, another word, quotes; then 81 bytes, 80 bytes, 81 that end like a line
abbrev forms : List Case
forms =
    session
    ("lane,99999999"
    ∷ "drawin,abcdefghi,1,1,1"
    ∷ "drawin,ABCDEFGHI,1,1,1"
    ∷ "drawin,,1,1,1"
    ∷ "drawin,A,01,1,1"
    ∷ "drawin,A,1,1,100000000"
    ∷ "drawin,A,1, 1,1"
    ∷ "drawin,A,1,1"
    ∷ "drawin,A,1,1,1,"
    ∷ "draw,A,1,1,1"
    ∷ "drawin,\"A\",1,1,1"
    ∷ [])
    ("refused,2,15"
    ∷ "refused,3,15"
    ∷ "refused,4,15"
    ∷ "refused,5,15"
    ∷ "refused,6,15"
    ∷ "refused,7,15"
    ∷ "refused,8,15"
    ∷ "refused,9,15"
    ∷ "refused,10,15"
    ∷ "refused,11,15"
    ∷ "rows,0"
    ∷ [])
    ∷ session
    ("AAAAAAAAAAAAAAAAAAAAAAAAAAAAAAAAAAAAAAAAAAAAAAAAAAAAAAAAAAAAAAAAAAAAAAAAAAAAAAAAA"
    ∷ "AAAAAAAAAAAAAAAAAAAAAAAAAAAAAAAAAAAAAAAAAAAAAAAAAAAAAAAAAAAAAAAAAAAAAAAAAAAAAAAA"
    ∷ "AAAAAAAAAAAAAAAAAAAAAAAAAAAAAAAAAAAAAAAAAAAAAAAAAAAAAAAAAAAAAAAAAAAAlane,99999999"
    ∷ "drawin,A,1,1,1"
    ∷ [])
    ("refused,1,15" ∷ "refused,2,15" ∷ "refused,3,15" ∷ "refused,4,16" ∷ "rows,0" ∷ [])
    ∷ []

-- ---- lane lines

-- not above the one before; an eighth that is not 99999999, which is not counted; the first at 0; after the plan is
-- complete; a change before. 15 and 16 come before 2 and 7
abbrev lanes : List Case
lanes =
    session ("lane,34" ∷ "lane,34" ∷ "lane,33" ∷ "lane,40" ∷ "lane,39" ∷ [])
    ("refused,2,2" ∷ "refused,3,2" ∷ "refused,5,2" ∷ "rows,0" ∷ [])
    ∷ session
    ("lane,1"
    ∷ "lane,2"
    ∷ "lane,3"
    ∷ "lane,4"
    ∷ "lane,5"
    ∷ "lane,6"
    ∷ "lane,7"
    ∷ "lane,8"
    ∷ "lane,99999998"
    ∷ "lane,99999999"
    ∷ "drawin,B,1,8,8"
    ∷ "spotin,B,2,8,8"
    ∷ [])
    ("refused,8,2" ∷ "refused,9,2" ∷ "rows,1" ∷ "8,B,1,2,8,8" ∷ [])
    ∷ session ("lane,0" ∷ "lane,0" ∷ []) ("refused,2,2" ∷ "rows,0" ∷ [])
    ∷ session ("lane,99999999" ∷ "lane,5" ∷ "lane,99999999" ∷ "lane,05" ∷ [])
    ("refused,2,16" ∷ "refused,3,16" ∷ "refused,4,15" ∷ "rows,0" ∷ [])
    ∷ session ("drawin,A,1,1,1" ∷ "lane,5" ∷ "spotout,A,1000000,2,1" ∷ "drawin,a1,1,1,1" ∷ "lane,99999999" ∷ [])
    ("refused,1,16" ∷ "refused,3,16" ∷ "refused,4,15" ∷ "rows,0" ∷ [])
    ∷ session ("lane,99999998" ∷ "lane,99999999" ∷ "drawin,A,1,0,99999999" ∷ "spotin,A,2,99999999,99999999" ∷ [])
    ("rows,1" ∷ "2,A,1,2,99999999,99999999" ∷ [])
    ∷ []

-- ---- changes

-- 7; 8; both; 11 of nothing, of the other side, of a tuple equal in three words, of one that is gone; 9, and the space
-- used again; 10, and the space used again
abbrev changes : List Case
changes =
    session
    ("lane,99999999"
    ∷ "drawin,A,999999,1,1"
    ∷ "drawin,A,1000000,1,1"
    ∷ "drawin,A,1,2,1"
    ∷ "spotout,A,1000000,2,1"
    ∷ [])
    ("refused,3,7" ∷ "refused,4,8" ∷ "refused,5,7" ∷ "rows,0" ∷ [])
    ∷ session
    ("lane,99999999"
    ∷ "drawout,A,1,1,5"
    ∷ "drawin,A,1,1,5"
    ∷ "spotout,A,1,1,5"
    ∷ "drawout,A,1,1,4"
    ∷ "drawout,A,1,1,5"
    ∷ "drawout,A,1,1,5"
    ∷ [])
    ("refused,2,11" ∷ "refused,4,11" ∷ "refused,5,11" ∷ "refused,7,11" ∷ "rows,0" ∷ [])
    ∷ session
    (("lane,5" ∷ "lane,99999999" ∷ [])
    ++ replicate 33 "drawin,A,1,1,5"
    ++ ("drawin,A,1,1,6" ∷ "spotin,A,1,7,7" ∷ "drawout,A,1,1,5" ∷ "drawin,B,1,1,5" ∷ "drawin,B,1,1,5" ∷ []))
    ("refused,35,9" ∷ "refused,40,9" ∷ "rows,0" ∷ [])
    ∷ session
    (("lane,99999999" ∷ [])
    ++ replicate 8 "drawin,A,1,1,5"
    ++ replicate 8 "spotin,A,2,1,5"
    ++ ("drawin,A,3,5,9" ∷ "drawin,A,3,6,9" ∷ "spotout,A,2,1,5" ∷ "drawin,A,3,5,9" ∷ "drawin,A,3,5,9" ∷ [])
    ++ replicate 7 "spotout,A,2,1,5")
    ("refused,18,10" ∷ "refused,22,10" ∷ "rows,0" ∷ [])
    ∷ []

-- ---- rows

-- P2, P3, P4, P8 and P10 of document 01: touching spans, spans that do not meet; unequal labels; an empty side; a
-- lane's last minute, and the next. Then a row that reaches over two lanes
abbrev spans : List Case
spans =
    session ("lane,99999999" ∷ "drawin,A,1,1,5" ∷ "spotin,A,2,5,9" ∷ []) ("rows,1" ∷ "1,A,1,2,5,5" ∷ [])
    ∷ session ("lane,99999999" ∷ "drawin,A,1,1,5" ∷ "spotin,A,2,6,9" ∷ []) ("rows,0" ∷ [])
    ∷ session ("lane,99999999" ∷ "drawin,A,1,1,5" ∷ "spotin,B,2,1,5" ∷ []) ("rows,0" ∷ [])
    ∷ session ("lane,99999999" ∷ "spotin,A,1,1,5" ∷ "spotin,A,2,1,5" ∷ []) ("rows,0" ∷ [])
    ∷ session
    ("lane,34" ∷ "lane,40" ∷ "lane,99999999" ∷ "drawin,A,1,30,34" ∷ "drawin,A,2,30,35" ∷ "spotin,A,3,0,99" ∷ [])
    ("rows,2" ∷ "1,A,1,3,30,34" ∷ "2,A,2,3,30,35" ∷ [])
    ∷ session ("lane,9" ∷ "lane,99999999" ∷ "drawin,A,1,0,99999999" ∷ "spotin,A,2,0,99999999" ∷ [])
    ("rows,1" ∷ "2,A,1,2,0,99999999" ∷ [])
    ∷ []

-- P6 and P7: two drawings that make the same row, and the first withdrawn. Then a drawing stored twice and withdrawn
-- once; a spot withdrawn
abbrev multiples : List Case
multiples =
    session ("lane,99999999" ∷ "drawin,A,5,1,10" ∷ "drawin,A,5,5,20" ∷ "spotin,A,7,5,10" ∷ [])
    ("rows,2" ∷ "1,A,5,7,5,10" ∷ "1,A,5,7,5,10" ∷ [])
    ∷ session ("lane,99999999" ∷ "drawin,A,5,1,10" ∷ "drawin,A,5,5,20" ∷ "spotin,A,7,5,10" ∷ "drawout,A,5,1,10" ∷ [])
    ("rows,1" ∷ "1,A,5,7,5,10" ∷ [])
    ∷ session ("lane,99999999" ∷ "spotin,A,7,1,9" ∷ "drawin,A,5,1,9" ∷ "drawin,A,5,1,9" ∷ "drawout,A,5,1,9" ∷ [])
    ("rows,1" ∷ "1,A,5,7,1,9" ∷ [])
    ∷ session ("lane,99999999" ∷ "drawin,A,5,1,9" ∷ "spotin,A,7,1,9" ∷ "spotin,A,8,9,9" ∷ "spotout,A,7,1,9" ∷ [])
    ("rows,1" ∷ "1,A,5,8,9,9" ∷ [])
    ∷ []

-- rows by lane before all else; by first, then last, then label number (B is 2, AA is 27), then drawing, then spot, as
-- numbers and not as digits; the largest of each field
abbrev orders : List Case
orders =
    session
    ("lane,5" ∷ "lane,99999999" ∷ "spotin,A,1,0,99" ∷ "drawin,A,1,0,9" ∷ "drawin,A,2,4,5" ∷ "drawin,A,3,3,4" ∷ [])
    ("rows,3" ∷ "1,A,3,1,3,4" ∷ "1,A,2,1,4,5" ∷ "2,A,1,1,0,9" ∷ [])
    ∷ session
    ("lane,99999999"
    ∷ "spotin,AA,10,2,4"
    ∷ "spotin,AA,9,2,4"
    ∷ "spotin,B,8,2,4"
    ∷ "drawin,AA,10,2,4"
    ∷ "drawin,AA,9,2,4"
    ∷ "drawin,B,7,2,4"
    ∷ "drawin,B,6,2,3"
    ∷ "drawin,B,5,3,3"
    ∷ [])
    ("rows,7"
    ∷ "1,B,6,8,2,3"
    ∷ "1,B,7,8,2,4"
    ∷ "1,AA,9,9,2,4"
    ∷ "1,AA,9,10,2,4"
    ∷ "1,AA,10,9,2,4"
    ∷ "1,AA,10,10,2,4"
    ∷ "1,B,5,8,3,3"
    ∷ [])
    ∷ session
    ("lane,99999999"
    ∷ "drawin,ZZZZZZZZ,999999,99999998,99999999"
    ∷ "spotin,ZZZZZZZZ,999999,99999998,99999999"
    ∷ "spotin,ZZZZZZZZ,0,0,99999998"
    ∷ [])
    ("rows,2" ∷ "1,ZZZZZZZZ,999999,0,99999998,99999998" ∷ "1,ZZZZZZZZ,999999,999999,99999998,99999999" ∷ [])
    ∷ []

-- ---- small letters in labels (document 02, (a))

-- document 01's example with its labels in small letters and in both; then a drawing in small letters withdrawn in
-- capitals and one in capitals withdrawn in small letters, and labels from a to z; then what still gives 15: words in
-- capitals, the bytes next to the letters, nine small letters, small letters in numbers
abbrev smalls : List Case
smalls =
    session
    ("lane,34"
    ∷ "lane,40"
    ∷ "lane,99999999"
    ∷ "drawin,al,10,30,31"
    ∷ "drawin,Al,11,32,32"
    ∷ "drawin,aL,10,33,40"
    ∷ "drawin,al,11,41,48"
    ∷ "spotin,AL,1,30,35"
    ∷ "spotin,al,2,36,48"
    ∷ [])
    ("rows,5"
    ∷ "1,AL,10,1,30,31"
    ∷ "1,AL,11,1,32,32"
    ∷ "2,AL,10,1,33,35"
    ∷ "2,AL,10,2,36,40"
    ∷ "3,AL,11,2,41,48"
    ∷ [])
    ∷ session
    ("drawin,a,1,1,1"
    ∷ "lane,99999999"
    ∷ "drawin,ship,1,1,1"
    ∷ "drawout,SHIP,1,1,1"
    ∷ "drawin,SHIP,2,1,1"
    ∷ "drawout,shIp,2,1,1"
    ∷ "drawout,ship,2,1,1"
    ∷ "drawin,a,3,1,1"
    ∷ "drawin,z,4,1,1"
    ∷ "drawin,zzzzzzzz,5,1,1"
    ∷ "spotin,A,6,1,1"
    ∷ "spotin,z,7,1,1"
    ∷ "spotin,ZzZzZzZz,8,1,1"
    ∷ [])
    ("refused,1,16"
    ∷ "refused,7,11"
    ∷ "rows,3"
    ∷ "1,A,3,6,1,1"
    ∷ "1,Z,4,7,1,1"
    ∷ "1,ZZZZZZZZ,5,8,1,1"
    ∷ [])
    ∷ session
    ("Lane,99999999"
    ∷ "lane,99999999"
    ∷ "DRAWIN,A,1,1,1"
    ∷ "drawIn,a,1,1,1"
    ∷ "drawin,@,1,1,1"
    ∷ "drawin,[,1,1,1"
    ∷ "drawin,`,1,1,1"
    ∷ "drawin,{,1,1,1"
    ∷ "drawin,aaaaaaaaa,1,1,1"
    ∷ "drawin,a,1a,1,1"
    ∷ "spotin,a,1,1,1"
    ∷ [])
    ("refused,1,15"
    ∷ "refused,3,15"
    ∷ "refused,4,15"
    ∷ "refused,5,15"
    ∷ "refused,6,15"
    ∷ "refused,7,15"
    ∷ "refused,8,15"
    ∷ "refused,9,15"
    ∷ "refused,10,15"
    ∷ "rows,0"
    ∷ [])
    ∷ []

-- ---- the fewest minutes of a row

-- document 01's example with rows of at least three minutes; lines out of range, several of which the last accepted one
-- counts, and all of them refused with 16 once the plan is complete; the largest minimum; withdrawals of tuples that
-- made no row
abbrev leasts : List Case
leasts =
    session
    ("least,3"
    ∷ "lane,34"
    ∷ "lane,40"
    ∷ "lane,99999999"
    ∷ "drawin,AL,10,30,31"
    ∷ "drawin,AL,11,32,32"
    ∷ "drawin,AL,10,33,40"
    ∷ "drawin,AL,11,41,48"
    ∷ "spotin,AL,1,30,35"
    ∷ "spotin,AL,2,36,48"
    ∷ [])
    ("rows,3"
    ∷ "2,AL,10,1,33,35"
    ∷ "2,AL,10,2,36,40"
    ∷ "3,AL,11,2,41,48"
    ∷ [])
    ∷ session
    ("least,0"
    ∷ "least,1441"
    ∷ "least,9"
    ∷ "lane,34"
    ∷ "least,5"
    ∷ "least,00"
    ∷ "lane,99999999"
    ∷ "least,1"
    ∷ "least,0"
    ∷ "least,x"
    ∷ "drawin,A,1,1,10"
    ∷ "spotin,A,2,6,20"
    ∷ "spotin,A,3,7,20"
    ∷ [])
    ("refused,1,18"
    ∷ "refused,2,18"
    ∷ "refused,6,15"
    ∷ "refused,8,16"
    ∷ "refused,9,16"
    ∷ "refused,10,15"
    ∷ "rows,1"
    ∷ "1,A,1,2,6,10"
    ∷ [])
    ∷ session
    ("lane,5"
    ∷ "least,1440"
    ∷ "lane,99999999"
    ∷ "drawin,A,1,0,1439"
    ∷ "spotin,A,2,0,1439"
    ∷ "spotin,A,3,1,1439"
    ∷ [])
    ("rows,1"
    ∷ "2,A,1,2,0,1439"
    ∷ [])
    ∷ session
    ("least,2"
    ∷ "lane,99999999"
    ∷ "drawin,A,1,1,5"
    ∷ "spotin,A,2,5,9"
    ∷ "spotin,A,3,4,9"
    ∷ "spotout,A,2,5,9"
    ∷ "drawout,A,1,1,5"
    ∷ "spotout,A,3,4,9"
    ∷ "drawout,A,1,1,5"
    ∷ [])
    ("refused,9,11"
    ∷ "rows,0"
    ∷ [])
    ∷ []

-- ---- the theorem

abbrev pub table : List Case
table = (example ∷ lines) ++ forms ++ lanes ++ changes ++ spans ++ multiples ++ orders ++ smalls ++ leasts

-- each input has the text that the table has for it
pub cases-hold : map (λ (c : Case). text_of_input c.input) table ≡ map (λ (c : Case). c.prints) table
unfolding is_number value_of rank is_letter is_label label_number capital capitals is_label_field field_label_number lane_of
    least_of change_of worded form_of line_of same_label same_interval same_tuple printed_rows lane_lines sort_rows put_row before
    row_line count_line digits_of letters_of overlap durability durable rows_of_pair join_of rows_at tuples_at home home_of cuts_of
    partition_full rows_pass insert_answer delete_answer label_check item_check valid_check tuple_number first_of bad_lane
    lane_check least_check minimum_check refusal_line answer_text unfinished_text after report_text text_of_input
cases-hold = refl
