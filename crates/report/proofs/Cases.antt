-- Closed cases of the text, the order and the checks, computed from the definitions that the promises use: tables,
-- with one theorem each. Document 01's example output stands here byte for byte.
-- Assumes nothing.
use mathlib.Core.Bool.{Bool, true, false}
use mathlib.Core.List.{List, [], ◌∷◌, ◌++◌, map}
use mathlib.Core.Path.{◌≡◌, refl}
use Prim.Native.Nat.{ℕ, ◌-◌, ◌*◌}
use lib.ListN.{length, replicate}
use Rattle.lists.specs.Choice.{first_of}
use Rattle.lists.specs.Members.{gather}
use Rattle.label.specs.Label.{label_check, letters_of}
use Rattle.interval.specs.Time.{durability, durable}
use Rattle.interval.specs.Tuple.{row, row_words, item_check, valid_check, row_number, legal_row}
use Rattle.interval.specs.declared.tuple.Row.{Row}
use Rattle.plan.specs.Plan.{cuts_of, cover, minimum_check, plan_number, legal_plan, home, home_of}
use Rattle.plan.specs.declared.Partitioning.{Partitioning}
use Rattle.part.specs.Part.{counted, records_in, rows_in, sound_part}
use Rattle.store.specs.Store.{fits_rows, row_at_home, sound_row_part, sound_rows, stored_rows}
use Rattle.checks.specs.Stores.{rows_length, rows_unsound, rows_number}
use Rattle.lines.specs.Fields.{digits_of}
use Rattle.report.specs.Order.{before, sorted}
use Rattle.report.specs.Text.{row_line, count_line, partition_text, partitions_text, text_of}
use Rattle.report.specs.Report.{report_number}

-- ---- how a case is written

-- a plan with these cuts, and two rows a lane: with that minimum, and with 1
abbrev lasting : ℕ → ℕ → List ℕ → Partitioning
lasting minimum n cuts = record {
  count = n;
  lasts = map (λ (m : ℕ). record { 0 = m }) (cuts ++ replicate (64 - length cuts) 0);
  tuples = 8;
  rows = 2;
  minimum = minimum;
}

abbrev plan : ℕ → List ℕ → Partitioning
plan n cuts = lasting 1 n cuts

-- the words of a lane with these rows
abbrev partition : List Row → List ℕ
partition rs = length rs ∷ (gather row_words rs ++ replicate (10 - 5 * length rs) 0)

-- a case: what the definitions give, and what is stated
pub record Case : Type 0 where
  pub computed : List ℕ
  pub stated : List ℕ

abbrev case : List ℕ → List ℕ → Case
case c s = record { computed = c; stated = s }

-- ---- the text: document 01's example

abbrev cuts3 : List ℕ
cuts3 = 34 ∷ 40 ∷ 99999999 ∷ []

abbrev three : Partitioning
three = plan 3 cuts3

abbrev rows : List ℕ
rows =
    partition (row 38 10 1 30 31 ∷ row 38 11 1 32 32 ∷ [])
    ++ (partition (row 38 10 1 33 35 ∷ row 38 10 2 36 40 ∷ []) ++ partition (row 38 11 2 41 48 ∷ []))

-- `rows,5`
abbrev count_five : List ℕ
count_five =
    114 ∷ 111 ∷ 119 ∷ 115 ∷ 44 ∷ 53 ∷ 10 ∷ []

-- `1,AL,10,1,30,31`
abbrev line1 : List ℕ
line1 =
    49 ∷ 44 ∷ 65 ∷ 76 ∷ 44 ∷ 49 ∷ 48 ∷ 44 ∷ 49 ∷ 44 ∷ 51 ∷ 48 ∷ 44 ∷ 51 ∷ 49 ∷ 10 ∷ []

-- `1,AL,11,1,32,32`
abbrev line2 : List ℕ
line2 =
    49 ∷ 44 ∷ 65 ∷ 76 ∷ 44 ∷ 49 ∷ 49 ∷ 44 ∷ 49 ∷ 44 ∷ 51 ∷ 50 ∷ 44 ∷ 51 ∷ 50 ∷ 10 ∷ []

-- `2,AL,10,1,33,35`
abbrev line3 : List ℕ
line3 =
    50 ∷ 44 ∷ 65 ∷ 76 ∷ 44 ∷ 49 ∷ 48 ∷ 44 ∷ 49 ∷ 44 ∷ 51 ∷ 51 ∷ 44 ∷ 51 ∷ 53 ∷ 10 ∷ []

-- `2,AL,10,2,36,40`
abbrev line4 : List ℕ
line4 =
    50 ∷ 44 ∷ 65 ∷ 76 ∷ 44 ∷ 49 ∷ 48 ∷ 44 ∷ 50 ∷ 44 ∷ 51 ∷ 54 ∷ 44 ∷ 52 ∷ 48 ∷ 10 ∷ []

-- `3,AL,11,2,41,48`
abbrev line5 : List ℕ
line5 =
    51 ∷ 44 ∷ 65 ∷ 76 ∷ 44 ∷ 49 ∷ 49 ∷ 44 ∷ 50 ∷ 44 ∷ 52 ∷ 49 ∷ 44 ∷ 52 ∷ 56 ∷ 10 ∷ []

-- the example; an empty store (`rows,0`); the longest line but for the spot's and the first minute's digits
-- (`64,ZZZZZZZZ,999999,0,0,99999999`); numbers in digits: 0, 9, 10, the largest word
abbrev pub texts : List Case
texts =
    case (text_of three rows) (count_five ++ (line1 ++ (line2 ++ (line3 ++ (line4 ++ line5)))))
    ∷ case (text_of three (replicate 33 0))
    (114 ∷ 111 ∷ 119 ∷ 115 ∷ 44 ∷ 48 ∷ 10 ∷ [])
    ∷ case (row_line 64 (row 217180147158 999999 0 0 99999999))
    (54 ∷ 52 ∷ 44 ∷ 90 ∷ 90 ∷ 90 ∷ 90 ∷ 90 ∷ 90 ∷ 90 ∷ 90 ∷ 44 ∷ 57 ∷ 57 ∷ 57 ∷ 57 ∷ 57 ∷ 57 ∷ 44 ∷ 48 ∷ 44 ∷
    48 ∷ 44 ∷ 57 ∷ 57 ∷ 57 ∷ 57 ∷ 57 ∷ 57 ∷ 57 ∷ 57 ∷ 10 ∷ [])
    ∷ case (digits_of 0) (48 ∷ [])
    ∷ case (digits_of 9) (57 ∷ [])
    ∷ case (digits_of 10) (49 ∷ 48 ∷ [])
    ∷ case (digits_of 18446744073709551615)
    (49 ∷ 56 ∷ 52 ∷ 52 ∷ 54 ∷ 55 ∷ 52 ∷ 52 ∷ 48 ∷ 55 ∷ 51 ∷ 55 ∷ 48 ∷ 57 ∷ 53 ∷ 53 ∷ 49 ∷ 54 ∷ 49 ∷ 53 ∷ [])
    ∷ []

pub text-cases : map (λ (c : Case). c.computed) texts ≡ map (λ (c : Case). c.stated) texts
unfolding text_of count_line partitions_text partition_text row_line stored_rows rows_in records_in counted digits_of letters_of
text-cases = refl

-- ---- the order and the checks

-- a test, and what it is stated to be
pub record Test : Type 0 where
  pub computed : Bool
  pub stated : Bool

abbrev test : Bool → Bool → Test
test c s = record { computed = c; stated = s }

-- each number decides where those before it are equal: first, last, label, drawing, spot; equal rows; sorted lists
abbrev pub tests : List Test
tests =
    test (before (row 9 9 9 1 9) (row 1 1 1 2 2)) true
    ∷ test (before (row 1 1 1 2 2) (row 9 9 9 1 9)) false
    ∷ test (before (row 9 9 9 1 2) (row 1 1 1 1 3)) true
    ∷ test (before (row 1 1 1 1 3) (row 9 9 9 1 2)) false
    ∷ test (before (row 1 9 9 1 2) (row 2 1 1 1 2)) true
    ∷ test (before (row 2 1 1 1 2) (row 1 9 9 1 2)) false
    ∷ test (before (row 1 1 9 1 2) (row 1 2 1 1 2)) true
    ∷ test (before (row 1 2 1 1 2) (row 1 1 9 1 2)) false
    ∷ test (before (row 1 1 1 1 2) (row 1 1 2 1 2)) true
    ∷ test (before (row 1 1 2 1 2) (row 1 1 1 1 2)) false
    ∷ test (before (row 1 1 1 1 2) (row 1 1 1 1 2)) true
    ∷ test (sorted []) true
    ∷ test (sorted (row 38 10 1 30 31 ∷ row 38 11 1 32 32 ∷ [])) true
    ∷ test (sorted (row 38 11 1 32 32 ∷ row 38 10 1 30 31 ∷ [])) false
    ∷ test (sorted (row 38 10 1 30 31 ∷ row 38 10 1 30 31 ∷ row 38 10 1 30 30 ∷ [])) false
    ∷ []

pub order-cases : map (λ (t : Test). t.computed) tests ≡ map (λ (t : Test). t.stated) tests
unfolding before sorted
order-cases = refl

-- the checks: no lane; cuts that do not rise; a store one word short; a row in another lane's part; a buffer of
-- 16 + 48 * 5 bytes, and one of a byte less; a minimum out of range, and one with cuts that do not rise; a minimum that
-- a stored row of one minute does not reach
abbrev pub checks : List ℕ
checks =
    report_number (plan 0 []) rows 256
    ∷ report_number (plan 2 (40 ∷ 40 ∷ [])) rows 256
    ∷ report_number three (replicate 32 0) 256
    ∷ report_number three (partition (row 38 10 1 36 40 ∷ []) ++ replicate 22 0) 256
    ∷ report_number three rows 256
    ∷ report_number three rows 255
    ∷ report_number (lasting 0 3 cuts3) rows 256
    ∷ report_number (lasting 1441 3 cuts3) rows 256
    ∷ report_number (lasting 0 2 (40 ∷ 40 ∷ [])) rows 256
    ∷ report_number (lasting 2 3 cuts3) rows 256
    ∷ []

pub check-cases : checks ≡ 1 ∷ 2 ∷ 4 ∷ 5 ∷ 0 ∷ 4 ∷ 18 ∷ 18 ∷ 2 ∷ 5 ∷ []
unfolding report_number rows_number plan_number minimum_check cuts_of cover legal_plan rows_length rows_unsound fits_rows sound_rows
    sound_row_part sound_part row_at_home legal_row row_number label_check item_check valid_check durability durable home home_of
    first_of stored_rows rows_in records_in counted
check-cases = refl
