-- Closed cases that compute: lines and what they say. One table, one theorem; the accepted ones print back, with their
-- labels in capitals.
-- Assumes nothing.
use mathlib.Core.List.{List, [], ◌∷◌, ◌++◌, map}
use mathlib.Core.Path.{◌≡◌, refl}
use Prim.Native.Nat.{ℕ}
use Prim.Native.Char.{code}
use Prim.Native.String.{String, [] as []ₛ, ◌∷◌ as ◌∷ₛ◌}
use lib.ListN.{length, replicate}
use Rattle.label.specs.Label.{rank, is_letter, is_label, label_number, capital, capitals, is_label_field}
use Rattle.label.specs.Label.{field_label_number, letters_of}
use Rattle.interval.specs.Tuple.{tuple}
use Rattle.lines.specs.Fields.{is_number, value_of, digits_of}
use Rattle.lines.specs.Line.{lane_of, least_of, change_of, worded, form_of, line_of, line_number, printed}
use Rattle.lines.specs.Line.{label_in_capitals, in_capitals}
use Rattle.lines.specs.declared.Word.{Word}
use Rattle.lines.specs.declared.Word.TheVariants.{DrawIn, DrawOut, SpotIn, SpotOut}
use Rattle.lines.specs.declared.Line.{Line}
use Rattle.lines.specs.declared.Line.TheVariants.{Lane, Least, Change, Malformed}

-- ---- how a case is written

abbrev bytes : String → List ℕ
bytes []ₛ = []
bytes (c ∷ₛ s) = code c ∷ bytes s

pub record Case : Type 0 where
  pub line : List ℕ
  pub says : Line

-- a lane's last minute; the number of a `least` line; a change's word, label number, item, first and last minute
abbrev lane : String → ℕ → Case
lane s n = record { line = bytes s; says = Lane (record { 0 = n }) }

abbrev least : String → ℕ → Case
least s n = record { line = bytes s; says = Least n }

abbrev change : String → Word → ℕ → ℕ → ℕ → ℕ → Case
change s w l n a b =
    record { line = bytes s; says = Change w (tuple l n a b) }

-- 15, "not of the form below"
abbrev refused : List ℕ → Case
refused bs = record { line = bs; says = Malformed }

abbrev bad : String → Case
bad s = refused (bytes s)

-- ---- the table

-- document 01's example
abbrev pub example : List Case
example =
    lane "lane,34" 34
    ∷ (lane "lane,40" 40
    ∷ (lane "lane,99999999" 99999999
    ∷ (change "drawin,AL,10,30,31" DrawIn 38 10 30 31
    ∷ (change "drawin,AL,11,32,32" DrawIn 38 11 32 32
    ∷ (change "drawin,AL,10,33,40" DrawIn 38 10 33 40
    ∷ (change "drawin,AL,11,41,48" DrawIn 38 11 41 48
    ∷ (change "spotin,AL,1,30,35" SpotIn 38 1 30 35
    ∷ (change "spotin,AL,2,36,48" SpotIn 38 2 36 48
    ∷ []))))))))

-- the other words; the smallest and the largest of each field, in the longest line that there is; a number above
-- 999,999 and a first minute after the last are of the form, and left to checks 7 and 8
abbrev pub edges : List Case
edges =
    lane "lane,0" 0
    ∷ (change "drawin,A,0,0,0" DrawIn 1 0 0 0
    ∷ (change "drawin,ABCDEFGH,0,0,0" DrawIn 8687205886 0 0 0
    ∷ (change "drawout,AL,10,30,31" DrawOut 38 10 30 31
    ∷ (change "spotout,AL,1,30,35" SpotOut 38 1 30 35
    ∷ (change "drawout,ZZZZZZZZ,99999999,99999999,99999999" DrawOut 217180147158 99999999 99999999 99999999
    ∷ (change "spotin,Z,1000000,9,3" SpotIn 26 1000000 9 3
    ∷ []))))))

-- document 02, (f): a minimum, of any number; one that is out of range is left to check 18
abbrev pub leasts : List Case
leasts =
    least "least,1" 1
    ∷ (least "least,0" 0
    ∷ (least "least,1440" 1440
    ∷ (least "least,1441" 1441
    ∷ (least "least,99999999" 99999999
    ∷ []))))

-- document 02, (a): small letters in a label, one, eight, all or some of them small, and in the longest line
abbrev pub small : List Case
small =
    change "drawin,a,1,2,3" DrawIn 1 1 2 3
    ∷ (change "spotin,z,1,2,3" SpotIn 26 1 2 3
    ∷ (change "drawout,al,10,30,31" DrawOut 38 10 30 31
    ∷ (change "drawin,Al,10,30,31" DrawIn 38 10 30 31
    ∷ (change "spotout,aL,10,30,31" SpotOut 38 10 30 31
    ∷ (change "drawin,abcdefgh,0,0,0" DrawIn 8687205886 0 0 0
    ∷ (change "drawin,aBCdEfgH,0,0,0" DrawIn 8687205886 0 0 0
    ∷ (change "drawout,zzzzzzzz,99999999,99999999,99999999" DrawOut 217180147158 99999999 99999999 99999999
    ∷ [])))))))

-- what these print as
abbrev pub small_printed : List (List ℕ)
small_printed =
    bytes "drawin,A,1,2,3"
    ∷ (bytes "spotin,Z,1,2,3"
    ∷ (bytes "drawout,AL,10,30,31"
    ∷ (bytes "drawin,AL,10,30,31"
    ∷ (bytes "spotout,AL,10,30,31"
    ∷ (bytes "drawin,ABCDEFGH,0,0,0"
    ∷ (bytes "drawin,ABCDEFGH,0,0,0"
    ∷ (bytes "drawout,ZZZZZZZZ,99999999,99999999,99999999"
    ∷ [])))))))

-- a lane line: no number, a leading 0, nine digits, a field too few or too many, another byte before or after
abbrev pub lanes : List Case
lanes =
    bad "lane,00"
    ∷ (bad "lane,099"
    ∷ (bad "lane,100000000"
    ∷ (bad "lane,000000001"
    ∷ (bad "lane,"
    ∷ (bad "lane"
    ∷ (bad "lane,1,2"
    ∷ (bad "lane,1,"
    ∷ (bad "lane,/"
    ∷ (bad "lane,:"
    ∷ (bad "lane,-1"
    ∷ (bad "lane, 1"
    ∷ (bad "lane,1\r"
    ∷ (bad "Lane,1"
    ∷ (bad "lanes,1"
    ∷ (bad "lan,1"
    ∷ (bad "drawin,1"
    ∷ []))))))))))))))))

-- a `least` line: no number, a leading 0, nine digits, a field too few or too many, another word
abbrev pub leasts_refused : List Case
leasts_refused =
    bad "least"
    ∷ (bad "least,"
    ∷ (bad "least,00"
    ∷ (bad "least,01"
    ∷ (bad "least,-1"
    ∷ (bad "least, 1"
    ∷ (bad "least,1 "
    ∷ (bad "least,1,"
    ∷ (bad "least,1,2"
    ∷ (bad "least,AL,1,1,1"
    ∷ (bad "least,a"
    ∷ (bad "least,123456789"
    ∷ (bad "Least,1"
    ∷ (bad "LEAST,1"
    ∷ (bad "leas,1"
    ∷ (bad "leasts,1"
    ∷ (bad "least1"
    ∷ []))))))))))))))))

-- a change: no label, nine letters, a number that is none, a field too few or too many, another word
abbrev pub changes : List Case
changes =
    bad "drawin,ABCDEFGHI,0,0,0"
    ∷ (bad "drawin,,1,1,1"
    ∷ (bad "drawin,A1,1,1,1"
    ∷ (bad "drawin,AL,1,2"
    ∷ (bad "drawin,AL,1,2,3,4"
    ∷ (bad "drawin,AL,1,2,3,"
    ∷ (bad "drawin,AL,01,2,3"
    ∷ (bad "drawin,AL,1,,3"
    ∷ (bad "drawin,AL,1,2,123456789"
    ∷ (bad "drawin,AL,10,30,31 "
    ∷ (bad " drawin,AL,10,30,31"
    ∷ (bad "drawin;AL;10;30;31"
    ∷ (bad "draw,AL,1,1,1"
    ∷ (bad "lane,AL,1,1,1"
    ∷ [])))))))))))))

-- small letters: nine of them, the bytes next to a and z and next to A and Z, a small letter in a number, and words in
-- capitals
abbrev pub small_refused : List Case
small_refused =
    bad "drawin,abcdefghi,0,0,0"
    ∷ (bad "drawin,`,1,1,1"
    ∷ (bad "drawin,{,1,1,1"
    ∷ (bad "drawin,@,1,1,1"
    ∷ (bad "drawin,[,1,1,1"
    ∷ (bad "drawin,a`,1,1,1"
    ∷ (bad "drawin,z{,1,1,1"
    ∷ (bad "drawin,a1,1,1,1"
    ∷ (bad "drawin,al,1a,1,1"
    ∷ (bad "drawin,al,1,a,1"
    ∷ (bad "drawin,al,1,1,z"
    ∷ (bad "lane,a"
    ∷ (bad "LANE,34"
    ∷ (bad "DRAWIN,AL,10,30,31"
    ∷ (bad "drawIn,AL,10,30,31"
    ∷ (bad "Drawin,al,10,30,31"
    ∷ (bad "DRAWOUT,al,10,30,31"
    ∷ (bad "SPOTIN,AL,1,30,35"
    ∷ (bad "spotOut,al,1,30,35"
    ∷ []))))))))))))))))))

-- no byte, a comma alone, and the limit: 80 bytes and 81. A line of the form has at most 43 (line-length), so the first
-- of these two is refused by its second field, the other by its length too
abbrev pub long : ℕ → List ℕ
long k = bytes "lane," ++ replicate k 49

abbrev pub lengths : List Case
lengths = refused [] ∷ (bad "," ∷ (refused (long 75) ∷ (refused (long 76) ∷ [])))

abbrev pub accepted : List Case
accepted = example ++ (edges ++ leasts)

abbrev pub refused_lines : List Case
refused_lines = lanes ++ (leasts_refused ++ (changes ++ (small_refused ++ lengths)))

abbrev pub table : List Case
table = accepted ++ (small ++ refused_lines)

-- ---- the theorems

-- each line says what the table has for it
pub cases-hold : map (λ (c : Case). line_of c.line) table ≡ map (λ (c : Case). c.says) table
unfolding is_number value_of rank is_letter is_label label_number capital capitals is_label_field field_label_number
    lane_of least_of change_of worded form_of line_of
cases-hold = refl

-- an accepted line has the number 0, every other 15
abbrev numbered : ℕ → List Case → Type 0
numbered n cs = map (λ (c : Case). line_number c.says) cs ≡ map (λ (c : Case). n) cs

pub numbers-hold : numbered 0 (accepted ++ small) × numbered 15 refused_lines
numbers-hold = (refl, refl)

-- the accepted ones, printed, are the lines
pub accepted-print : map (λ (c : Case). printed c.says) accepted ≡ map (λ (c : Case). c.line) accepted
unfolding digits_of letters_of
accepted-print = refl

-- those with small letters, printed, have their labels in capitals
pub small-print :
    (map (λ (c : Case). printed c.says) small ≡ small_printed)
    × (map (λ (c : Case). in_capitals c.line) small ≡ small_printed)
unfolding digits_of letters_of capital capitals label_in_capitals in_capitals
small-print = (refl, refl)

-- the last two lines have 80 and 81 bytes, and the longest that is accepted has 43
pub long-lengths :
    (length (long 75) ≡ 80)
    × (length (long 76) ≡ 81)
    × (length (bytes "drawout,ZZZZZZZZ,99999999,99999999,99999999") ≡ 43)
long-lengths = (refl, refl, refl)
