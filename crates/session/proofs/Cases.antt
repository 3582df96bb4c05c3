-- Closed cases that compute, from the definitions that the promises cite: the numbers of lists of lines, each line
-- taken by the session that the one before left, on stores of 0. Lane lines rise, complete the plan, come too late; a
-- change comes before the plan is complete; an eighth lane is not the end, and then is; a store is too short; `least`
-- lines before the lane lines, between them and after them; changes.
-- Assumes nothing.
use mathlib.Core.List.{List, [], ◌∷◌}
use mathlib.Core.Path.{◌≡◌, refl}
use Prim.Native.Nat.{ℕ, ◌*◌}
use lib.ListN.{replicate}
use Rattle.lists.specs.Choice.{first_of}
use Rattle.label.specs.Label.{label_check}
use Rattle.interval.specs.Tuple.{tuple, tuple_number, item_check, valid_check}
use Rattle.plan.specs.Plan.{cuts_of, cover, minimum_check, plan_number, legal_plan, home, home_of}
use Rattle.part.specs.Part.{counted, sound_part, records_in, tuples_in, rows_in}
use Rattle.store.specs.Store.{fits_tuples, fits_rows, sound_tuples, sound_rows, sound_tuple_part, sound_row_part}
use Rattle.store.specs.Store.{stored_tuples, rows_at}
use Rattle.rows.specs.Join.{made_with}
use Rattle.checks.specs.Stores.{Stores, stores, tuples_length, rows_length, tuples_unsound, rows_unsound}
use Rattle.checks.specs.Stores.{lengths_number, store_number}
use Rattle.insertion.specs.Changes.{made}
use Rattle.insertion.specs.Inserts.{overfull}
use Rattle.join.specs.Changes.{insert_number, delete_number}
use Rattle.lines.specs.declared.Word.TheVariants.{DrawIn, SpotOut}
use Rattle.lines.specs.declared.Line.{Line}
use Rattle.lines.specs.declared.Line.TheVariants.{Lane, Least, Change, Malformed}
use Rattle.session_plan.specs.Lanes.{fresh, plan_of, bad_lane, lane_check, least_check}
use Rattle.session_plan.specs.declared.Session.{Session}
use Rattle.session.specs.Session.{lane_number, change_line_number, step_number, session_after}

-- the numbers that lines get, one after the other
numbers_of : Stores → Session → List Line → List ℕ
numbers_of S s [] = []
numbers_of S s (l ∷ ls) = step_number s l S ∷ numbers_of S (session_after s l S) ls

abbrev lane : ℕ → Line
lane m = Lane (record { 0 = m })

abbrev drawn : ℕ → ℕ → ℕ → Line
drawn item a b = Change DrawIn (tuple 38 item a b)

abbrev draw : Line
draw = drawn 10 30 31

abbrev unspot : Line
unspot = Change SpotOut (tuple 38 1 30 35)

-- stores of n lanes
abbrev blank_of : ℕ → Stores
blank_of n = stores (replicate (n * 129) 0) (replicate (n * 129) 0) (replicate (n * 321) 0)

-- document 01's lanes, with a change before them, a lane line twice, a change among them, and lane lines after them
abbrev three : List Line
three =
    draw
    ∷ (lane 34
    ∷ (lane 40
    ∷ (lane 40 ∷ (unspot ∷ (lane 99999999 ∷ (lane 41 ∷ (lane 99999999 ∷ (Malformed ∷ []))))))))

-- seven lanes, an eighth that is not the end, and the end
abbrev eight : List Line
eight =
    lane 0
    ∷ (lane 10
    ∷ (lane 20 ∷ (lane 30 ∷ (lane 40 ∷ (lane 50 ∷ (lane 60 ∷ (lane 500 ∷ (lane 99999999 ∷ (lane 99999999 ∷ [])))))))))

-- stores of one lane under a plan of two: a direct caller's 4, and the lane is not counted
abbrev short : List Line
short = lane 34 ∷ (lane 99999999 ∷ (draw ∷ []))

Cases : List (Stores × List Line × List ℕ) → Type 0
Cases [] = Unit {0}
Cases (c ∷ cs) = (numbers_of c.0 fresh c.1 ≡ c.2) × Cases cs

lanes : List (Stores × List Line × List ℕ)
lanes =
    (blank_of 8, three, 16 ∷ (0 ∷ (0 ∷ (2 ∷ (16 ∷ (0 ∷ (16 ∷ (16 ∷ (15 ∷ [])))))))))
    ∷ ((blank_of 8, eight, 0 ∷ (0 ∷ (0 ∷ (0 ∷ (0 ∷ (0 ∷ (0 ∷ (2 ∷ (0 ∷ (16 ∷ []))))))))))
    ∷ ((blank_of 1, short, 0 ∷ (4 ∷ (16 ∷ [])))
    ∷ []))

lanes-hold : Cases lanes
unfolding lanes Cases numbers_of bad_lane lane_check
    lane_number change_line_number session_after first_of cuts_of cover minimum_check plan_number
    legal_plan fits_tuples fits_rows tuples_length rows_length lengths_number
lanes-hold = (refl, (refl, (refl, tt)))

-- `least` lines: one before the lane lines, four between them, of which two are out of range, and four after them
abbrev fewest : List Line
fewest =
    Least 30
    ∷ (lane 34
    ∷ (Least 0
    ∷ (Least 15
    ∷ (Least 1440
    ∷ (Least 1441 ∷ (lane 99999999 ∷ (Least 15 ∷ (Least 0 ∷ (Least 1441 ∷ (Least 1440 ∷ []))))))))))

-- the session after lines
session_of : Stores → Session → List Line → Session
session_of S s [] = s
session_of S s (l ∷ ls) = session_of S (session_after s l S) ls

leasts : List (Stores × List Line × List ℕ)
leasts = (blank_of 2, fewest, 0 ∷ (0 ∷ (18 ∷ (0 ∷ (0 ∷ (18 ∷ (0 ∷ (16 ∷ (16 ∷ (16 ∷ (16 ∷ []))))))))))) ∷ []

-- 18 out of range, 16 for each once the plan is complete; and "the last accepted one counts", 1 where there is none
leasts-hold :
    Cases leasts
    × ((plan_of (session_of (blank_of 2) fresh fewest)).minimum ≡ 1440)
    × ((plan_of (session_of (blank_of 2) fresh (lane 34 ∷ (Least 0 ∷ (lane 99999999 ∷ (Least 15 ∷ [])))))).minimum ≡ 1)
unfolding leasts Cases numbers_of session_of bad_lane lane_check least_check
    lane_number session_after first_of cuts_of cover minimum_check plan_number
    legal_plan fits_tuples fits_rows tuples_length rows_length lengths_number
leasts-hold = ((refl, tt), refl, refl)

-- changes on an empty wall: an insert, a delete, an item number above 999,999, a span that ends before it starts; and
-- one past the calendar, which no line has (`numbers-met`) but a direct caller may hand over
abbrev some : List Line
some =
    lane 99999999
    ∷ (draw ∷ (unspot ∷ (drawn 1000000 30 31 ∷ (drawn 10 31 30 ∷ (drawn 10 30 100000000 ∷ [])))))

changes : List (Stores × List Line × List ℕ)
changes = (blank_of 1, some, 0 ∷ (0 ∷ (11 ∷ (7 ∷ (8 ∷ (17 ∷ [])))))) ∷ []

changes-hold : Cases changes
unfolding changes Cases numbers_of bad_lane lane_check lane_number change_line_number session_after first_of cuts_of cover
    minimum_check plan_number legal_plan home home_of fits_tuples fits_rows tuples_length rows_length lengths_number counted
    records_in tuples_in rows_in sound_part sound_tuple_part sound_row_part sound_tuples sound_rows tuples_unsound rows_unsound
    store_number label_check item_check valid_check tuple_number insert_number delete_number overfull made made_with
    stored_tuples rows_at
changes-hold = (refl, tt)
