-- The plan that lane lines and `least` lines make (document 01, "Lines and the program"; document 02, (f)): the
-- session, its plan, the words of the lent stores that its lanes use, and the checks of a lane line and of a `least`
-- line.
-- The laws are in proofs/: Lanes (what may be the next lane, and the next minimum), Plans (sessions from `fresh`,
-- their plans), Words (the words in use of one store). What a line does, with these, is in crate `session`.
use Rattle.std.specs.Prelude.{Bool, false, not, ◌&&◌, ◌||◌, [], ◌∷◌, ℕ, ◌+◌, ◌-◌, ◌*◌, min, leb, ltb, eqb, get_or, set, replicate}
use Rattle.lists.specs.Choice.{pick, refuse_if, first_of}
use Rattle.interval.specs.Time.{calendar_end}
use Rattle.interval.specs.Tuple.{tuple_width, row_width}
use Rattle.interval.specs.declared.time.Chronon.{Chronon}
use Rattle.plan.specs.Plan.{most_partitions, numbers, minimum_check}
use Rattle.plan.specs.declared.Partitioning.{Partitioning}
use Rattle.part.specs.Part.{room_of}
use Rattle.store.specs.Store.{tuple_room, row_room}
use Rattle.session_plan.specs.declared.Session.{Session}

-- ---- the session

-- "The program `wall` reads standard input with up to 8 lanes, 32 tuples and 64 rows a lane."
abbrev pub wall_partitions : ℕ
wall_partitions = 8

abbrev pub wall_tuples : ℕ
wall_tuples = 32

abbrev pub wall_rows : ℕ
wall_rows = 64

-- the most rows that the wall holds: 8 lanes of 64, 512
abbrev pub wall_rows_most : ℕ
wall_rows_most = wall_partitions * wall_rows

-- before the first line: no lane, and 0 in every place; "The program uses 1 until a line `least,NUMBER`"
abbrev pub fresh : Session
fresh = record { lanes = 0; lasts = replicate most_partitions (record { 0 = 0 }); minimum = 1; complete = false }

-- the plan that the lanes taken so far make
abbrev pub plan_of : Session → Partitioning
plan_of s = record {
  count = s.lanes;
  lasts = s.lasts;
  tuples = wall_tuples;
  rows = wall_rows;
  minimum = s.minimum;
}

-- the session with one lane more; "the line with 99999999 completes the plan"
abbrev pub with_lane : Session → Chronon → Session
with_lane s m = record {
  lanes = s.lanes + 1;
  lasts = set s.lasts s.lanes m;
  minimum = s.minimum;
  complete = eqb m.0 calendar_end;
}

-- the same where there is room for a lane more: with 8 there is none
abbrev pub grown : Session → Chronon → Session
grown s m = pick (ltb s.lanes wall_partitions) (with_lane s m) s

-- the session with that minimum: "the last accepted one counts"
abbrev pub with_minimum : Session → ℕ → Session
with_minimum s n = record { lanes = s.lanes; lasts = s.lasts; minimum = n; complete = s.complete }

-- ---- the words in use: the first of each lent store, as many as the plan's lanes need, or all where there are fewer

abbrev pub used_partitions : Session → ℕ
used_partitions s = min s.lanes wall_partitions

-- 129 words a lane, 1 + 4 * 32, and 321, 1 + 5 * 64
abbrev pub used_tuples : Session → ℕ
used_tuples s = used_partitions s * tuple_room (plan_of s)

abbrev pub used_rows : Session → ℕ
used_rows s = used_partitions s * row_room (plan_of s)

-- the words of 8 lanes of tuples (1,032), and of rows (2,568)
abbrev pub wall_tuple_words : ℕ
wall_tuple_words = wall_partitions * room_of tuple_width wall_tuples

abbrev pub wall_row_words : ℕ
wall_row_words = wall_partitions * room_of row_width wall_rows

-- ---- a lane line

-- the last minute of the lane line before
abbrev pub last_cut : Session → ℕ
last_cut s = get_or (numbers s.lasts) (s.lanes - 1) 0

-- "A lane line that isn't above the one before, or an eighth that isn't 99999999, gives 2 and is not counted". So does
-- a ninth, which cannot come up in a session that began with `fresh`: there the eighth completes the plan.
unfoldable pub bad_lane : Session → ℕ → Bool
bad_lane s m =
    (ltb 0 s.lanes && leb m (last_cut s))
    || ((leb (wall_partitions - 1) s.lanes && not (eqb m calendar_end)) || leb wall_partitions s.lanes)

-- 16 for "a lane line after" the plan is complete, which comes before all others; then 2
unfoldable pub lane_check : Session → ℕ → ℕ
lane_check s m = first_of (refuse_if s.complete 16 ∷ (refuse_if (bad_lane s m) 2 ∷ []))

-- ---- a `least` line

-- "which gets 16 once the plan is complete"; "Such a line with a number out of range gets 18, after 15 and 16."
unfoldable pub least_check : Session → ℕ → ℕ
least_check s n = first_of (refuse_if s.complete 16 ∷ (minimum_check n ∷ []))
