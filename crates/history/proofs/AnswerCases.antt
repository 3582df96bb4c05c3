-- What the plain machine answers to a change, in closed cases that compute: one table for inserts and one for
-- withdrawals, each row a tuple with the number that document 01's checks give it.
-- Assumes nothing.
use mathlib.Core.List.{List, [], ◌∷◌, map}
use mathlib.Core.Path.{◌≡◌, refl}
use Prim.Native.Nat.{ℕ}
use lib.ListN.{replicate}
use Rattle.lists.specs.Choice.{first_of}
use Rattle.label.specs.Label.{label_check}
use Rattle.interval.specs.Time.{overlap, durability, durable}
use Rattle.interval.specs.Tuple.{tuple, item_check, valid_check, tuple_number, same_label, same_interval, same_tuple}
use Rattle.interval.specs.declared.tuple.Tuple.{Tuple}
use Rattle.plan.specs.Plan.{cuts_of, home_of, home}
use Rattle.plan.specs.declared.Partitioning.{Partitioning}
use Rattle.store.specs.Store.{tuples_at, rows_at}
use Rattle.rows.specs.Join.{rows_of_pair, join_of}
use Rattle.rows.specs.declared.Side.{Side}
use Rattle.rows.specs.declared.Side.TheVariants.{Outer, Inner}
use Rattle.history.specs.Machine.{Machine}
use Rattle.history.specs.Answering.{partition_full, rows_pass, insert_answer, delete_answer}

-- ---- how a case is written

pub record Case : Type 0 where
  pub side : Side
  pub given : Tuple
  pub number : ℕ

abbrev case : Side → Tuple → ℕ → Case
case side t n = record { side = side; given = t; number = n }

-- two lanes, with last minutes 34 and 99,999,999, of two tuples and one row each
abbrev lasting : ℕ → Partitioning
lasting minimum = record {
  count = 2;
  lasts = map (λ (m : ℕ). record { 0 = m }) (34 ∷ 99999999 ∷ replicate 62 0);
  tuples = 2;
  rows = 1;
  minimum = minimum;
}

-- lane 1 has its two drawings, one spot and its one row; lane 2 one spot of another label
abbrev held_with : ℕ → Machine
held_with minimum = record {
  plan = lasting minimum;
  outer = tuple 38 10 30 31 ∷ tuple 38 11 32 32 ∷ [];
  inner = tuple 38 1 31 31 ∷ tuple 39 2 40 50 ∷ [];
}

-- where any overlap makes a row
abbrev held : Machine
held = held_with 1

-- ---- the tables

-- accepted: a drawing that makes no row, one whose row is the one that lane 2 has room for, a spot. Then 6, 7; 8, also
-- where 9 applies too, and past the calendar; 17, of a span that begins in the calendar and of one that does not; 9,
-- also where 10 does; 10, of a drawing of lane 2 whose row ends in lane 1, and of a spot
abbrev inserts : List Case
inserts =
    case Outer (tuple 38 12 33 40) 0
    ∷ case Outer (tuple 39 12 31 40) 0
    ∷ case Inner (tuple 38 2 33 34) 0
    ∷ case Outer (tuple 0 12 33 35) 6
    ∷ case Outer (tuple 38 1000000 33 35) 7
    ∷ case Outer (tuple 38 12 34 33) 8
    ∷ case Outer (tuple 38 12 100000001 100000000) 8
    ∷ case Outer (tuple 38 12 33 100000000) 17
    ∷ case Inner (tuple 38 2 100000000 100000000) 17
    ∷ case Outer (tuple 38 12 33 34) 9
    ∷ case Outer (tuple 38 12 31 34) 9
    ∷ case Outer (tuple 38 12 31 40) 10
    ∷ case Inner (tuple 38 2 30 30) 10
    ∷ []

inserts-hold : map (λ (c : Case). insert_answer held c.side c.given) inserts
    ≡ map (λ (c : Case). c.number) inserts
unfolding insert_answer partition_full rows_pass first_of tuple_number label_check item_check valid_check tuples_at rows_at home
    home_of cuts_of join_of rows_of_pair same_label overlap durability durable
inserts-hold = refl

-- where a row lasts at least two minutes the wall has none, so that the drawing and the spot which got 10 are taken;
-- two minutes make a row, and two of them in lane 1 get 10
abbrev durables : List Case
durables =
    case Outer (tuple 38 12 31 40) 0
    ∷ case Inner (tuple 38 2 30 30) 0
    ∷ case Inner (tuple 38 2 30 31) 0
    ∷ case Outer (tuple 39 12 49 50) 0
    ∷ []

durables-hold : map (λ (c : Case). insert_answer (held_with 2) c.side c.given) durables
    ≡ map (λ (c : Case). c.number) durables
unfolding insert_answer partition_full rows_pass first_of tuple_number label_check item_check valid_check tuples_at rows_at home
    home_of cuts_of join_of rows_of_pair same_label overlap durability durable
durables-hold = refl

-- accepted: a drawing and a spot that are there. Then 6, 7, 8, 17; 11, of a drawing with another last minute, and of
-- one that is a spot's
abbrev deletes : List Case
deletes =
    case Outer (tuple 38 11 32 32) 0
    ∷ case Inner (tuple 38 1 31 31) 0
    ∷ case Outer (tuple 0 11 32 32) 6
    ∷ case Outer (tuple 38 1000000 32 32) 7
    ∷ case Outer (tuple 38 11 32 31) 8
    ∷ case Outer (tuple 38 11 32 100000000) 17
    ∷ case Outer (tuple 38 11 32 33) 11
    ∷ case Outer (tuple 38 1 31 31) 11
    ∷ []

deletes-hold : map (λ (c : Case). delete_answer held c.side c.given) deletes
    ≡ map (λ (c : Case). c.number) deletes
unfolding delete_answer first_of tuple_number label_check item_check valid_check same_tuple same_interval
deletes-hold = refl
