-- The ten tabled cases of document 01, P1 to P10, computed from the definitions that the promises use: one table, one
-- theorem.
-- A case is its number, the words that the definitions give, and the words that document 01 gives.
-- Assumes nothing.
use mathlib.Core.List.{List, [], ◌∷◌, ◌++◌, map}
use mathlib.Core.Path.{◌≡◌, refl}
use Prim.Native.Nat.{ℕ, ◌+◌, ◌-◌, ◌*◌}
use lib.ListN.{length, replicate}
use Rattle.lists.specs.Members.{gather, without, below}
use Rattle.label.specs.Label.{rank, label_number}
use Rattle.interval.specs.Time.{span, overlap, durability, durable}
use Rattle.interval.specs.Tuple.{tuple, same_label, same_interval, same_tuple, row_words}
use Rattle.interval.specs.declared.time.Interval.{Interval}
use Rattle.interval.specs.declared.tuple.Tuple.{Tuple}
use Rattle.interval.specs.declared.tuple.Row.{Row}
use Rattle.plan.specs.Plan.{cuts_of, home_of, home, start_of}
use Rattle.plan.specs.declared.Partitioning.{Partitioning}
use Rattle.part.specs.Part.{counted, records_in, tuples_in, appended}
use Rattle.store.specs.Store.{tuple_room, stored_tuples, rows_at}
use Rattle.rows.specs.Join.{rows_of_pair, join_of}
use Rattle.sweep_count.specs.Pairs.{meet, pairs_of, joined}
use Rattle.insertion.specs.Inserts.{inserted}

-- ---- how a case is written

-- a plan with these cuts
abbrev plan : ℕ → List ℕ → Partitioning
plan n cuts = record {
  count = n;
  lasts = map (λ (m : ℕ). record { 0 = m }) (cuts ++ replicate (64 - length cuts) 0);
  tuples = 8;
  rows = 8;
  minimum = 1;
}

-- the words of a store into which these tuples were inserted
abbrev store_of : Partitioning → List Tuple → List ℕ
store_of p ts = put ts (replicate (p.count * tuple_room p) 0)
  where
    put : List Tuple → List ℕ → List ℕ
    put [] ws = ws
    put (t ∷ ts) ws = put ts (inserted p t ws)

-- the rows of the join by lane: lane, label, drawing, spot, first, last
abbrev by_partition : Partitioning → List Tuple → List Tuple → List ℕ
by_partition p ds ss =
    gather (λ i. gather (λ (r : Row). (i + 1) ∷ row_words r) (rows_at p i (joined p (store_of p ds) (store_of p ss))))
    (below p.count)

abbrev ends : List Interval → List ℕ
ends vs = gather (λ (v : Interval). v.first.0 ∷ (v.last.0 ∷ [])) vs

abbrev words : List Row → List ℕ
words rs = gather row_words rs

-- ---- document 01's example, and the tuples of P6 and P7

abbrev three : Partitioning
three = plan 3 (34 ∷ (40 ∷ (99999999 ∷ [])))

abbrev single : Partitioning
single = plan 1 (99999999 ∷ [])

abbrev drawings : List Tuple
drawings = tuple 38 10 30 31 ∷ (tuple 38 11 32 32 ∷ (tuple 38 10 33 40 ∷ (tuple 38 11 41 48 ∷ [])))

abbrev spots : List Tuple
spots = tuple 38 1 30 35 ∷ (tuple 38 2 36 48 ∷ [])

abbrev twice : List Tuple
twice = tuple 1 5 1 10 ∷ (tuple 1 5 5 20 ∷ [])

abbrev spot : List Tuple
spot = tuple 1 7 5 10 ∷ []

-- the pairs that a sweep of the example compares
abbrev compared : Partitioning → ℕ
compared p = pairs_of p (store_of p drawings) (store_of p spots)

-- a line of the example's output
abbrev line : ℕ → ℕ → ℕ → ℕ → ℕ → ℕ → List ℕ
line partition l d s a b = partition ∷ (l ∷ (d ∷ (s ∷ (a ∷ (b ∷ [])))))

-- ---- the table

pub record Case : Type 0 where
  pub number : ℕ
  pub computed : List ℕ
  pub stated : List ℕ

abbrev case : ℕ → List ℕ → List ℕ → Case
case n c s = record { number = n; computed = c; stated = s }

-- P1 the rows of the example, by lane. P2 and P3 overlaps. P4 unequal labels. P5 labels' numbers: A, Z, AA, AL,
-- ZZZZZZZZ.
-- P6 a row twice. P7 the first drawing withdrawn. P8 an empty side. P9 pairs compared, with three lanes and with one.
-- P10 the lanes of last minutes 34 and 35.
abbrev pub table : List Case
table =
    case 1
    (by_partition three drawings spots)
    (line 1 38 10 1 30 31
    ++ (line 1 38 11 1 32 32 ++ (line 2 38 10 1 33 35 ++ (line 2 38 10 2 36 40 ++ line 3 38 11 2 41 48))))
    ∷ (case 2 (ends (overlap (span 1 5) (span 5 9))) (5 ∷ (5 ∷ []))
    ∷ (case 3 (ends (overlap (span 1 5) (span 6 9))) []
    ∷ (case 4 (words (rows_of_pair 1 (tuple 1 5 1 10) (tuple 2 7 1 10))) []
    ∷ (case 5
    (label_number (65 ∷ [])
    ∷ (label_number (90 ∷ [])
    ∷ (label_number (65 ∷ (65 ∷ [])) ∷ (label_number (65 ∷ (76 ∷ [])) ∷ (label_number (replicate 8 90) ∷ [])))))
    (1 ∷ (26 ∷ (27 ∷ (38 ∷ (217180147158 ∷ [])))))
    ∷ (case 6 (words (join_of 1 twice spot)) (1 ∷ (5 ∷ (7 ∷ (5 ∷ (10 ∷ (1 ∷ (5 ∷ (7 ∷ (5 ∷ (10 ∷ []))))))))))
    ∷ (case 7 (words (join_of 1 (without (same_tuple (tuple 1 5 1 10)) twice) spot)) (1 ∷ (5 ∷ (7 ∷ (5 ∷ (10 ∷ [])))))
    ∷ (case 8 (words (join_of 1 [] spots ++ join_of 1 drawings [])) []
    ∷ (case 9 (compared three ∷ (compared single ∷ [])) (5 ∷ (8 ∷ []))
    ∷ (case 10 ((home three 34 + 1) ∷ ((home three 35 + 1) ∷ [])) (1 ∷ (2 ∷ []))
    ∷ [])))))))))

-- all ten: what is computed is what is stated
pub ten-cases : map (λ (c : Case). c.computed) table ≡ map (λ (c : Case). c.stated) table
unfolding label_number rank overlap durability durable same_label same_interval same_tuple rows_of_pair join_of pairs_of joined
    meet stored_tuples rows_at home home_of cuts_of start_of counted records_in tuples_in appended
ten-cases = refl
