-- What the listed records say of the join: the claim of document 02, (h), of the drawings of two stores; and how many
-- there are at the most. The proofs are in proofs/Joined.antt.
use Rattle.std.specs.Prelude.{true, List, ◌≡◌, ℕ, ◌+◌, ◌≤◌, length}
use Rattle.lists.specs.Members.{any, tally, total}
use Rattle.interval.specs.Tuple.{same_tuple}
use Rattle.interval.specs.declared.time.Interval.{Interval}
use Rattle.interval.specs.declared.tuple.Tuple.{Tuple}
use Rattle.plan.specs.declared.Partitioning.{Partitioning}
use Rattle.store.specs.Store.{stored_tuples}
use Rattle.rows.specs.Join.{join_of}
use Rattle.coverage.specs.Gaps.{rows_of, covered, minutes_in, minutes_of, gaps_of}
use Rattle.coverage.specs.Longest.{in_gap, GapsAre}
use Rattle.checks.specs.Stores.{sides_number}
use Rattle.gaps.specs.Listed.{words_for, gaps_number}

-- of a stored drawing: "the stretches' minutes plus the minutes in at least one of its rows make the length of its
-- span, both counted minute by minute from the join", the stretches' also by their own lengths; and the stretches are
-- exactly the longest ones, each once, rising, and the only such list
pub record GapsOfStored (p : Partitioning) (inner : List ℕ) (d : Tuple) : Type 0 where
  pub minutes : tally (in_gap (gaps_of d (rows_of p inner d))) (minutes_of d)
      + tally (covered (rows_of p inner d)) (minutes_of d)
      ≡ minutes_in d.valid
  pub lengths : total minutes_in (gaps_of d (rows_of p inner d)) + tally (covered (rows_of p inner d)) (minutes_of d)
      ≡ minutes_in d.valid
  pub longest : GapsAre d (rows_of p inner d) (gaps_of d (rows_of p inner d))
  pub only : (vs : List Interval) → GapsAre d (rows_of p inner d) vs → vs ≡ gaps_of d (rows_of p inner d)

abbrev pub StoredGaps : Type 0
StoredGaps =
    (p : Partitioning) (outer inner : List ℕ) → sides_number p outer inner ≡ 0
    → (d : Tuple) → any (same_tuple d) (stored_tuples p outer) ≡ true → GapsOfStored p inner d

-- a buffer for as many records as there are drawings and rows of the join together is always long enough
abbrev pub EnoughRoom : Type 0
EnoughRoom =
    (p : Partitioning) (outer inner : List ℕ) (room : ℕ) → sides_number p outer inner ≡ 0
    → words_for (length (stored_tuples p outer)
    + length (join_of p.minimum (stored_tuples p outer) (stored_tuples p inner))) ≤ room
    → gaps_number p outer inner room ≡ 0
