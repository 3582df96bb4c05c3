-- What the gaps of a tuple are, beyond their definition: their minutes and the covered ones make up its span; they are
-- exactly the longest uncovered stretches, each once, rising; there is at most one more than rows. The proofs are in
-- proofs/: Lengths, Longest, Few.
use Rattle.std.specs.Prelude.{Bool, true, false, ◌&&◌, List, [], ◌∷◌, ◌≡◌, ℕ, suc, ◌+◌, ◌≤◌, ltb, length}
use Rattle.lists.specs.Members.{any, tally, total}
use Rattle.interval.specs.Time.{contains}
use Rattle.interval.specs.Tuple.{from, to, same_interval}
use Rattle.interval.specs.declared.time.Interval.{Interval}
use Rattle.interval.specs.declared.tuple.Tuple.{Tuple}
use Rattle.interval.specs.declared.tuple.Row.{Row}
use Rattle.coverage.specs.Gaps.{chronon, covered, minutes_in, minutes_of, gaps_of}

-- minute m lies in one of the stretches
unfoldable pub in_gap : List Interval → ℕ → Bool
in_gap vs m = any (λ v. contains v (chronon m)) vs

-- "For each drawing, the stretches' minutes plus the minutes in at least one of its rows make the length of its span,
-- both counted minute by minute": of a drawing d that makes rs
abbrev pub MinutesAddUp : Type 0
MinutesAddUp =
    (d : Tuple) (rs : List Row)
    → tally (in_gap (gaps_of d rs)) (minutes_of d) + tally (covered rs) (minutes_of d) ≡ minutes_in d.valid

-- the same with the stretches' own lengths: so no minute is in two of them, and none lies outside the span
abbrev pub LengthsAddUp : Type 0
LengthsAddUp =
    (d : Tuple) (rs : List Row)
    → total minutes_in (gaps_of d rs) + tally (covered rs) (minutes_of d) ≡ minutes_in d.valid

-- a longest stretch, said without a list: within the span, in no row, and not to be lengthened on either side
pub record Longest (d : Tuple) (rs : List Row) (v : Interval) : Type 0 where
  pub some : v.first.0 ≤ v.last.0
  pub starts : from d ≤ v.first.0
  pub stops : v.last.0 ≤ to d
  pub free : (m : ℕ) → contains v (chronon m) ≡ true → covered rs m ≡ false
  pub left : (m : ℕ) → suc m ≡ v.first.0 → from d ≤ m → covered rs m ≡ true
  pub right : suc v.last.0 ≤ to d → covered rs (suc v.last.0) ≡ true

-- one after the other, parted by a minute at least
unfoldable pub rising : List Interval → Bool
rising [] = true
rising (v ∷ []) = true
rising (v ∷ (u ∷ vs)) = ltb (suc v.last.0) u.first.0 && rising (u ∷ vs)

-- the list has the longest stretches, each once, in rising order, and nothing else
pub record GapsAre (d : Tuple) (rs : List Row) (vs : List Interval) : Type 0 where
  pub each : (v : Interval) → any (same_interval v) vs ≡ true → Longest d rs v
  pub every : (v : Interval) → Longest d rs v → any (same_interval v) vs ≡ true
  pub order : rising vs ≡ true

abbrev pub GapsAreLongest : Type 0
GapsAreLongest = (d : Tuple) (rs : List Row) → GapsAre d rs (gaps_of d rs)

-- it is the only such list
abbrev pub OnlyGaps : Type 0
OnlyGaps = (d : Tuple) (rs : List Row) (vs : List Interval) → GapsAre d rs vs → vs ≡ gaps_of d rs

-- a drawing has at most one gap more than rows
abbrev pub FewGaps : Type 0
FewGaps = (d : Tuple) (rs : List Row) → length (gaps_of d rs) ≤ suc (length rs)
