-- The next covered stretch, from a minute on: of the rows that end at or after it, the earliest minute from there on
-- that one of them covers, and how far the furthest of those that cover it goes. What is before it is a gap.
-- The laws are in proofs/NextCovered.antt.
use Rattle.std.specs.Prelude.{List, [], ◌∷◌, ℕ, ◌+◌, max, ltb}
use Rattle.lists.specs.Choice.{pick}
use Rattle.interval.specs.Time.{span}
use Rattle.interval.specs.Tuple.{to}
use Rattle.interval.specs.declared.time.Interval.{Interval}
use Rattle.interval.specs.declared.tuple.Tuple.{Tuple}
use Rattle.interval.specs.declared.tuple.Row.{Row}

-- of the stretch found so far, from minute m on, and of the interval of one more row: the one that starts first, and
-- where both start together the one that goes further; a row that ends before m is none
unfoldable pub nearer : ℕ → Interval → Interval → Interval
nearer m best v =
    pick (ltb v.last.0 m) best
    (pick (ltb best.first.0 (max m v.first.0)) best
    (pick (ltb (max m v.first.0) best.first.0) (span (max m v.first.0) v.last.0)
    (span (max m v.first.0) (max best.last.0 v.last.0))))

-- the same of all rows of a list, one after the other
abbrev pub nearest : ℕ → Interval → List Row → Interval
nearest m best [] = best
nearest m best (r ∷ rs) = nearest m (nearer m best r.valid) rs

-- where nothing is covered any more: the minute after the tuple's last
abbrev pub beyond : Tuple → Interval
beyond d = span (to d + 1) (to d + 1)

-- of a tuple d that makes rs, from minute m on
unfoldable pub next_covered : Tuple → List Row → ℕ → Interval
next_covered d rs m = nearest m (beyond d) rs
