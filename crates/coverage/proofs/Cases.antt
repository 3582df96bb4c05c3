-- Closed cases that compute: the gaps of a drawing, by its span and those of its rows; the next covered stretch.
-- Assumes nothing.
use mathlib.Core.List.{List, [], ◌∷◌, map}
use mathlib.Core.Path.{◌≡◌, refl}
use Prim.Native.Nat.{ℕ}
use Rattle.interval.specs.Time.{span, contains}
use Rattle.interval.specs.Tuple.{tuple, row}
use Rattle.interval.specs.declared.time.Interval.{Interval}
use Rattle.interval.specs.declared.tuple.Tuple.{Tuple}
use Rattle.interval.specs.declared.tuple.Row.{Row}
use Rattle.coverage.specs.Gaps.{covered, minutes_of, stretches, gaps_of}
use Rattle.coverage.specs.NextCovered.{nearer, next_covered}
use Rattle.coverage.proofs.Stretches.{gaps_from}

-- a drawing by its span, and its rows by theirs
abbrev drawing : Interval → Tuple
drawing v = tuple 1 7 v.first.0 v.last.0

abbrev rows_over : List Interval → List Row
rows_over vs = map (λ (v : Interval). row 1 7 3 v.first.0 v.last.0) vs

-- the drawing's span, the rows' spans, the gaps
abbrev Case : Type 0
Case = Interval × List Interval × List Interval

abbrev cases : List Case
cases =
    -- no row: the whole span, also of one minute; a row throughout, and one for each minute: none
    (span 30 33, [], span 30 33 ∷ [])
    ∷ ((span 30 30, [], span 30 30 ∷ [])
    ∷ ((span 30 33, span 30 33 ∷ [], [])
    ∷ ((span 30 31, span 31 31 ∷ (span 30 30 ∷ []), [])
    -- one minute left out: at the front, in the middle, at the end; two stretches and three
    ∷ ((span 30 33, span 31 33 ∷ [], span 30 30 ∷ [])
    ∷ ((span 30 33, span 30 30 ∷ (span 32 33 ∷ []), span 31 31 ∷ [])
    ∷ ((span 30 33, span 30 32 ∷ [], span 33 33 ∷ [])
    ∷ ((span 30 33, span 31 32 ∷ [], span 30 30 ∷ (span 33 33 ∷ []))
    ∷ ((span 30 40, span 37 38 ∷ (span 32 33 ∷ []), span 30 31 ∷ (span 34 36 ∷ (span 39 40 ∷ [])))
    -- rows that touch, that overlap, one inside another, equal ones
    ∷ ((span 30 40, span 30 35 ∷ (span 36 40 ∷ []), [])
    ∷ ((span 30 40, span 34 40 ∷ (span 30 35 ∷ []), [])
    ∷ ((span 30 40, span 33 34 ∷ (span 31 38 ∷ (span 35 35 ∷ [])), span 30 30 ∷ (span 39 40 ∷ []))
    ∷ ((span 30 32, span 31 31 ∷ (span 31 31 ∷ []), span 30 30 ∷ (span 32 32 ∷ []))
    -- the calendar's first and last minute
    ∷ ((span 0 2, span 1 1 ∷ [], span 0 0 ∷ (span 2 2 ∷ []))
    ∷ ((span 99999997 99999999, span 99999998 99999998 ∷ [], span 99999997 99999997 ∷ (span 99999999 99999999 ∷ []))
    ∷ ((span 99999999 99999999, span 99999999 99999999 ∷ [], [])
    ∷ [])))))))))))))))

gaps-hold : map (λ (c : Case). gaps_of (drawing c.0) (rows_over c.1)) cases ≡ map (λ (c : Case). c.2) cases
unfolding gaps_of stretches minutes_of covered contains
gaps-hold = refl

-- from a minute on, of a drawing from 30 to 40 with rows over 32 to 33 and 37 to 38: the gaps, and the next covered
-- stretch
abbrev rows : List Row
rows = rows_over (span 37 38 ∷ (span 32 33 ∷ (span 32 32 ∷ [])))

abbrev Left : Type 0
Left = ℕ × List Interval × Interval

abbrev lefts : List Left
lefts =
    (30, span 30 31 ∷ (span 34 36 ∷ (span 39 40 ∷ [])), span 32 33)
    ∷ ((31, span 31 31 ∷ (span 34 36 ∷ (span 39 40 ∷ [])), span 32 33)
    ∷ ((32, span 34 36 ∷ (span 39 40 ∷ []), span 32 33)
    ∷ ((33, span 34 36 ∷ (span 39 40 ∷ []), span 33 33)
    ∷ ((34, span 34 36 ∷ (span 39 40 ∷ []), span 37 38)
    ∷ ((38, span 39 40 ∷ [], span 38 38)
    ∷ ((39, span 39 40 ∷ [], span 41 41)
    ∷ ((40, span 40 40 ∷ [], span 41 41)
    ∷ ((41, [], span 41 41)
    ∷ []))))))))

abbrev left_at : ℕ → Left
left_at m = (m, gaps_from (drawing (span 30 40)) rows m, next_covered (drawing (span 30 40)) rows m)

lefts-hold : map (λ (c : Left). left_at c.0) lefts ≡ lefts
unfolding gaps_from stretches covered contains next_covered nearer
lefts-hold = refl
