-- Insertion sort (specs/Rows): it gives the same rows, each as often, in order.
-- Assumes nothing.
use mathlib.Core.Bool.{Bool, true, false}
use mathlib.Core.List.{List, [], ◌∷◌}
use mathlib.Core.Path.{◌≡◌, refl}
use Rattle.lists.specs.Choice.{pick}
use Rattle.lists.specs.Same.{Same}
use Rattle.lists.proofs.Choice.{and_left, and_right, and_both}
use Rattle.lists.proofs.Same.{same_refl, same-trans, same-cons, same-middle}
use Rattle.interval.specs.Tuple.{same_row}
use Rattle.interval.specs.declared.tuple.Row.{Row}
use Rattle.report.specs.Order.{before, sorted}
use Rattle.report.proofs.Orders.{not-before}
use Rattle.transcript.specs.Rows.{put_row, sort_rows}

-- ---- the same rows

put_same : (r : Row) (rs : List Row) → Same same_row (put_row r rs) (r ∷ rs)
unfolding put_row
put_same r [] = same_refl same_row (r ∷ [])
put_same r (s ∷ rs) = go (before r s) (put_same r rs)
  where
    go : (b : Bool) → Same same_row (put_row r rs) (r ∷ rs)
        → Same same_row (pick b (r ∷ (s ∷ rs)) (s ∷ put_row r rs)) (r ∷ (s ∷ rs))
    go true rest = same_refl same_row (r ∷ (s ∷ rs))
    go false rest =
        same-trans same_row (s ∷ put_row r rs) (s ∷ (r ∷ rs)) (r ∷ (s ∷ rs))
        (same-cons same_row s (put_row r rs) (r ∷ rs) rest) (same-middle same_row r (s ∷ []) rs)

pub sort-same : (rs : List Row) → Same same_row (sort_rows rs) rs
unfolding sort_rows
sort-same [] = same_refl same_row []
sort-same (r ∷ rs) =
    same-trans same_row (put_row r (sort_rows rs)) (r ∷ sort_rows rs) (r ∷ rs) (put_same r (sort_rows rs))
    (same-cons same_row r (sort_rows rs) rs (sort-same rs))

-- ---- in order

-- after a row that it is not before
put-after : (s r : Row) (rs : List Row) → before s r ≡ true → sorted (s ∷ rs) ≡ true → sorted (s ∷ put_row r rs) ≡ true
unfolding put_row sorted
put-after s r [] e h = and_both (before s r) true e refl
put-after s r (u ∷ us) e h =
    let rest = and_right (before s u) (sorted (u ∷ us)) h in
    go (before r u) refl rest (λ q. put-after u r us q rest)
  where
    go : (b : Bool) → before r u ≡ b → sorted (u ∷ us) ≡ true
        → (before u r ≡ true → sorted (u ∷ put_row r us) ≡ true)
        → sorted (s ∷ pick b (r ∷ (u ∷ us)) (u ∷ put_row r us)) ≡ true
    go true q rest put = and_both (before s r) _ e (and_both (before r u) _ q rest)
    go false q rest put =
        and_both (before s u) _ (and_left (before s u) (sorted (u ∷ us)) h) (put (not-before r u q))

put-sorted : (r : Row) (rs : List Row) → sorted rs ≡ true → sorted (put_row r rs) ≡ true
unfolding put_row sorted
put-sorted r [] h = refl
put-sorted r (s ∷ rs) h = go (before r s) refl
  where
    go : (b : Bool) → before r s ≡ b → sorted (pick b (r ∷ (s ∷ rs)) (s ∷ put_row r rs)) ≡ true
    go true q = and_both (before r s) (sorted (s ∷ rs)) q h
    go false q = put-after s r rs (not-before r s q) h

pub sort_sorted : (rs : List Row) → sorted (sort_rows rs) ≡ true
unfolding sort_rows sorted
sort_sorted [] = refl
sort_sorted (r ∷ rs) = put-sorted r (sort_rows rs) (sort_sorted rs)
