-- The text that a list of rows is printed as, whatever order the list has them in: no word of stores.
use Rattle.std.specs.Prelude.{List, [], ◌∷◌, ◌++◌, ℕ, ◌+◌, length}
use Rattle.lists.specs.Choice.{pick}
use Rattle.lists.specs.Members.{gather, below}
use Rattle.interval.specs.declared.tuple.Row.{Row}
use Rattle.plan.specs.declared.Partitioning.{Partitioning}
use Rattle.store.specs.Store.{rows_at}
use Rattle.report.specs.Order.{before}
use Rattle.report.specs.Text.{row_line, count_line}

-- insertion sort: a row goes in front of the first row that it is at or before
unfoldable pub put_row : Row → List Row → List Row
put_row r [] = r ∷ []
put_row r (s ∷ rs) = pick (before r s) (r ∷ (s ∷ rs)) (s ∷ put_row r rs)

unfoldable pub sort_rows : List Row → List Row
sort_rows [] = []
sort_rows (r ∷ rs) = put_row r (sort_rows rs)

-- the lines of the rows that belong to partition i, which is lane i + 1
unfoldable pub lane_lines : Partitioning → ℕ → List Row → List ℕ
lane_lines p i rs = gather (row_line (i + 1)) (sort_rows (rows_at p i rs))

-- "`rows,COUNT`, the number of stored rows in all lanes, .. and the rows by lane, first, last, label number, drawing,
-- spot"
unfoldable pub printed_rows : Partitioning → List Row → List ℕ
printed_rows p rs = count_line (length rs) ++ gather (λ i. lane_lines p i rs) (below p.count)
