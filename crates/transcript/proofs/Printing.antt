-- What `report::write` leaves of a wall that holds what the machine holds: the text of the machine's rows.
-- In order: each lane's rows, sorted; how many rows there are; the text.
-- Assumes nothing.
use mathlib.Core.Bool.{true}
use mathlib.Core.List.{List, [], ◌∷◌, ◌++◌}
use mathlib.Core.Path.{◌≡◌, sym, ◌∙◌, ap, ap₂}
use Prim.Native.Nat.{ℕ, ◌+◌, ◌<◌}
use lib.Dec.{ltb}
use lib.ListN.{length}
use Rattle.lists.specs.Members.{all, gather, below}
use Rattle.lists.proofs.Choice.{and_both}
use Rattle.lists.proofs.Members.{all_append}
use Rattle.lists.proofs.Below.{gather-cong-below}
use Rattle.lists.proofs.Same.{same-trans, same_refl, same-gather-each, same-split, all_same, length-same}
use Rattle.interval.specs.Tuple.{row_to, same_tuple, same_row}
use Rattle.interval.specs.declared.tuple.Tuple.{Tuple}
use Rattle.interval.specs.declared.tuple.Row.{Row}
use Rattle.interval.proofs.Tuples.{same-row-is}
use Rattle.plan.specs.Plan.{home}
use Rattle.plan.specs.declared.Partitioning.{Partitioning}
use Rattle.part.specs.Part.{rows_in}
use Rattle.store.specs.Store.{row_part, stored_tuples, stored_rows, rows_at}
use Rattle.rows.specs.Join.{join_of}
use Rattle.rows.specs.declared.Side.TheVariants.{Outer}
use Rattle.rows.proofs.Joins.{join-outer-more, join-same, join-empty-left}
use Rattle.rows.proofs.JoinsStored.{made-within}
use Rattle.history.proofs.Held.{TupleStore, RowStore}
use Rattle.report.specs.Text.{row_line, count_line, partition_text, partitions_text, text_of, row_count}
use Rattle.report.specs.Report.{SortedStore}
use Rattle.report.proofs.Orders.{sorted-unique}
use Rattle.transcript.specs.Rows.{sort_rows, lane_lines, printed_rows}
use Rattle.transcript.proofs.Sorting.{sort-same, sort_sorted}

-- ---- every row of the join belongs to one of the plan's partitions

pub join-within : (p : Partitioning) (ws : List ℕ) (ds ss : List Tuple) → TupleStore p ws ss
    → all (λ r. ltb (home p (row_to r)) p.count) (join_of p.minimum ds ss) ≡ true
join-within p ws ds ss h =
    sym
    (all_same same_row same-row-is _ (join_of p.minimum ds (stored_tuples p ws)) (join_of p.minimum ds ss)
    (join-same p.minimum ds ds (stored_tuples p ws) ss (same_refl same_tuple ds) h.held))
    ∙ stored ds
  where
    stored : (ds : List Tuple)
        → all (λ r. ltb (home p (row_to r)) p.count) (join_of p.minimum ds (stored_tuples p ws)) ≡ true
    stored [] = ap (all _) (join-empty-left p.minimum (stored_tuples p ws))
    stored (d ∷ ds) =
        rw (join-outer-more p.minimum d ds (stored_tuples p ws), all_append)
        (and_both _ _ (made-within p ws h.sound Outer d) (stored ds))

-- ---- the text

module _ (p : Partitioning) (rows rows' : List ℕ) (rs : List Row) (h : RowStore p rows rs)
    (here : all (λ r. ltb (home p (row_to r)) p.count) rs ≡ true) (s : SortedStore p rows rows') where
  -- each lane holds those of the rows that belong to it, in order
  lane-is : (i : ℕ) → i < p.count → rows_in (row_part p rows' i) ≡ sort_rows (rows_at p i rs)
  lane-is i l =
      sorted-unique (rows_in (row_part p rows' i)) (sort_rows (rows_at p i rs)) (s.ordered i l)
      (sort_sorted (rows_at p i rs))
      (λ r. s.held i l r ∙ h.held i l r ∙ sym (sort-same (rows_at p i rs) r))

  -- all lanes hold as many as there are
  count-is : row_count p rows' ≡ length rs
  unfolding stored_rows rows_at
  count-is =
      let ordered = gather (λ i. sort_rows (rows_at p i rs)) (below p.count) in
      ap length (gather-cong-below _ _ p.count lane-is)
      ∙ length-same same_row same-row-is ordered rs
      (same-trans same_row ordered (gather (λ i. rows_at p i rs) (below p.count)) rs
      (same-gather-each same_row (λ i. sort_rows (rows_at p i rs)) (λ i. rows_at p i rs) (below p.count)
      (λ i. sort-same (rows_at p i rs)))
      (same-split same_row (λ r. home p (row_to r)) p.count rs here))

  pub text-is : text_of p rows' ≡ printed_rows p rs
  unfolding text_of partitions_text partition_text printed_rows lane_lines
  text-is =
      ap₂ ◌++◌ (ap count_line count-is)
      (gather-cong-below _ _ p.count (λ i l. ap (gather (row_line (i + 1))) (lane-is i l)))
