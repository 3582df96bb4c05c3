-- `report::text::put_row` meets its contract: field after field (`Left`: what is left of the line).
-- Assumes nothing.
use mathlib.Core.List.{List, [], ◌++◌}
use Prim.Native.Nat.{ℕ, ◌+◌, ◌≤◌}
use lib.ListN.{length}
use Rattle.label.specs.Label.{letters_of}
use Rattle.interval.specs.declared.tuple.Row.{Row}
use Rattle.lines.specs.Fields.{comma, line_end, digits_of}
use Rattle.text_buffer.specs.Buffer.{ended, Put}
use Rattle.text_buffer.proofs.Writing.{Left, left-start, left-room, left-more, left_end, left_as}
use Rattle.report.specs.Text.{row_line}
use Rattle.report.proofs.Pieces.{row-fields, after_partition, after_label, after_outer, after_inner, after_first}
use Rattle.report.proofs.text.put_row.Goals as goal

module _ (at partition : ℕ) (row : Row) (out : List ℕ) (fits : at + length (row_line partition row) ≤ length out) where
  -- the line with `left` still to put from place `from` on
  abbrev LineLeft : ℕ → List ℕ → List ℕ → Type 0
  LineLeft from left now = Left at (row_line partition row) out from left now

  -- the next field has room; it was put
  room : (from : ℕ) (field rest now : List ℕ) → LineLeft from (field ++ rest) now → from + length field ≤ length now
  room from field rest now l = left-room at (row_line partition row) out fits from now field rest l

  more : (from : ℕ) (field rest now now' : List ℕ) (next : ℕ) → LineLeft from (field ++ rest) now
      → Put from field now now' next → LineLeft next rest now'
  more from field rest now now' next l p =
      left-more at (row_line partition row) out fits from now field rest now' next l p

  -- before the first field, and after each but the last
  none-put : LineLeft at (ended (digits_of partition) comma ++ after_partition row) out
  none-put =
      left_as at (row_line partition row) out at out _ _ (row-fields partition row)
      (left-start at (row_line partition row) out)

  partition-put : {n1 : ℕ} {o1 : List ℕ} → Put at (ended (digits_of partition) comma) out o1 n1
      → LineLeft n1 (after_partition row) o1
  partition-put p = more _ _ _ _ _ _ none-put p

  label-put : {n1 n2 : ℕ} {o1 o2 : List ℕ} → Put at (ended (digits_of partition) comma) out o1 n1
      → Put n1 (ended (letters_of row.label) comma) o1 o2 n2
      → LineLeft n2 (after_label row) o2
  label-put p q = more _ _ _ _ _ _ (partition-put p) q

  outer-put : {n1 n2 n3 : ℕ} {o1 o2 o3 : List ℕ} → Put at (ended (digits_of partition) comma) out o1 n1
      → Put n1 (ended (letters_of row.label) comma) o1 o2 n2
      → Put n2 (ended (digits_of row.outer) comma) o2 o3 n3
      → LineLeft n3 (after_outer row) o3
  outer-put p q r = more _ _ _ _ _ _ (label-put p q) r

  inner-put : {n1 n2 n3 n4 : ℕ} {o1 o2 o3 o4 : List ℕ} → Put at (ended (digits_of partition) comma) out o1 n1
      → Put n1 (ended (letters_of row.label) comma) o1 o2 n2
      → Put n2 (ended (digits_of row.outer) comma) o2 o3 n3
      → Put n3 (ended (digits_of row.inner) comma) o3 o4 n4
      → LineLeft n4 (after_inner row) o4
  inner-put p q r s = more _ _ _ _ _ _ (outer-put p q r) s

  first-put : {n1 n2 n3 n4 n5 : ℕ} {o1 o2 o3 o4 o5 : List ℕ} → Put at (ended (digits_of partition) comma) out o1 n1
      → Put n1 (ended (letters_of row.label) comma) o1 o2 n2
      → Put n2 (ended (digits_of row.outer) comma) o2 o3 n3
      → Put n3 (ended (digits_of row.inner) comma) o3 o4 n4
      → Put n4 (ended (digits_of row.valid.first.0) comma) o4 o5 n5
      → LineLeft n5 (after_first row) o5
  first-put p q r s t = more _ _ _ _ _ _ (inner-put p q r s) t

pub put_number-label-requires : goal.put_number-label-requires
put_number-label-requires c =
    let a = c.args in
    room a.at a.partition a.row a.out.now c.requires _ (ended (digits_of a.partition) comma) (after_partition a.row) _
    (none-put a.at a.partition a.row a.out.now c.requires)

pub put_label-drawing-requires : goal.put_label-drawing-requires
put_label-drawing-requires c =
    let a = c.args in
    room a.at a.partition a.row a.out.now c.requires _ (ended (letters_of a.row.label) comma) (after_label a.row) _
    (partition-put a.at a.partition a.row a.out.now c.requires
    c.put_number-label.ensures)

pub put_number-spot-requires : goal.put_number-spot-requires
put_number-spot-requires c =
    let a = c.args in
    room a.at a.partition a.row a.out.now c.requires _ (ended (digits_of a.row.outer) comma) (after_outer a.row) _
    (label-put a.at a.partition a.row a.out.now c.requires
    c.put_number-label.ensures c.put_label-drawing.ensures)

pub put_number-first-requires : goal.put_number-first-requires
put_number-first-requires c =
    let a = c.args in
    room a.at a.partition a.row a.out.now c.requires _ (ended (digits_of a.row.inner) comma) (after_inner a.row) _
    (outer-put a.at a.partition a.row a.out.now c.requires
    c.put_number-label.ensures c.put_label-drawing.ensures c.put_number-spot.ensures)

pub put_number-last-requires : goal.put_number-last-requires
put_number-last-requires c =
    let a = c.args in
    room a.at a.partition a.row a.out.now c.requires _ (ended (digits_of a.row.valid.first.0) comma) (after_first a.row) _
    (inner-put a.at a.partition a.row a.out.now c.requires
    c.put_number-label.ensures c.put_label-drawing.ensures c.put_number-spot.ensures c.put_number-first.ensures)

pub put_number-requires : goal.put_number-requires
put_number-requires c =
    let a = c.args in
    room a.at a.partition a.row a.out.now c.requires _ (ended (digits_of a.row.valid.last.0) line_end) [] _
    (first-put a.at a.partition a.row a.out.now c.requires
    c.put_number-label.ensures c.put_label-drawing.ensures c.put_number-spot.ensures
    c.put_number-first.ensures c.put_number-last.ensures)

pub returns : goal.returns
returns c =
    let a = c.args in
    left_end a.at (row_line a.partition a.row) a.out.now c.requires _ _
    (more a.at a.partition a.row a.out.now c.requires c.put_number-last.result
    (ended (digits_of a.row.valid.last.0) line_end) [] _ _ _
    (first-put a.at a.partition a.row a.out.now c.requires
    c.put_number-label.ensures c.put_label-drawing.ensures c.put_number-spot.ensures
    c.put_number-first.ensures c.put_number-last.ensures)
    c.put_number.ensures)
