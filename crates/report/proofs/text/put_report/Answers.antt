-- `report::text::put_report` meets its contract: `rows,`, the count and its byte 10, the lanes (`Left`: what is left
-- of the text).
-- Assumes nothing.
use mathlib.Core.List.{List, [], ◌++◌}
use Prim.Native.Nat.{ℕ, ◌+◌, ◌≤◌}
use native.Mathlib.Nat.{zero-add}
use lib.ListN.{length}
use Rattle.lines.specs.Fields.{comma, line_end, digits_of}
use Rattle.text_buffer.specs.Buffer.{ended}
use Rattle.text_buffer.proofs.Writing.{Left, left-start, left-room, left-more, left_end, left_as}
use Rattle.report.specs.Text.{rows_bytes, row_count, partitions_text, text_of}
use Rattle.report.proofs.Bounds.{text-pieces}
use Rattle.report.proofs.text.put_report.Goals as goal

pub put_bytes-word-requires : goal.put_bytes-word-requires
put_bytes-word-requires c =
    let after_word : List ℕ =
    let a = c.args in
    ended (digits_of (row_count a.p a.rows.now)) line_end ++ (partitions_text a.p a.rows.now ++ []) in
    let fits : 0 + length (text_of c.args.p c.args.rows.now) ≤ length c.args.out.now =
    rw zero-add c.requires.rows_in_bounds in
    let TextLeft : ℕ → List ℕ → List ℕ → Type 0 =
    λ at. λ left. λ now. Left 0 (text_of c.args.p c.args.rows.now) c.args.out.now at left now in
    let none-put : TextLeft 0 (ended rows_bytes comma ++ after_word) c.args.out.now =
    let a = c.args in
    left_as 0 (text_of a.p a.rows.now) a.out.now 0 a.out.now _ _ (text-pieces a.p a.rows.now)
    (left-start 0 (text_of a.p a.rows.now) a.out.now) in
    let a = c.args in
    left-room 0 (text_of a.p a.rows.now) a.out.now fits 0 a.out.now (ended rows_bytes comma)
    after_word
    none-put

pub put_number-next-requires : goal.put_number-next-requires
put_number-next-requires c =
    let fits : 0 + length (text_of c.args.p c.args.rows.now) ≤ length c.args.out.now =
    rw zero-add c.requires.rows_in_bounds in
    let TextLeft : ℕ → List ℕ → List ℕ → Type 0 =
    λ at. λ left. λ now. Left 0 (text_of c.args.p c.args.rows.now) c.args.out.now at left now in
    let after_word : List ℕ =
    let a = c.args in
    ended (digits_of (row_count a.p a.rows.now)) line_end ++ (partitions_text a.p a.rows.now ++ []) in
    let none-put : TextLeft 0 (ended rows_bytes comma ++ after_word) c.args.out.now =
    let a = c.args in
    left_as 0 (text_of a.p a.rows.now) a.out.now 0 a.out.now _ _ (text-pieces a.p a.rows.now)
    (left-start 0 (text_of a.p a.rows.now) a.out.now) in
    let word-put : TextLeft c.put_bytes-word.result
    after_word
    c.put_bytes-word.new.out =
    let a = c.args in
    left-more 0 (text_of a.p a.rows.now) a.out.now fits 0 a.out.now (ended rows_bytes comma)
    after_word _ _
    none-put c.put_bytes-word.ensures in
    let count_left : (TextLeft c.put_bytes-word.result
    (ended (digits_of c.count_rows.result) line_end ++ (partitions_text c.args.p c.args.rows.now ++ []))
    c.put_bytes-word.new.out) =
    rw c.count_rows.ensures word-put in
    let a = c.args in
    left-room 0 (text_of a.p a.rows.now) a.out.now fits c.put_bytes-word.result c.put_bytes-word.new.out
    (ended (digits_of c.count_rows.result) line_end) (partitions_text a.p a.rows.now ++ []) count_left

pub put_partitions-requires : goal.put_partitions-requires
put_partitions-requires c =
    let fits : 0 + length (text_of c.args.p c.args.rows.now) ≤ length c.args.out.now =
    rw zero-add c.requires.rows_in_bounds in
    let TextLeft : ℕ → List ℕ → List ℕ → Type 0 =
    λ at. λ left. λ now. Left 0 (text_of c.args.p c.args.rows.now) c.args.out.now at left now in
    let after_word : List ℕ =
    let a = c.args in
    ended (digits_of (row_count a.p a.rows.now)) line_end ++ (partitions_text a.p a.rows.now ++ []) in
    let none-put : TextLeft 0 (ended rows_bytes comma ++ after_word) c.args.out.now =
    let a = c.args in
    left_as 0 (text_of a.p a.rows.now) a.out.now 0 a.out.now _ _ (text-pieces a.p a.rows.now)
    (left-start 0 (text_of a.p a.rows.now) a.out.now) in
    let word-put : TextLeft c.put_bytes-word.result
    after_word
    c.put_bytes-word.new.out =
    let a = c.args in
    left-more 0 (text_of a.p a.rows.now) a.out.now fits 0 a.out.now (ended rows_bytes comma)
    after_word _ _
    none-put c.put_bytes-word.ensures in
    let count_left : (TextLeft c.put_bytes-word.result
    (ended (digits_of c.count_rows.result) line_end ++ (partitions_text c.args.p c.args.rows.now ++ []))
    c.put_bytes-word.new.out) =
    rw c.count_rows.ensures word-put in
    let count-put : (TextLeft c.put_number-next.result (partitions_text c.args.p c.args.rows.now ++ [])
    c.put_number-next.new.out) =
    let a = c.args in
    left-more 0 (text_of a.p a.rows.now) a.out.now fits c.put_bytes-word.result c.put_bytes-word.new.out
    (ended (digits_of c.count_rows.result) line_end) (partitions_text a.p a.rows.now ++ []) _ _
    count_left c.put_number-next.ensures in
    let a = c.args in
    record {
      sound_store = c.requires.sound_store;
      rows_in_bounds = left-room 0 (text_of a.p a.rows.now) a.out.now fits c.put_number-next.result
          c.put_number-next.new.out (partitions_text a.p a.rows.now) [] count-put;
    }

pub returns : goal.returns
returns c =
    let fits : 0 + length (text_of c.args.p c.args.rows.now) ≤ length c.args.out.now =
    rw zero-add c.requires.rows_in_bounds in
    let TextLeft : ℕ → List ℕ → List ℕ → Type 0 =
    λ at. λ left. λ now. Left 0 (text_of c.args.p c.args.rows.now) c.args.out.now at left now in
    let after_word : List ℕ =
    let a = c.args in
    ended (digits_of (row_count a.p a.rows.now)) line_end ++ (partitions_text a.p a.rows.now ++ []) in
    let none-put : TextLeft 0 (ended rows_bytes comma ++ after_word) c.args.out.now =
    let a = c.args in
    left_as 0 (text_of a.p a.rows.now) a.out.now 0 a.out.now _ _ (text-pieces a.p a.rows.now)
    (left-start 0 (text_of a.p a.rows.now) a.out.now) in
    let word-put : TextLeft c.put_bytes-word.result
    after_word
    c.put_bytes-word.new.out =
    let a = c.args in
    left-more 0 (text_of a.p a.rows.now) a.out.now fits 0 a.out.now (ended rows_bytes comma)
    after_word _ _
    none-put c.put_bytes-word.ensures in
    let count_left : (TextLeft c.put_bytes-word.result
    (ended (digits_of c.count_rows.result) line_end ++ (partitions_text c.args.p c.args.rows.now ++ []))
    c.put_bytes-word.new.out) =
    rw c.count_rows.ensures word-put in
    let count-put : (TextLeft c.put_number-next.result (partitions_text c.args.p c.args.rows.now ++ [])
    c.put_number-next.new.out) =
    let a = c.args in
    left-more 0 (text_of a.p a.rows.now) a.out.now fits c.put_bytes-word.result c.put_bytes-word.new.out
    (ended (digits_of c.count_rows.result) line_end) (partitions_text a.p a.rows.now ++ []) _ _
    count_left c.put_number-next.ensures in
    let a = c.args in
    left_end 0 (text_of a.p a.rows.now) a.out.now fits _ _
    (left-more 0 (text_of a.p a.rows.now) a.out.now fits c.put_number-next.result c.put_number-next.new.out
    (partitions_text a.p a.rows.now) [] _ _ count-put c.put_partitions.ensures)
