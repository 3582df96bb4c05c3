-- What is done for a list of questions: the window of their minutes, what is read for it, and what a row adds to each
-- answer.
use Rattle.std.specs.Prelude.{Bool, List, [], ◌∷◌, map, ℕ, ◌+◌, ◌*◌, min, max, leb}
use Rattle.lists.specs.Choice.{pick}
use Rattle.lists.specs.Members.{all}
use Rattle.interval.specs.Time.{calendar_end, span}
use Rattle.interval.specs.declared.time.Interval.{Interval}
use Rattle.interval.specs.declared.tuple.Row.{Row}
use Rattle.plan.specs.Plan.{most_partitions, most_rows, home}
use Rattle.plan.specs.declared.Partitioning.{Partitioning}
use Rattle.store.specs.Store.{row_room}
use Rattle.cursor.specs.declared.Scan.{Scan}
use Rattle.question.specs.Question.{row_meets, with_answer}
use Rattle.question.specs.declared.Question.{Question}

-- the most that an answer can be: every row of the largest store
abbrev pub answer_end : ℕ
answer_end = most_partitions * most_rows

-- the question after one more row was read
abbrev pub with_row : Row → Question → Question
with_row r q = with_answer (pick (row_meets q r) (q.answer + 1) q.answer) q

-- the questions after these rows were read, one after the other
abbrev pub after_rows : List Row → List Question → List Question
after_rows [] qs = qs
after_rows (r ∷ rs) qs = after_rows rs (map (with_row r) qs)

-- every answer has room for n rows more
unfoldable pub room_for : ℕ → List Question → Bool
room_for n qs = all (λ (q : Question). leb (q.answer + n) answer_end) qs

-- the window of no question, one with a question's minute, where it is legal, and that of a list: from the smallest
-- legal minute to the largest
abbrev pub no_window : Interval
no_window = span (calendar_end + 1) 0

unfoldable pub widened_by : Interval → Question → Interval
widened_by v q =
    pick (leb q.minute.0 calendar_end) (span (min v.first.0 q.minute.0) (max v.last.0 q.minute.0)) v

abbrev pub widened_all : Interval → List Question → Interval
widened_all v [] = v
widened_all v (q ∷ qs) = widened_all (widened_by v q) qs

unfoldable pub window_of : List Question → Interval
window_of qs = widened_all no_window qs

-- what is read for a window: from the partition of its first chronon on; none contains the one of an empty window
unfoldable pub scan_of : Partitioning → Interval → Scan
scan_of p window = record {
  room = row_room p;
  count = p.count;
  from = record { 0 = home p window.first.0 };
  window = window;
}
