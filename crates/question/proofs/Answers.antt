-- What the scan for a list of questions reads of a sound rows store, and what the questions are after its rows: the
-- store can be scanned (scannable), the answers have room for all the rows (room), each becomes the answer to its
-- question (answers), and as many rows are read as document 02 says (read).
-- In order: the questions after some rows; one question, partition by partition; the four.
-- Assumes nothing.
use mathlib.Core.Bool.{Bool, true, false, ◌&&◌}
use mathlib.Core.List.{List, [], ◌∷◌, map, map-map}
use mathlib.Core.Path.{◌≡◌, refl, sym, ap, ◌∙◌, fun_ext}
use Prim.Native.Nat.{ℕ, suc, ◌+◌, ◌-◌, ◌≤◌, ◌<◌}
use native.Mathlib.Nat.{add-zero, zero-add}
use native.Mathlib.Omega.{arith}
use lib.Dec.{leb, eqb}
use lib.ListN.{length}
use borrow.Author.Tests.{leb-true, le-leb}
use Rattle.lists.specs.Choice.{pick}
use Rattle.lists.specs.Members.{all, tally, total, gather, up_from, below}
use Rattle.lists.proofs.Choice.{and_left, and_right, and_both, same_test}
use Rattle.lists.proofs.Tally.{total-cong, total-keep, total-zero, tally-keep, keep-most}
use Rattle.lists.proofs.Gather.{length-gather, tally-gather}
use Rattle.lists.proofs.Below.{below-from, total-cong-below}
use Rattle.label.specs.Label.{label_check}
use Rattle.interval.specs.Time.{contains}
use Rattle.interval.specs.declared.time.Interval.{Interval}
use Rattle.interval.specs.declared.tuple.Row.{Row}
use Rattle.plan.specs.Plan.{home}
use Rattle.plan.specs.declared.Partitioning.{Partitioning}
use Rattle.part.specs.Part.{counted, rows_in}
use Rattle.part.proofs.Parts.{length-rows}
use Rattle.store.specs.Store.{row_part, row_at_home, stored_rows}
use Rattle.checks.specs.Stores.{rows_number}
use Rattle.cursor.specs.Cursor.{touching, rows_from, scanned, chosen, Scannable}
use Rattle.question.specs.Question.{legal_question, row_meets, answer_in, with_answer, answered, legal_minutes}
use Rattle.question.specs.Question.{stored_from, read_for, rows_read}
use Rattle.question.specs.Steps.{answer_end, with_row, after_rows, room_for, window_of, scan_of}
use Rattle.question.specs.declared.Question.{Question}
use Rattle.question.proofs.Windows.{in_calendar, seen, window-seen, Starts, window-starts}
use Rattle.question.proofs.Lanes.{tally-agree, pick-tally, home-inside, resides, at_home, roomy}
use Rattle.question.proofs.Lanes.{stored-most, stored-none, meets, meets-legal, meets-from}

-- ---- the questions after some rows

-- the question with so many rows more as of these meet it
unfoldable counting : List Row → Question → Question
counting rs q = with_answer (q.answer + tally (row_meets q) rs) q

one-row : (r : Row) (rs : List Row) (q : Question) → counting rs (with_row r q) ≡ counting (r ∷ rs) q
unfolding counting row_meets
one-row r rs q =
    ap (λ (n : ℕ). with_answer n q) (go (row_meets q r) q.answer (tally (row_meets q) rs))
  where
    go : (b : Bool) (a n : ℕ) → pick b (a + 1) a + n ≡ a + pick b (suc n) n
    go true a n = omega arith
    go false a n = refl

after-rows : (rs : List Row) (qs : List Question) → after_rows rs qs ≡ map (counting rs) qs
unfolding counting
after-rows [] [] = refl
after-rows [] (q ∷ qs) = rw (← after-rows [] qs, add-zero)
after-rows (r ∷ rs) qs =
    after-rows rs (map (with_row r) qs) ∙ map-map (counting rs) (with_row r) qs
    ∙ ap (λ (f : Question → Question). map f qs) (fun_ext (one-row r rs))

-- ---- one question, partition by partition

-- a number at each member, or none at any
pick_total : {A : Type 0} (b : Bool) (f : A → ℕ) (xs : List A) → total (λ x. pick b (f x) 0) xs ≡ pick b (total f xs) 0
pick_total true f xs = refl
pick_total false f xs = total-zero xs

module _ (p : Partitioning) (w : Interval) (q : Question) (inside : seen w q ≡ true) where
  -- a legal minute lies in the window
  minute-in : legal_question q ≡ true → (w.first.0 ≤ q.minute.0) × (q.minute.0 ≤ w.last.0)
  unfolding legal_question seen contains
  minute-in e =
      let legal = and_right (eqb (label_check q.label) 0) (in_calendar q) e in
      let first = leb w.first.0 q.minute.0 in
      let last = leb q.minute.0 w.last.0 in
      let within : (first && last) ≡ true = rw legal at inside in (
        leb-true w.first.0 q.minute.0 (and_left first last within),
        leb-true q.minute.0 w.last.0 (and_right first last within),
      )

  -- of the rows at home in partition j, those that are handed out and meet the question are those that meet it, where
  -- it is legal
  handed : ℕ → Row → Bool
  handed j r = leb (home p w.first.0) j && (touching w r && row_meets q r)

  handed-is : (j : ℕ) (r : Row) → row_at_home p j r ≡ true → handed j r ≡ (legal_question q && row_meets q r)
  unfolding handed touching
  handed-is j r h = same_test (handed j r) (legal_question q && row_meets q r) to back
    where
      low : Bool
      low = leb (home p w.first.0) j

      to : handed j r ≡ true → (legal_question q && row_meets q r) ≡ true
      to e =
          let met = and_right (touching w r) (row_meets q r) (and_right low (touching w r && row_meets q r) e) in
          and_both (legal_question q) (row_meets q r)
          (meets-legal p j q r (resides p j r h) (meets q r met)) met

      back : (legal_question q && row_meets q r) ≡ true → handed j r ≡ true
      back e =
          let met = and_right (legal_question q) (row_meets q r) e in
          let it = meets q r met in
          let ends = minute-in (and_left (legal_question q) (row_meets q r) e) in
          let from = meets-from p j q r (resides p j r h) it w.first.0 ends.0 in
          and_both low (touching w r && row_meets q r) (le-leb (home p w.first.0) j from)
          (and_both (touching w r) (row_meets q r)
          (and_both (leb r.valid.first.0 w.last.0) (leb w.first.0 r.valid.last.0)
          (le-leb r.valid.first.0 w.last.0 (omega arith))
          (le-leb w.first.0 r.valid.last.0 (omega arith)))
          met)

  module _ (rows : List ℕ) (known : rows_number p rows ≡ 0) where
    held : ℕ → List Row
    held j = rows_in (row_part p rows j)

    -- so of a partition as many are counted as there are
    counted-at : (j : ℕ) → j < p.count
        → pick (leb (home p w.first.0) j) (tally (λ r. touching w r && row_meets q r) (held j)) 0
        ≡ pick (legal_question q) (tally (row_meets q) (held j)) 0
    unfolding held handed
    counted-at j l =
        pick-tally (leb (home p w.first.0) j) (λ r. touching w r && row_meets q r) (held j)
        ∙ tally-agree (row_at_home p j) (handed j) (λ r. legal_question q && row_meets q r) (held j)
        (at_home p rows known j l) (handed-is j)
        ∙ sym (pick-tally (legal_question q) (row_meets q) (held j))

    -- and of all that is read
    counts-chosen : tally (row_meets q) (chosen (scan_of p w) rows) ≡ answer_in (stored_rows p rows) q
    unfolding scan_of rows_from stored_rows answer_in held
    counts-chosen =
        let i = home p w.first.0 in
        let some : Row → Bool = λ r. touching w r && row_meets q r in
        tally-keep (row_meets q) (touching w) (gather held (up_from i (p.count - i)))
        ∙ tally-gather some held (up_from i (p.count - i))
        ∙ ap (total (λ j. tally some (held j))) (sym (below-from i p.count (home-inside p w.first.0)))
        ∙ total-keep (λ j. tally some (held j)) (leb i) (below p.count)
        ∙ total-cong-below (λ j. pick (leb i j) (tally some (held j)) 0)
        (λ j. pick (legal_question q) (tally (row_meets q) (held j)) 0) p.count counted-at
        ∙ pick_total (legal_question q) (λ j. tally (row_meets q) (held j)) (below p.count)
        ∙ ap (λ (n : ℕ). pick (legal_question q) n 0) (sym (tally-gather (row_meets q) held (below p.count)))

-- ---- a list of questions

-- a value made of each member, where two ways agree at each member that passes a test
map-agree : {A B : Type 0} (t : A → Bool) (f g : A → B) (xs : List A) → all t xs ≡ true
    → ((x : A) → t x ≡ true → f x ≡ g x) → map f xs ≡ map g xs
map-agree t f g [] e h = refl
map-agree t f g (x ∷ xs) e h =
    rw (h x (and_left (t x) (all t xs) e), map-agree t f g xs (and_right (t x) (all t xs) e) h)

-- every question without an answer has room
room-all : (n : ℕ) (qs : List Question) → n ≤ answer_end → room_for n (map (with_answer 0) qs) ≡ true
unfolding room_for
room-all n [] l = refl
room-all n (q ∷ qs) l = and_both _ _ (le-leb (0 + n) answer_end (omega arith)) (room-all n qs l)

module _ (p : Partitioning) (rows : List ℕ) (known : rows_number p rows ≡ 0) where
  -- as many rows are read as are stored from the partition of the window's first chronon on
  length-scanned : (w : Interval) → length (scanned (scan_of p w) rows) ≡ stored_from p rows (home p w.first.0)
  unfolding scan_of rows_from stored_from
  length-scanned w =
      let i = home p w.first.0 in
      length-gather (λ j. rows_in (row_part p rows j)) (up_from i (p.count - i))
      ∙ total-cong (λ j. length (rows_in (row_part p rows j))) (λ j. counted (row_part p rows j))
      (up_from i (p.count - i)) (λ j. length-rows (row_part p rows j))

  module _ (qs : List Question) where
    -- the store can be scanned
    pub scannable : Scannable (scan_of p (window_of qs)) rows
    unfolding scan_of
    scannable = record { roomy = roomy p rows known; inside = home-inside p (window_of qs).first.0 }

    -- each answer has room for every row that is handed out
    pub room : room_for (length (chosen (scan_of p (window_of qs)) rows)) (map (with_answer 0) qs) ≡ true
    room =
        let w = window_of qs in
        let s = scan_of p w in
        room-all (length (chosen s rows)) qs
        (omega (
          arith,
          keep-most (touching s.window) (scanned s rows),
          length-scanned w,
          stored-most p rows known (home p w.first.0) (home-inside p w.first.0),
        ))

    -- after the rows that are handed out each question has its answer
    pub answers : after_rows (chosen (scan_of p (window_of qs)) rows) (map (with_answer 0) qs)
        ≡ map (answered (stored_rows p rows)) qs
    unfolding counting row_meets
    answers =
        let rs = chosen (scan_of p (window_of qs)) rows in
        after-rows rs (map (with_answer 0) qs)
        ∙ map-map (counting rs) (with_answer 0) qs
        ∙ map-agree (seen (window_of qs)) (λ q. counting rs (with_answer 0 q)) (answered (stored_rows p rows)) qs
        (window-seen qs)
        (λ q e.
        ap (λ (n : ℕ). with_answer n q)
        (zero-add (tally (row_meets q) rs) ∙ counts-chosen p (window_of qs) q e rows known))

    -- so many rows are read
    pub read : length (scanned (scan_of p (window_of qs)) rows) ≡ rows_read p rows qs
    unfolding rows_read
    read = length-scanned (window_of qs) ∙ go (legal_minutes qs) (window-starts qs)
      where
        go : (ms : List ℕ) → Starts ms (window_of qs).first.0
            → stored_from p rows (home p (window_of qs).first.0) ≡ read_for p rows ms
        go [] e = ap (λ (m : ℕ). stored_from p rows (home p m)) e ∙ stored-none p rows known
        go (m ∷ ms) e = ap (λ (n : ℕ). stored_from p rows (home p n)) e
