-- How many rows are stored and how long the text is: `text-bound`, that the text fits in the room that `write` asks
-- for. In order: totals; the number of stored rows, counted lane by lane, and its bound; the length of a row's line,
-- of a lane's lines, of the text; the text's pieces.
-- Assumes nothing.
use mathlib.Core.Bool.{Bool, true, false, ◌||◌}
use mathlib.Core.List.{List, [], ◌∷◌, ◌++◌, append_assoc, append-nil}
use mathlib.Core.Path.{◌≡◌, sym, ap, ◌∙◌}
use Prim.Native.Nat.{ℕ, zero, suc, ◌+◌, ◌-◌, ◌*◌, ◌/◌, ◌%◌, ◌≤◌, ◌<◌}
use native.Mathlib.Nat.{suc-mul, sub-zero}
use native.Mathlib.Omega.{arith}
use lib.Dec.{ltb}
use lib.ListN.{length, length-append}
use borrow.Author.Tests.{ltb-false}
use Rattle.lists.specs.Choice.{pick}
use Rattle.lists.specs.Members.{all, total, gather, up_from, below}
use Rattle.lists.proofs.Choice.{and_left, and_right, refuse-none}
use Rattle.lists.proofs.Tally.{total-cong}
use Rattle.lists.proofs.Gather.{length-gather}
use Rattle.lists.proofs.Below.{up_next, up-end, total-cong-below}
use Rattle.label.specs.Label.{label_end, label_length, letters_before, letters_of}
use Rattle.interval.specs.Tuple.{row_width, row_of, item_end, item_check, legal_row}
use Rattle.interval.specs.declared.tuple.Row.{Row}
use Rattle.interval.proofs.Tuples.{legal-row, valid-ok}
use Rattle.plan.specs.declared.Partitioning.{Partitioning}
use Rattle.plan.proofs.Homes.{legal-plan}
use Rattle.part.specs.Part.{counted, rows_in}
use Rattle.part.proofs.Parts.{length-rows, sound-count}
use Rattle.store.specs.Store.{row_part, row_at_home, sound_row_part, stored_rows}
use Rattle.store.proofs.Stores.{sound-rows-at, rows-at-home}
use Rattle.checks.specs.Stores.{SoundStore}
use Rattle.lines.specs.Fields.{comma, line_end, digits_of}
use Rattle.text_buffer.specs.Buffer.{ended}
use Rattle.text_buffer.proofs.Digits.{digits-length}
use Rattle.report.specs.Text.{row_bytes, rows_bytes, row_line, count_line}
use Rattle.report.specs.Text.{partition_text, row_count, partitions_text, text_of}
use Rattle.report.specs.Report.{text_room, SortedStore}

-- ---- totals of numbers that are bounded at each number below n

pub total-most : (f : ℕ → ℕ) (most i n : ℕ) → ((j : ℕ) → j < i + n → f j ≤ most) → total f (up_from i n) ≤ n * most
total-most f most i zero h = omega arith
total-most f most i (suc n) h =
    omega (arith, h i (omega arith), total-most f most (suc i) n (λ j l. h j (omega arith)), suc-mul n most)

total-scaled : (f g : ℕ → ℕ) (i n : ℕ) → ((j : ℕ) → j < i + n → f j ≤ row_bytes * g j)
    → total f (up_from i n) ≤ row_bytes * total g (up_from i n)
total-scaled f g i zero h = omega arith
total-scaled f g i (suc n) h =
    omega (arith, h i (omega arith), total-scaled f g (suc i) n (λ j l. h j (omega arith)))

-- ---- the number of stored rows

-- lane by lane
pub row-count : (p : Partitioning) (rows : List ℕ)
    → row_count p rows ≡ total (λ i. counted (row_part p rows i)) (below p.count)
unfolding stored_rows
row-count p rows =
    length-gather (λ i. rows_in (row_part p rows i)) (below p.count)
    ∙ total-cong (λ i. length (rows_in (row_part p rows i))) (λ i. counted (row_part p rows i)) (below p.count)
    (λ i. length-rows (row_part p rows i))

-- sorting leaves it
pub row-count-sorted : (p : Partitioning) (rows rows' : List ℕ) → SortedStore p rows rows'
    → row_count p rows' ≡ row_count p rows
row-count-sorted p rows rows' s =
    row-count p rows'
    ∙ total-cong-below (λ i. counted (row_part p rows' i)) (λ i. counted (row_part p rows i)) p.count s.counts
    ∙ sym (row-count p rows)

module _ (p : Partitioning) (rows : List ℕ) (s : SoundStore p rows) where
  -- a lane holds at most 4,096 rows
  pub partition-most : (i : ℕ) → i < p.count → counted (row_part p rows i) ≤ 4096
  unfolding sound_row_part
  partition-most i h =
      omega (
        arith,
        sound-count row_width p.rows (λ ws. row_at_home p i (row_of ws)) (row_part p rows i)
            (sound-rows-at p rows s.sound i h),
        (legal-plan p s.legal).rows-most,
      )

  -- and 64 lanes at most 262,144
  pub rows-most : row_count p rows ≤ 262144
  rows-most =
      omega (
        arith,
        row-count p rows,
        total-most (λ i. counted (row_part p rows i)) 4096 0 p.count (λ j l. partition-most j (omega arith)),
        (legal-plan p s.legal).most,
      )

-- ---- counting them lane by lane: `count` rows stand in the lanes before lane i

pub record CountedTo (f : ℕ → ℕ) (n i count : ℕ) : Type 0 where
  pub counts : count + total f (up_from i (n - i)) ≡ total f (below n)

module _ (f : ℕ → ℕ) (n : ℕ) where
  pub counted_start : CountedTo f n 0 0
  counted_start = record { counts = rw sub-zero (omega arith) }

  pub counted-most : (i count : ℕ) → i < n → CountedTo f n i count → count + f i ≤ total f (below n)
  counted-most i count h c = omega (arith, c.counts, ap (total f) (up_next i n h))

  pub counted-more : (i count : ℕ) → i < n → CountedTo f n i count → CountedTo f n (i + 1) (count + f i)
  counted-more i count h c = record { counts = omega (arith, c.counts, ap (total f) (up_next i n h)) }

  pub counted-all : (i count : ℕ) → n ≤ i → CountedTo f n i count → count ≡ total f (below n)
  counted-all i count h c = omega (arith, c.counts, ap (total f) (up-end i n h))

-- ---- the length of the text

-- bytes and the byte after them
ended-length : (bytes : List ℕ) (b : ℕ) → length (ended bytes b) ≡ length bytes + 1
ended-length bytes b = length-append bytes (b ∷ [])

-- a label's letters are at most eight
letters-most : (k n : ℕ) (after : List ℕ) → length (letters_before k n after) ≤ k + length after
letters-most zero n after = omega arith
letters-most (suc k) zero after = omega arith
letters-most (suc k) (suc m) after = omega (arith, letters-most k (m / 26) ((65 + m % 26) ∷ after))

letters-length : (n : ℕ) → length (letters_of n) ≤ 8
unfolding letters_of
letters-length n = go (ltb n 1 || ltb label_end n)
  where
    go : (b : Bool) → length (pick b [] (letters_before label_length n [])) ≤ 8
    go true = omega arith
    go false = letters-most label_length n []

-- an item number has at most six digits
item-most : (n : ℕ) → item_check n ≡ 0 → n ≤ item_end
unfolding item_check
item-most n e = ltb-false item_end n (refuse-none (ltb item_end n) 6 e)

-- a legal row's line, for a lane number of at most two digits
row-bound : (minimum partition : ℕ) (r : Row) → partition < 100 → legal_row minimum r ≡ true
    → length (row_line partition r) ≤ row_bytes
unfolding row_line
row-bound minimum partition r h l =
    let legal = legal-row minimum r l in
    let valid = valid-ok r.valid legal.valid in
    simp length-append
    (omega (
      arith,
      digits-length 2 partition (omega arith) h,
      letters-length r.label,
      digits-length 6 r.outer (omega arith) (omega (arith, item-most r.outer legal.outer)),
      digits-length 6 r.inner (omega arith) (omega (arith, item-most r.inner legal.inner)),
      digits-length 8 r.valid.first.0 (omega arith) (omega (arith, valid.0, valid.1)),
      digits-length 8 r.valid.last.0 (omega arith) (omega (arith, valid.1)),
    ))

-- the lines of legal rows
rows_bound : (minimum partition : ℕ) (ok : Row → Bool) (rs : List Row) → partition < 100
    → ((r : Row) → ok r ≡ true → legal_row minimum r ≡ true)
    → all ok rs ≡ true → length (gather (row_line partition) rs) ≤ row_bytes * length rs
rows_bound minimum partition ok [] h legal e = omega arith
rows_bound minimum partition ok (r ∷ rs) h legal e =
    omega (
      arith,
      length-append (row_line partition r) (gather (row_line partition) rs),
      row-bound minimum partition r h (legal r (and_left (ok r) (all ok rs) e)),
      rows_bound minimum partition ok rs h legal (and_right (ok r) (all ok rs) e),
    )

module _ (p : Partitioning) (rows : List ℕ) (s : SoundStore p rows) where
  partition-bound : (i : ℕ) → i < p.count
      → length (partition_text (i + 1) (row_part p rows i)) ≤ row_bytes * counted (row_part p rows i)
  unfolding partition_text row_at_home
  partition-bound i h =
      omega (
        arith,
        rows_bound p.minimum (i + 1) (row_at_home p i) (rows_in (row_part p rows i))
            (omega (arith, (legal-plan p s.legal).most))
            (λ r e. and_left (legal_row p.minimum r) _ e)
            (rows-at-home p i (row_part p rows i) (sound-rows-at p rows s.sound i h)),
        length-rows (row_part p rows i),
      )

  -- the text is never longer than the room that is asked for
  pub text-bound : length (text_of p rows) ≤ text_room (row_count p rows)
  unfolding text_of count_line partitions_text
  text-bound =
      let n = row_count p rows in
      let line = ended rows_bytes comma ++ ended (digits_of n) line_end in
      let lines : ℕ → List ℕ = λ i. partition_text (i + 1) (row_part p rows i) in
      omega (
        arith,
        length-append line (gather lines (below p.count)),
        length-append (ended rows_bytes comma) (ended (digits_of n) line_end),
        ended-length (digits_of n) line_end,
        digits-length 6 n (omega arith) (omega (arith, rows-most p rows s)),
        length-gather lines (below p.count),
        total-scaled (λ i. length (lines i)) (λ i. counted (row_part p rows i)) 0 p.count
            (λ j l. partition-bound j (omega arith)),
        row-count p rows,
      )

-- the pieces of the text, as they are put
pub text-pieces : (p : Partitioning) (rows : List ℕ)
    → text_of p rows
    ≡ ended rows_bytes comma ++ (ended (digits_of (row_count p rows)) line_end ++ (partitions_text p rows ++ []))
unfolding text_of count_line
text-pieces p rows =
    append_assoc (ended rows_bytes comma) (ended (digits_of (row_count p rows)) line_end) (partitions_text p rows)
    ∙ rw append-nil
