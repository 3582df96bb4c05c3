-- The pieces of a report's text, each as the next piece and what is left after it: the fields of a row's line, the rows
-- of a lane, the lanes; letters.
-- Assumes nothing.
use mathlib.Core.List.{List, [], ◌++◌, append-nil}
use mathlib.Core.Path.{◌≡◌, sym, ap}
use Prim.Native.Nat.{ℕ, ◌+◌, ◌-◌, ◌≤◌, ◌<◌}
use native.Mathlib.Numerals.{add-one}
use native.Mathlib.Omega.{arith}
use lib.ListN.{length, get_or, take, drop, replicate, length-append, drop_of_length-le}
use lib.Seq.{take_at, drop-cons}
use Rattle.lists.specs.Members.{gather, up_from}
use Rattle.lists.proofs.Below.{up_next, up-end}
use Rattle.label.specs.Label.{label_length, letters_of, LettersWritten}
use Rattle.label.specs.declared.Letters.{Letters}
use Rattle.interval.specs.declared.tuple.Row.{Row}
use Rattle.lines.specs.Fields.{comma, line_end, digits_of}
use Rattle.text_buffer.specs.Buffer.{ended}
use Rattle.report.specs.Text.{row_line}

-- ---- the pieces of a row's line, of a lane, of all lanes

-- what stands after each field of a row's line
abbrev pub after_first : Row → List ℕ
after_first r = ended (digits_of r.valid.last.0) line_end ++ []

abbrev pub after_inner : Row → List ℕ
after_inner r = ended (digits_of r.valid.first.0) comma ++ after_first r

abbrev pub after_outer : Row → List ℕ
after_outer r = ended (digits_of r.inner) comma ++ after_inner r

abbrev pub after_label : Row → List ℕ
after_label r = ended (digits_of r.outer) comma ++ after_outer r

abbrev pub after_partition : Row → List ℕ
after_partition r = ended (letters_of r.label) comma ++ after_label r

pub row-fields : (partition : ℕ) (r : Row) → row_line partition r ≡ ended (digits_of partition) comma ++ after_partition r
unfolding row_line
row-fields partition r = rw (append-nil (ended (digits_of r.valid.last.0) line_end))

-- the pieces made of each member from place k on
module _ {A : Type 0} (f : A → List ℕ) (xs : List A) where
  pub gather-next : (k : ℕ) (x : A) → k < length xs → get_or xs k x ≡ x
      → gather f (drop k xs) ≡ f x ++ gather f (drop (k + 1) xs)
  gather-next k x h e = rw (add-one, drop-cons xs k x h, e)

  pub gather-end : (k : ℕ) → length xs ≤ k → gather f (drop k xs) ≡ []
  gather-end k h = rw (drop_of_length-le xs h)

-- those of the numbers from i on below n
module _ (f : ℕ → List ℕ) (n : ℕ) where
  pub partitions-next : (i : ℕ) → i < n → gather f (up_from i (n - i)) ≡ f i ++ gather f (up_from (i + 1) (n - (i + 1)))
  partitions-next i h = ap (gather f) (up_next i n h)

  pub partitions-none : (i : ℕ) → n ≤ i → gather f (up_from i (n - i)) ≡ []
  partitions-none i h = ap (gather f) (up-end i n h)

-- ---- a label's letters: the first bytes of those that were written

module _ (n : ℕ) (r : Letters) (w : LettersWritten n r) where
  pub letters-part : take r.count r.bytes ≡ letters_of n
  letters-part = rw w.bytes (take_at (letters_of n) _ r.count (sym w.count))

  pub letters-count : r.count ≤ length r.bytes
  letters-count =
      omega (
        arith,
        w.count,
        ap length w.bytes,
        length-append (letters_of n) (replicate (label_length - length (letters_of n)) 0),
      )
