-- The loops and tests of check 5: a test of every record; soundness by its parts; that two comparisons say what
-- partition a chronon belongs to; a record as it is read; the partitions, one after the other.
-- Assumes nothing.
use mathlib.Core.Bool.{Bool, true, false, ◌&&◌}
use mathlib.Core.List.{List, []}
use mathlib.Core.Path.{◌≡◌, refl, sym, ◌∙◌, ap, ap₂}
use Prim.Native.Nat.{ℕ, ◌+◌, ◌-◌, ◌*◌, ◌≤◌, ◌<◌}
use native.Mathlib.Nat.{zero-mul, mul-le-mul, le_refl}
use native.Mathlib.Omega.{arith}
use lib.ListN.{length, get_or, drop}
use lib.Dec.{leb, eqb}
use borrow.Author.Tests.{le-leb, lt-leb}
use Rattle.lists.specs.Members.{all, below, up_from}
use Rattle.lists.specs.Words.{part_at, zeros, records_of, record_at}
use Rattle.lists.proofs.Parts.{start-next, start-within}
use Rattle.lists.proofs.Members.{all-cong, all_end, all-next, all-stop}
use Rattle.lists.proofs.Records.{length-records, record-at}
use Rattle.interval.specs.Tuple.{tuple_width, tuple_of, to, legal_tuple, row_width, row_of, row_to, legal_row}
use Rattle.interval.specs.declared.tuple.Tuple.{Tuple}
use Rattle.interval.specs.declared.tuple.Row.{Row}
use Rattle.plan.specs.Plan.{cuts_of, home, start_of}
use Rattle.plan.specs.declared.Partitioning.{Partitioning}
use Rattle.plan.proofs.Homes.{LegalPlan, home-test, start-next as cut-after}
use Rattle.part.specs.Part.{room_of, counted, records_in, tuple_at, row_at, sound_part}
use Rattle.store.specs.Store.{tuple_at_home}
use Rattle.store.proofs.StoreLoops.{Turn, below-start, lent, lent_is}
use Rattle.soundness.specs.Between.{legal_between, record_between, record_at_home}
use Rattle.soundness.specs.declared.Records.{Records}
use Rattle.soundness.specs.declared.Records.TheVariants.{Tuples, Rows}

-- ---- a test of every record: those from k on decide

module _ (ok : List ℕ → Bool) (w n : ℕ) (ws : List ℕ) where
  pub records-turn : (k : ℕ) (answer : Bool) → k < n → answer ≡ ok (record_at w k ws)
      → all ok (records_of w n ws) ≡ all ok (drop k (records_of w n ws))
      → Turn answer (all ok (records_of w n ws)) (all ok (drop (k + 1) (records_of w n ws)))
  records-turn k answer h e inv =
      let here : ok (get_or (records_of w n ws) k []) ≡ answer = ap ok (record-at w n k ws [] h) ∙ sym e in
      let within : k < length (records_of w n ws) = omega (arith, length-records w n ws) in
      record {
        fails = λ f. sym (inv ∙ all-stop ok (records_of w n ws) k [] within (here ∙ f));
        goes = λ t. inv ∙ all-next ok (records_of w n ws) k [] within (here ∙ t);
      }

  pub records-end : (k : ℕ) → n ≤ k → all ok (records_of w n ws) ≡ all ok (drop k (records_of w n ws))
      → true ≡ all ok (records_of w n ws)
  records-end k h inv = sym (inv ∙ all_end ok (records_of w n ws) k (omega (arith, length-records w n ws)))

-- ---- soundness by its parts

module _ (w capacity : ℕ) (ok : List ℕ → Bool) (part : List ℕ) where
  pub sound-over : capacity < counted part → false ≡ sound_part w capacity ok part
  unfolding sound_part
  sound-over h = rw (lt-leb (counted part) capacity h)

  pub sound-bad : counted part ≤ capacity → all ok (records_in w part) ≡ false → false ≡ sound_part w capacity ok part
  unfolding sound_part
  sound-bad h e = rw (le-leb (counted part) capacity h, e)

  pub sound-by-tail : counted part ≤ capacity → all ok (records_in w part) ≡ true
      → zeros (drop (room_of w (counted part)) part) ≡ sound_part w capacity ok part
  unfolding sound_part
  sound-by-tail h e = rw (le-leb (counted part) capacity h, e)

-- the same test of each record, the same soundness
pub sound-cong : (w capacity : ℕ) (ok ok' : List ℕ → Bool) (part : List ℕ) → ((ws : List ℕ) → ok ws ≡ ok' ws)
    → sound_part w capacity ok part ≡ sound_part w capacity ok' part
unfolding sound_part
sound-cong w capacity ok ok' part h = rw (all-cong ok ok' (records_in w part) h)

-- ---- two comparisons stand for the home

module _ (p : Partitioning) (i first last : ℕ) (legal : LegalPlan p) (within : i < length (cuts_of p))
    (starts : first ≡ start_of (cuts_of p) i) (ends : last ≡ get_or (cuts_of p) i 0) where
  home-between : (m : ℕ) → (leb first m && leb m last) ≡ eqb (home p m) i
  unfolding home
  home-between m = rw (starts, ends) (sym (home-test (cuts_of p) legal.covered i m within))

  pub between-home : (kind : Records) (ws : List ℕ) → record_between kind first last ws ≡ record_at_home kind p i ws
  unfolding record_between legal_between tuple_at_home
  between-home Tuples ws = ap (λ (b : Bool). legal_tuple (tuple_of ws) && b) (home-between (to (tuple_of ws)))
  between-home (Rows minimum) ws = ap (λ (b : Bool). legal_row minimum (row_of ws) && b) (home-between (row_to (row_of ws)))

-- ---- a record's words as it is read

module _ (first last k : ℕ) (legal : Bool) (part : List ℕ) where
  pub tuple-read : (t : Tuple) → t ≡ tuple_at part k → legal ≡ legal_tuple t
      → legal_between legal (to t) first last ≡ record_between Tuples first last (record_at tuple_width k (drop 1 part))
  unfolding tuple_at record_between
  tuple-read t e d = rw (d, e)

  pub row_read : (minimum : ℕ) (r : Row) → r ≡ row_at part k → legal ≡ legal_row minimum r
      → legal_between legal (row_to r) first last
      ≡ record_between (Rows minimum) first last (record_at row_width k (drop 1 part))
  unfolding row_at record_between
  row_read minimum r e d = rw (d, e)

-- ---- fewer records take no more room

pub room-order : (w m n : ℕ) → m ≤ n → room_of w m ≤ room_of w n
room-order w m n h = omega (arith, mul-le-mul (le_refl w) h)

-- ---- going through the partitions: i of them are sound, the next starts at word `at` and at chronon `first`

pub record Checked (f : ℕ → Bool) (cs : List ℕ) (room n first at i : ℕ) : Type 0 where
  pub within : i ≤ n
  pub placed : at ≡ i * room
  pub starts : first ≡ start_of cs i
  pub rest : all f (below n) ≡ all f (up_from i (n - i))

module _ (f : ℕ → Bool) (cs : List ℕ) (room n : ℕ) where
  pub checked-start : Checked f cs room n 0 0 0
  unfolding start_of
  checked-start = record { within = omega arith; placed = sym (zero-mul room); starts = refl; rest = below-start f n }

  -- the next partition lies in the store
  pub checked-room : (first at i : ℕ) → i < n → Checked f cs room n first at i → at + room ≤ n * room
  checked-room first at i h c = omega (arith, start-within i n room h, c.placed)

  pub checked-next : (first at i last : ℕ) → i < n → last ≡ get_or cs i 0
      → all f (below n) ≡ all f (up_from (i + 1) (n - (i + 1))) → Checked f cs room n first at i
      → Checked f cs room n (last + 1) (at + room) (i + 1)
  checked-next first at i last h e r c = record {
    within = omega arith;
    placed = omega (arith, c.placed, start-next i room);
    starts = ap (λ (m : ℕ). m + 1) e ∙ sym (cut-after cs i);
    rest = r;
  }

-- what the lent partition's soundness says of partition i
pub part-answer : (w capacity : ℕ) (ok ok' : List ℕ → Bool) (ws : List ℕ) (answer : Bool) (at room size i : ℕ)
    → answer ≡ sound_part w capacity ok (lent at room ws) → ((r : List ℕ) → ok r ≡ ok' r) → at ≡ i * size → room ≡ size
    → answer ≡ sound_part w capacity ok' (part_at (i * size) size ws)
part-answer w capacity ok ok' ws answer at room size i e h p q =
    e
    ∙ sound-cong w capacity ok ok' (lent at room ws) h
    ∙ ap (sound_part w capacity ok') (lent_is at room ws)
    ∙ ap₂ (λ (a k : ℕ). sound_part w capacity ok' (part_at a k ws)) p q
