-- Laws of a cursor over the rows store (specs/Cursor).
-- In order: the members kept of a list from a place on; the rows of the partitions from one on: the first partition's,
-- none, how many; `Looked`, the loop of `seek`, and where it ends; the partitions of a store that can be scanned; what
-- is left from a row on; `Reaching`, the loop of `reach`, and where it ends; one row further.
-- Assumes nothing.
use mathlib.Core.Bool.{Bool, true, false}
use mathlib.Core.List.{List, [], ◌∷◌, ◌++◌}
use mathlib.Core.Path.{◌≡◌, refl, sym, ap, ◌∙◌}
use Rattle.std.specs.Prelude.{Option, Some, None}
use Prim.Native.Nat.{ℕ, suc, ◌+◌, ◌-◌, ◌*◌, ◌≤◌, ◌<◌}
use native.Mathlib.Numerals.{add-one}
use native.Mathlib.Omega.{arith}
use lib.ListN.{length, get_or, drop, drop_of_length-le}
use lib.Seq.{drop-cons, drop-nil, drop-append-le}
use Rattle.lists.specs.Members.{keep, total, up_from}
use Rattle.lists.proofs.Members.{keep_append}
use Rattle.lists.proofs.Tally.{total-cong}
use Rattle.lists.proofs.Gather.{length-gather}
use Rattle.interval.specs.Tuple.{tuple_width, row_width}
use Rattle.interval.specs.declared.time.Interval.{Interval}
use Rattle.interval.specs.declared.tuple.Row.{Row}
use Rattle.plan.specs.declared.PartitionIndex.{PartitionIndex}
use Rattle.part.specs.Part.{room_of, counted, rows_in, row_at}
use Rattle.part.proofs.Parts.{length-rows, row_in}
use Rattle.store.specs.Store.{partition_at}
use Rattle.rows.specs.Partners.{Roomy}
use Rattle.rows.proofs.Counting.{roomy-inside, roomy-fits}
use Rattle.cursor.specs.Cursor.{touching, rows_from, scanned_from, Scannable, left}
use Rattle.cursor.specs.Cursor.{Stands, Found, Reached, Advanced}
use Rattle.cursor.specs.declared.Scan.{Scan}
use Rattle.cursor.specs.declared.Cursor.{Cursor}

-- ---- the members kept, of a list from place k on: the next one passes, it fails, none is left

module _ {A : Type 0} (p : A → Bool) (xs : List A) (k : ℕ) where
  keep-first : (x : A) → k < length xs → get_or xs k x ≡ x → p x ≡ true
      → keep p (drop k xs) ≡ x ∷ keep p (drop (k + 1) xs)
  keep-first x h at e = rw (add-one k, drop-cons xs k x, at, e)

  keep-next : (x : A) → k < length xs → get_or xs k x ≡ x → p x ≡ false → keep p (drop k xs) ≡ keep p (drop (k + 1) xs)
  keep-next x h at e = rw (add-one k, drop-cons xs k x, at, e)

  keep-end : length xs ≤ k → keep p (drop k xs) ≡ []
  keep-end h = rw (drop_of_length-le xs h)

-- ---- the rows of the m partitions from i on

module _ (room : ℕ) (ws : List ℕ) where
  -- those of the first partition, then those of the others
  pub rows-from-next : (i m : ℕ) → rows_from room ws i (suc m)
      ≡ rows_in (partition_at room ws i) ++ rows_from room ws (i + 1) m
  unfolding rows_from
  rows-from-next i m = rw add-one

  -- of no partition
  pub rows-from-none : (i : ℕ) → rows_from room ws i 0 ≡ []
  unfolding rows_from
  rows-from-none i = refl

  -- they are as many as the partitions count
  pub scanned-length : (i m : ℕ) → total (λ j. counted (partition_at room ws j)) (up_from i m)
      ≡ length (rows_from room ws i m)
  unfolding rows_from
  scanned-length i m =
      sym (length-gather (λ j. rows_in (partition_at room ws j)) (up_from i m)
      ∙ total-cong _ _ (up_from i m) (λ j. length-rows (partition_at room ws j)))

-- ---- the loop of `seek`, which started at row k of a partition: at row `place` as much is kept

pub record Looked (window : Interval) (part : List ℕ) (k place : ℕ) : Type 0 where
  pub within : place ≤ counted part
  pub rest : keep (touching window) (drop place (rows_in part)) ≡ keep (touching window) (drop k (rows_in part))

module _ (window : Interval) (part : List ℕ) (k : ℕ) where
  pub looked-none : k ≤ counted part → Looked window part k k
  looked-none h = record { within = h; rest = refl }

  -- the row there does not touch the window, so it is passed
  pub looked-more : (place : ℕ) (r : Row) → place < counted part → r ≡ row_at part place → touching window r ≡ false
      → Looked window part k place → Looked window part k (place + 1)
  looked-more place r h at e q = record {
    within = omega arith;
    rest = sym (keep-next (touching window) (rows_in part) place r (rw (length-rows part) h)
        (row_in place part r h ∙ sym at) e)
        ∙ q.rest;
  }

  -- it does, so it is the one
  pub looked-here : (place : ℕ) (r : Row) → place < counted part → r ≡ row_at part place → touching window r ≡ true
      → Looked window part k place → (i : PartitionIndex)
      → Found window part i.0 k (record { partition = i; place = place; row = r })
  looked-here place r h at e q i =
      record { partition = refl; place = h; row = at; touched = e; rest = q.rest }

  -- no row is left
  pub looked-all : (place : ℕ) → counted part ≤ place → Looked window part k place
      → keep (touching window) (drop k (rows_in part)) ≡ []
  looked-all place h q =
      sym q.rest ∙ keep-end (touching window) (rows_in part) place (rw (length-rows part) h)

-- ---- the partitions of a store that can be scanned

module _ (s : Scan) (ws : List ℕ) (scannable : Scannable s ws) where
  -- they have room for as many tuples as they count
  pub roomy-tuples : Roomy tuple_width s.room s.count ws
  roomy-tuples = record {
    long = scannable.roomy.long;
    within = λ j h. omega (arith, scannable.roomy.within j h);
  }

  -- partition j lies in the store
  pub scan-inside : (j : ℕ) → j < s.count → j * s.room + s.room ≤ length ws
  scan-inside = roomy-inside row_width s.room s.count ws scannable.roomy

  -- and has room for its rows
  pub scan-fits : (j : ℕ) → j < s.count → (part : List ℕ) → part ≡ partition_at s.room ws j
      → room_of row_width (counted part) ≤ length part
  scan-fits = roomy-fits row_width s.room s.count ws scannable.roomy

-- ---- what is left to be handed out, from row k of partition j on

module _ (s : Scan) (ws : List ℕ) where
  abbrev part : ℕ → List ℕ
  part j = partition_at s.room ws j

  abbrev kept : ℕ → ℕ → List Row
  kept j k = keep (touching s.window) (drop k (scanned_from s ws j))

  -- the rows from partition j on: those of partition j, then those from the next one on; past the last, none
  pub scanned-next : (j : ℕ) → j < s.count → scanned_from s ws j ≡ rows_in (part j) ++ scanned_from s ws (j + 1)
  scanned-next j h =
      let e : s.count - j ≡ suc (s.count - (j + 1)) = omega arith in
      ap (rows_from s.room ws j) e ∙ rows-from-next s.room ws j (s.count - (j + 1))

  pub scanned-none : (j : ℕ) → s.count ≤ j → scanned_from s ws j ≡ []
  scanned-none j h =
      let e : s.count - j ≡ 0 = omega arith in
      ap (rows_from s.room ws j) e ∙ rows-from-none s.room ws j

  -- of them those that touch the window, from row k on
  kept_next : (j k : ℕ) → j < s.count → k ≤ counted (part j)
      → kept j k ≡ keep (touching s.window) (drop k (rows_in (part j))) ++ kept (j + 1) 0
  kept_next j k h l =
      ap (λ (rs : List Row). keep (touching s.window) (drop k rs)) (scanned-next j h)
      ∙ ap (keep (touching s.window))
      (drop-append-le k (rows_in (part j)) (scanned_from s ws (j + 1)) (rw (length-rows (part j)) l))
      ∙ keep_append (touching s.window) (drop k (rows_in (part j))) (scanned_from s ws (j + 1))

  kept-none : (j k : ℕ) → s.count ≤ j → kept j k ≡ []
  kept-none j k h =
      ap (λ (rs : List Row). keep (touching s.window) (drop k rs)) (scanned-none j h)
      ∙ ap (keep (touching s.window)) (drop-nil k)

  -- where row k is the first from there on: it, and those after it
  kept-first : (j k : ℕ) → j < s.count → k < counted (part j) → touching s.window (row_at (part j) k) ≡ true
      → kept j k ≡ row_at (part j) k ∷ kept j (k + 1)
  kept-first j k h l e =
      kept_next j k h (omega arith)
      ∙ ap (λ (rs : List Row). rs ++ kept (j + 1) 0)
      (keep-first (touching s.window) (rows_in (part j)) k (row_at (part j) k) (rw (length-rows (part j)) l)
      (row_in k (part j) (row_at (part j) k) l) e)
      ∙ ap (λ (rs : List Row). row_at (part j) k ∷ rs) (sym (kept_next j (k + 1) h (omega arith)))

-- ---- the loop of `reach`, which started at row k of partition i: at row `place` of partition j as much is left

pub record Reaching (s : Scan) (ws : List ℕ) (i k j place : ℕ) : Type 0 where
  pub within : j ≤ s.count
  pub here : place ≤ counted (partition_at s.room ws j)
  pub rest : kept s ws j place ≡ kept s ws i k

module _ (s : Scan) (ws : List ℕ) (i k : ℕ) where
  pub reaching-none : i ≤ s.count → k ≤ counted (partition_at s.room ws i) → Reaching s ws i k i k
  reaching-none h l = record { within = h; here = l; rest = refl }

  -- a turn of the loop, in a partition that is partition j: the row that `seek` found there is the one, or there is
  -- none in this partition, and the next one's first row is next
  module _ (j place : ℕ) (h : j < s.count) (q : Reaching s ws i k j place) (part : List ℕ)
      (e : part ≡ partition_at s.room ws j) where
    abbrev here : List ℕ
    here = partition_at s.room ws j

    pub turn-ends : (c : Cursor) → Found s.window part j place c → Reached s ws i k (Some c)
    turn-ends c f =
        let found : Found s.window here j place c = rw (← e) f in
        record {
          stands = record {
            partition = rw found.partition h;
            place = rw found.partition found.place;
            row = rw found.partition found.row;
            touched = found.touched;
          };
          rest = rw found.partition
              (kept_next s ws j c.place h (omega (arith, found.place))
              ∙ ap (λ (rs : List Row). rs ++ kept s ws (j + 1) 0) found.rest
              ∙ sym (kept_next s ws j place h q.here) ∙ q.rest);
        }

    pub turn-goes-on : keep (touching s.window) (drop place (rows_in part)) ≡ [] → Reaching s ws i k (j + 1) 0
    turn-goes-on n =
        let none : keep (touching s.window) (drop place (rows_in here)) ≡ [] = rw (← e) n in
        record {
          within = omega arith;
          here = omega arith;
          rest = sym (kept_next s ws j place h q.here ∙ ap (λ (rs : List Row). rs ++ kept s ws (j + 1) 0) none)
              ∙ q.rest;
        }

  -- past the last partition there is no row
  pub reached-end : (j place : ℕ) → s.count ≤ j → Reaching s ws i k j place → Reached s ws i k None
  reached-end j place h q = record { stands = tt; rest = sym (kept-none s ws j place h) ∙ q.rest }

-- ---- the row at a cursor is the first of those that are left, and the others are left at the next

pub left-first : (s : Scan) (ws : List ℕ) (c : Cursor) → Stands s ws c
    → left s ws (Some c) ≡ c.row ∷ kept s ws c.partition.0 (c.place + 1)
left-first s ws c q =
    kept-first s ws c.partition.0 c.place q.partition q.place (rw (← q.row) q.touched)
    ∙ ap (λ (r : Row). r ∷ kept s ws c.partition.0 (c.place + 1)) (sym q.row)

pub advanced : (s : Scan) (ws : List ℕ) (c : Cursor) (at : Option Cursor) → Stands s ws c
    → Reached s ws c.partition.0 (c.place + 1) at → Advanced s ws c at
advanced s ws c at q r = record {
  stands = r.stands;
  rest = left-first s ws c q ∙ ap (λ (rs : List Row). c.row ∷ rs) (sym r.rest);
}
