-- Records moved within a part, over the width w of a record: `copied` and `swapped` (specs/Part of the crate `part`).
-- In order: words written over record k; two records swapped; a place of one record is none of those of another that
-- are written so far; `Swapping`, the invariant of `swap`; words copied within the part; the stores of a removal.
-- Assumes nothing.
use mathlib.Core.Bool.{Bool, true, false}
use mathlib.Core.List.{List, append_assoc}
use mathlib.Core.Path.{◌≡◌, refl, sym, ap, ◌∙◌}
use Prim.Native.Nat.{ℕ, ◌+◌, ◌-◌, ◌≤◌, ◌<◌}
use native.Mathlib.Nat.{add-sub_cancel_left}
use native.Mathlib.Omega.{arith}
use lib.Dec.{ltb}
use lib.ListN.{length, get_or, take, drop, set, replicate, length-set, length-replicate}
use lib.Seq.{sets, length-sets, drop-drop, drop-set-lt}
use borrow.Author.Tests.{ltb-true, ltb-false}
use borrow.Rule.Slice.PartMut.{put_mid}
use Rattle.std.specs.List.{copy_within}
use Rattle.lists.specs.Words.{part_at}
use Rattle.lists.proofs.Parts.{Apart, length_part, part-put, part-put-before, part-put-after, get_or-put-before}
use Rattle.lists.proofs.Parts.{drop-sets, get_or-sets-apart, set-sets-apart, sets-part-more}
use Rattle.part.specs.Part.{room_of, counted, copied, swapped, removed}
use Rattle.part.proofs.Parts.{stores, room-le, room_next, room_within, room-last}

-- ---- words written over record k

module _ (w k : ℕ) (part r : List ℕ) (e : length r ≡ w) (fits : room_of w (k + 1) ≤ length part) where
  abbrev over : List ℕ
  over = sets part (room_of w k) r

  inside : room_of w k + w ≤ length part
  inside = omega (arith, room_next w k)

  over-put : over ≡ put_mid (room_of w k) w part r
  over-put = stores (room_of w k) w part r e inside

  over-count : counted over ≡ counted part
  unfolding counted
  over-count =
      ap (λ (ws : List ℕ). get_or ws 0 0) over-put ∙ get_or-put-before (room_of w k) w 0 part r 0 (omega arith) (omega arith)

  over-here : part_at (room_of w k) w over ≡ r
  over-here = ap (part_at (room_of w k) w) over-put ∙ part-put (room_of w k) w part r inside e

  over-other : (j : ℕ) → (j ≡ k → ⊥) → part_at (room_of w j) w over ≡ part_at (room_of w j) w part
  over-other j other = ap (part_at (room_of w j) w) over-put ∙ go (ltb j k) refl
    where
      go : (t : Bool) → ltb j k ≡ t → part_at (room_of w j) w (put_mid (room_of w k) w part r) ≡ part_at (room_of w j) w part
      go true t =
          part-put-before (room_of w k) w (room_of w j) w part r (room_within w j k (ltb-true j k t)) (omega arith)
      go false t =
          part-put-after (room_of w k) w (room_of w j) w part r inside e
          (room_within w k j (omega (arith, ltb-false j k t, other)))

  over-tail : (m : ℕ) → room_of w (k + 1) ≤ m → drop m over ≡ drop m part
  over-tail m h = drop-sets m part (room_of w k) r (omega (arith, room_next w k))

-- ---- records i and k swapped

module _ (w i k : ℕ) (part : List ℕ) (low : room_of w (i + 1) ≤ length part)
    (high : room_of w (k + 1) ≤ length part) where
  -- record i's words, and record k's
  abbrev first : List ℕ
  first = part_at (room_of w i) w part

  abbrev second : List ℕ
  second = part_at (room_of w k) w part

  first-long : length first ≡ w
  first-long = length_part (room_of w i) w part (omega (arith, room_next w i))

  second-long : length second ≡ w
  second-long = length_part (room_of w k) w part (omega (arith, room_next w k))

  -- after the first of the two writes
  abbrev half : List ℕ
  half = over w i part second second-long low

  half_length : length half ≡ length part
  half_length = length-sets part (room_of w i) second

  half-fits : room_of w (k + 1) ≤ length half
  half-fits = rw half_length high

  swapped-is : swapped w i k part ≡ over w k half first first-long half-fits
  unfolding swapped copied
  swapped-is = refl

  pub swapped-length : length (swapped w i k part) ≡ length part
  unfolding swapped copied
  swapped-length = simp length-sets

  pub swapped-count : counted (swapped w i k part) ≡ counted part
  swapped-count =
      ap counted swapped-is ∙ over-count w k half first first-long half-fits
      ∙ over-count w i part second second-long low

  pub swapped-second : part_at (room_of w k) w (swapped w i k part) ≡ part_at (room_of w i) w part
  swapped-second = ap (part_at (room_of w k) w) swapped-is ∙ over-here w k half first first-long half-fits

  pub swapped-first : (i ≡ k → ⊥) → part_at (room_of w i) w (swapped w i k part) ≡ part_at (room_of w k) w part
  swapped-first apart =
      ap (part_at (room_of w i) w) swapped-is ∙ over-other w k half first first-long half-fits i apart
      ∙ over-here w i part second second-long low

  pub swapped_other : (j : ℕ) → (j ≡ i → ⊥) → (j ≡ k → ⊥)
      → part_at (room_of w j) w (swapped w i k part) ≡ part_at (room_of w j) w part
  swapped_other j m n =
      ap (part_at (room_of w j) w) swapped-is ∙ over-other w k half first first-long half-fits j n
      ∙ over-other w i part second second-long low j m

  pub swapped-tail : (m : ℕ) → room_of w (i + 1) ≤ m → room_of w (k + 1) ≤ m
      → drop m (swapped w i k part) ≡ drop m part
  swapped-tail m g h =
      ap (drop m) swapped-is ∙ over-tail w k half first first-long half-fits m h
      ∙ over-tail w i part second second-long low m g

-- ---- moving word by word: j words of the record are moved

-- a word of record i after its first j is none of the first j of record k
beside : (w i k j : ℕ) → j < w → Apart (room_of w i + j) (room_of w k) j
beside w i k j h m l b e = go (ltb i k) refl
  where
    go : (t : Bool) → ltb i k ≡ t → ⊥
    go true t = omega (arith, room_within w i k (ltb-true i k t))
    go false t = omega (arith, room-le w k i (ltb-false i k t))

-- the first j words of records i and k, each over the other's
abbrev pub Swapping : ℕ → ℕ → ℕ → List ℕ → ℕ → List ℕ → Type 0
Swapping w i k part j now =
    now ≡ sets (sets part (room_of w i) (part_at (room_of w k) j part)) (room_of w k) (part_at (room_of w i) j part)

module _ (w i k : ℕ) (part : List ℕ) where
  pub swapping-all : (j : ℕ) (now : List ℕ) → w ≤ j → j ≤ w → Swapping w i k part j now → now ≡ swapped w i k part
  unfolding swapped copied
  swapping-all j now g h s =
      let end : j ≡ w = omega arith in
      rw end at s

  pub swapping-more : (j : ℕ) (now : List ℕ) → room_of w (i + 1) ≤ length part → room_of w (k + 1) ≤ length part → j < w
      → Swapping w i k part j now
      → Swapping w i k part (j + 1)
      (set (set now (room_of w i + j) (get_or now (room_of w k + j) 0)) (room_of w k + j) (get_or now (room_of w i + j) 0))
  swapping-more j now low high h s = rw (s, unread k, unread i) stored
    where
      at_i : ℕ
      at_i = room_of w i

      at-k : ℕ
      at-k = room_of w k

      -- the words moved so far, and what those of record k leave over record i
      of-i : List ℕ
      of-i = part_at at_i j part

      of-k : List ℕ
      of-k = part_at at-k j part

      half : List ℕ
      half = sets part at_i of-k

      long-i : length of-i ≡ j
      long-i = length_part at_i j part (omega (arith, room_next w i))

      long-k : length of-k ≡ j
      long-k = length_part at-k j part (omega (arith, room_next w k))

      -- the next word of record n, which is i or k, is still as it was
      unread : (n : ℕ) → get_or (sets half at-k of-i) (room_of w n + j) 0 ≡ get_or part (room_of w n + j) 0
      unread n =
          get_or-sets-apart half at-k (room_of w n + j) of-i 0 (rw long-i (beside w n k j h))
          ∙ get_or-sets-apart part at_i (room_of w n + j) of-k 0 (rw long-k (beside w n i j h))

      word-i : ℕ
      word-i = get_or part (at_i + j) 0

      word-k : ℕ
      word-k = get_or part (at-k + j) 0

      more : List ℕ
      more = sets part at_i (part_at at-k (j + 1) part)

      stored : set (set (sets half at-k of-i) (at_i + j) word-k) (at-k + j) word-i
          ≡ sets more at-k (part_at at_i (j + 1) part)
      stored =
          ap (λ (ws : List ℕ). set ws (at-k + j) word-i)
          (set-sets-apart half at-k (at_i + j) of-i word-k (rw long-i (beside w i k j h))
          ∙ ap (λ (ws : List ℕ). sets ws at-k of-i)
          (sets-part-more part at_i part at-k j 0 (omega (arith, room_next w k))))
          ∙ sets-part-more more at-k part at_i j 0 (omega (arith, room_next w i))

-- ---- n words copied within the part, as a run of stores

pub within-stores : (from n at : ℕ) (ws : List ℕ) → from + n ≤ length ws → at + n ≤ length ws
    → copy_within ws from (from + n) at ≡ sets ws at (part_at from n ws)
within-stores from n at ws source target =
    rw (add-sub_cancel_left from n)
    (append_assoc (take at ws) (part_at from n ws) (drop (at + n) ws)
    ∙ rw (← drop-drop n at ws) (sym (stores at n ws (part_at from n ws) (length_part from n ws source) target)))

-- ---- the stores of a removal: the last record over record k, then its own words, lent, cleared

pub removed-by : (w k : ℕ) (part once zeroed : List ℕ) → k < counted part → room_of w (counted part) ≤ length part
    → once ≡ copied w (counted part - 1) k (set part 0 (counted part - 1))
    → (let at = room_of w (counted part - 1) in
    zeroed ≡ replicate (length (part_at at (at + w - at) once)) 0
    → put_mid at (at + w - at) once zeroed ≡ removed w k part)
unfolding copied removed
removed-by w k part once zeroed h fits c z =
    rw (z, add-sub_cancel_left at w, length_part at w once inside)
    (sym (stores at w once (replicate w 0) (length-replicate w 0) inside)
    ∙ ap (λ (ws : List ℕ). sets ws at (replicate w 0))
    (c ∙ ap (λ (ws : List ℕ). sets (set part 0 n) (room_of w k) (take w ws)) (drop-set-lt at part 0 n (omega arith))))
  where
    n : ℕ
    n = counted part - 1

    at : ℕ
    at = room_of w (counted part - 1)

    long : length once ≡ length part
    long = ap length c ∙ simp (length-sets, length-set)

    inside : at + w ≤ length once
    inside = omega (arith, long, room-last w (counted part) (omega arith))

-- the same, of the words that `copy_within` leaves
pub removed-within : (w k : ℕ) (part once zeroed : List ℕ) → k < counted part
    → room_of w (counted part) ≤ length part
    → (let at = room_of w (counted part - 1) in
    once ≡ copy_within (set part 0 (counted part - 1)) at (at + w) (room_of w k)
    → zeroed ≡ replicate (length (part_at at (at + w - at) once)) 0
    → put_mid at (at + w - at) once zeroed ≡ removed w k part)
unfolding copied
removed-within w k part once zeroed h fits c =
    removed-by w k part once zeroed h fits (c ∙ within-stores at w (room_of w k) (set part 0 n) last over)
  where
    n : ℕ
    n = counted part - 1

    at : ℕ
    at = room_of w (counted part - 1)

    last : at + w ≤ length (set part 0 n)
    last = omega (arith, length-set part 0 n, room-last w (counted part) (omega arith))

    over : room_of w k + w ≤ length (set part 0 n)
    over = omega (arith, length-set part 0 n, room_within w k (counted part) h)
