-- Laws of one partition as words (specs/Part), over the width w of a record.
-- In order: runs of stores and the room of records; the part after an append and after a removal, as its count word and
-- the words after it; lengths and counts; each record, no records, the records after an append and after a removal; the
-- same of the values that the words make, stated once, over their `Kind`, and then of tuples and of rows; what a sound
-- part is, and that it stays sound; an empty part; the place that a removal frees. Records moved within a part are in
-- the crate `records`.
-- Assumes nothing.
use mathlib.Core.Bool.{Bool, true}
use mathlib.Core.List.{List, [], ◌∷◌, ◌++◌, map, map-append}
use mathlib.Core.Path.{◌≡◌, refl, sym, ap, ◌∙◌}
use Prim.Native.Nat.{ℕ, zero, suc, ◌+◌, ◌-◌, ◌*◌, ◌≤◌, ◌<◌}
use native.Mathlib.Nat.{mul_comm, mul-zero, mul-le-mul, le_refl}
use native.Mathlib.Numerals.{one-add}
use native.Mathlib.Omega.{arith}
use lib.ListN.{length, get_or, take, drop, set, replicate, length-set, length-map, length-replicate, take-append-drop}
use lib.ListN.{get_or-map}
use lib.Seq.{sets, length-sets, drop-set-lt, drop_at, drop-drop, length-take-le}
use lib.Dec.{leb, eqb}
use borrow.Author.Tests.{leb-true, le-leb, eq-eqb}
use borrow.Rule.Slice.PartMut.{put_mid}
use Rattle.lists.specs.Members.{all}
use Rattle.lists.specs.Same.{Same}
use Rattle.lists.specs.Words.{part_at, zeros, records_of, record_at}
use Rattle.lists.proofs.Choice.{and_left, and_right, and_both}
use Rattle.lists.proofs.Members.{all_append, all-get_or}
use Rattle.lists.proofs.Same.{same-overwrite}
use Rattle.lists.proofs.Parts.{start-next, start-le, start-within, length_part, part-drop, length-put, sets-put}
use Rattle.lists.proofs.Parts.{drop-sets}
use Rattle.lists.proofs.Words.{zeros-append, zeros-replicate, zeros-drop, zeros-are}
use Rattle.lists.proofs.Records.{length-records, record-length, record-at, records-take-fewer, records-put}
use Rattle.lists.proofs.Records.{records-past, records-append}
use Rattle.interval.specs.Tuple.{tuple_width, tuple_of, tuple_words, same_tuple, row_width, row_of, row_words, same_row}
use Rattle.interval.specs.declared.tuple.Tuple.{Tuple}
use Rattle.interval.specs.declared.tuple.Row.{Row}
use Rattle.part.specs.Part.{room_of, counted, records_in, tuples_in, rows_in, tuple_at, row_at, sound_part}
use Rattle.part.specs.Part.{appended, removed}
use Rattle.part.specs.Held.{tuples_are, tuple_is, rows_are, row_is}

-- ---- runs of stores, and the room of records

-- a run of stores after the count word
sets-suc : (m : ℕ) (ws : List ℕ) (i : ℕ) (vs : List ℕ) → sets (m ∷ ws) (suc i) vs ≡ m ∷ sets ws i vs
sets-suc m ws i [] = refl
sets-suc m ws i (v ∷ vs) = sets-suc m (set ws i v) (suc i) vs

-- where record k starts among the words after the count word
start_is : (w k : ℕ) → room_of w k ≡ suc (k * w)
start_is w k = one-add (w * k) ∙ ap suc (mul_comm w k)

-- the room of fewer records, of one more, of a record among n, and of the last of n
pub room-le : (w k n : ℕ) → k ≤ n → room_of w k ≤ room_of w n
room-le w k n h = omega (arith, start-le k n w h, mul_comm w k, mul_comm w n)

pub room_next : (w n : ℕ) → room_of w (n + 1) ≡ room_of w n + w
room_next w n = omega (arith, start-next n w, mul_comm w (n + 1), mul_comm w n)

pub room_within : (w k n : ℕ) → k < n → room_of w k + w ≤ room_of w n
room_within w k n h = omega (arith, start-within k n w h, mul_comm w k, mul_comm w n)

pub room-last : (w n : ℕ) → 0 < n → room_of w (n - 1) + w ≡ room_of w n
room-last w n h = sym (room_next w (n - 1)) ∙ ap (room_of w) (omega arith)

-- a count is below the room of its records, where a record has words
pub room-above : (w n : ℕ) → 1 ≤ w → n < room_of w n
room-above w n h = omega (arith, mul-le-mul h (le_refl n))

-- a run of k stores, as a part put back
pub stores : (i k : ℕ) (xs vs : List ℕ) → length vs ≡ k → i + k ≤ length xs → sets xs i vs ≡ put_mid i k xs vs
stores i k xs vs e h = sets-put i xs vs (omega arith) ∙ ap (λ (n : ℕ). put_mid i n xs vs) e

-- ---- a part as its count word and the words after it, after an append and after a removal

module _ (w m : ℕ) (ws : List ℕ) where
  appended-is : (r : List ℕ) → appended w r (m ∷ ws) ≡ (m + 1) ∷ sets ws (m * w) r
  unfolding appended counted
  appended-is r = rw (start_is w m) (sets-suc (m + 1) ws (m * w) r)

  removed-is : (k : ℕ) → removed w k (m ∷ ws)
      ≡ (m - 1) ∷ sets (sets ws (k * w) (record_at w (m - 1) ws)) ((m - 1) * w) (replicate w 0)
  unfolding removed counted
  removed-is k =
      let last = record_at w (m - 1) ws in
      rw (start_is w k, start_is w (m - 1))
      (ap (λ (l : List ℕ). sets l (suc ((m - 1) * w)) (replicate w 0)) (sets-suc (m - 1) ws (k * w) last)
      ∙ sets-suc (m - 1) (sets ws (k * w) last) ((m - 1) * w) (replicate w 0))

-- ---- lengths and counts

module _ (w : ℕ) where
  -- an append keeps the length
  pub length-appended : (r part : List ℕ) → length (appended w r part) ≡ length part
  unfolding appended
  length-appended r part = simp (length-sets, length-set)

  -- a removal keeps the length
  pub length_removed : (k : ℕ) (part : List ℕ) → length (removed w k part) ≡ length part
  unfolding removed
  length_removed k part = simp (length-sets, length-set)

  -- an append takes the count one up
  pub counted-appended : (r part : List ℕ) → 1 ≤ length part → counted (appended w r part) ≡ counted part + 1
  unfolding counted
  counted-appended r [] h = absurd (omega arith)
  counted-appended r (m ∷ ws) h = ap counted (appended-is w m ws r)

  -- a removal takes it one down
  pub counted-removed : (k : ℕ) (part : List ℕ) → 1 ≤ length part → counted (removed w k part) ≡ counted part - 1
  unfolding counted
  counted-removed k [] h = absurd (omega arith)
  counted-removed k (m ∷ ws) h = ap counted (removed-is w m ws k)

  -- ---- records

  -- there are as many records as the count says
  pub length-records-in : (part : List ℕ) → length (records_in w part) ≡ counted part
  unfolding records_in
  length-records-in part = length-records w (counted part) (drop 1 part)

  -- record k of them, whatever d
  pub record-in : (k : ℕ) (part d : List ℕ) → k < counted part
      → get_or (records_in w part) k d ≡ record_at w k (drop 1 part)
  unfolding records_in
  record-in k part d h = record-at w (counted part) k (drop 1 part) d h

  -- a record's words, as a part of the whole
  pub record-part : (k : ℕ) (part : List ℕ) → record_at w k (drop 1 part) ≡ part_at (room_of w k) w part
  record-part k part = part-drop (k * w) w 1 part ∙ rw (mul_comm w k)

  -- a part that counts none has no records
  pub records-none : (part : List ℕ) → counted part ≡ 0 → records_in w part ≡ []
  unfolding records_in
  records-none part e = rw e

  -- an append puts the record after the others
  pub records-appended : (r part : List ℕ) → room_of w (counted part + 1) ≤ length part → length r ≡ w
      → records_in w (appended w r part) ≡ records_in w part ++ (r ∷ [])
  unfolding records_in counted
  records-appended r [] h e = absurd (omega arith)
  records-appended r (m ∷ ws) h e =
      let fits : m * w + w ≤ length ws = omega (arith, mul_comm w (m + 1), start-next m w) in
      ap (records_in w) (appended-is w m ws r) ∙ ap (records_of w (m + 1)) (stores (m * w) w ws r e fits)
      ∙ records-append w m ws r fits e

  -- a removal puts the last record over record k
  pub records-removed : (k : ℕ) (part : List ℕ) → k < counted part → room_of w (counted part) ≤ length part
      → records_in w (removed w k part)
      ≡ take (counted part - 1) (set (records_in w part) k (get_or (records_in w part) (counted part - 1) []))
  unfolding records_in counted
  records-removed k [] h l = absurd (omega arith)
  records-removed k (m ∷ ws) h l =
      ap (records_in w) (removed-is w m ws k)
      ∙ ap (λ (ws' : List ℕ). records_of w (m - 1) (sets ws' ((m - 1) * w) (replicate w 0)))
      (stores (k * w) w ws last e at-k)
      ∙ ap (records_of w (m - 1)) (stores ((m - 1) * w) w put (replicate w 0) (length-replicate w 0) at_last)
      ∙ records-past w (m - 1) ((m - 1) * w) w put (replicate w 0) (omega arith) (omega (arith, at_last))
      ∙ sym (records-take-fewer w m (m - 1) put (omega arith))
      ∙ ap (take (m - 1)) (records-put w m k ws last h (omega (arith, mul_comm w m)) e)
      ∙ rw (record-at w m (m - 1) ws [] (omega arith))
    where
      last : List ℕ
      last = record_at w (m - 1) ws

      fits : (i : ℕ) → i < m → i * w + w ≤ length ws
      fits i b = omega (arith, start-within i m w b, mul_comm w m)

      at-k : k * w + w ≤ length ws
      at-k = fits k h

      e : length last ≡ w
      e = record-length w (m - 1) ws (fits (m - 1) (omega arith))

      put : List ℕ
      put = put_mid (k * w) w ws last

      at_last : (m - 1) * w + w ≤ length put
      at_last = omega (arith, length-put (k * w) w ws last at-k e, fits (m - 1) (omega arith))

-- ---- values made of a record's words: of any kind, then tuples and rows

-- a value made of each member: of the first members, of a member overwritten, of member k
map-take : {A : Type 0} (f : List ℕ → A) (n : ℕ) (rs : List (List ℕ)) → map f (take n rs) ≡ take n (map f rs)
map-take f zero rs = refl
map-take f (suc n) [] = refl
map-take f (suc n) (r ∷ rs) = rw (map-take f n rs)

map-set : {A : Type 0} (f : List ℕ → A) (rs : List (List ℕ)) (k : ℕ) (r : List ℕ)
    → map f (set rs k r) ≡ set (map f rs) k (f r)
map-set f [] k r = refl
map-set f (s ∷ rs) zero r = refl
map-set f (s ∷ rs) (suc k) r = rw (map-set f rs k r)

map-get_or : {A : Type 0} (f : List ℕ → A) (rs : List (List ℕ)) (k : ℕ) (d : A) (r : List ℕ) → k < length rs
    → get_or (map f rs) k d ≡ f (get_or rs k r)
map-get_or f [] k d r h = absurd (omega arith)
map-get_or f (s ∷ rs) zero d r h = refl
map-get_or f (s ∷ rs) (suc k) d r h = map-get_or f rs k d r (omega arith)

-- what the laws ask of tuples and of rows alike: a record's width, the value that its words make, the counted values,
-- and value k
pub record Kind (A : Type 0) : Type 0 where
  pub width : ℕ
  pub value : List ℕ → A
  pub held : List ℕ → List A
  pub at : List ℕ → ℕ → A
  pub held-is : (part : List ℕ) → held part ≡ map value (records_in width part)
  pub at-is : (part : List ℕ) (k : ℕ) → at part k ≡ value (record_at width k (drop 1 part))

-- an append puts the value after the others
abbrev pub Appends : {A : Type 0} → Kind A → (A → List ℕ) → Type 0
Appends {A} kind words = (x : A) (part : List ℕ) → room_of kind.width (counted part + 1) ≤ length part
    → kind.held (appended kind.width (words x) part) ≡ kind.held part ++ (x ∷ [])

-- a removal takes value k out: the others are there, each as often
abbrev pub Removes : {A : Type 0} → Kind A → (A → A → Bool) → Type 0
Removes kind same = (k : ℕ) (part : List ℕ) → k < counted part → room_of kind.width (counted part) ≤ length part
    → Same same (kind.held part) (kind.at part k ∷ kind.held (removed kind.width k part))

module _ {A : Type 0} (kind : Kind A) where
  -- value k, by its words as a part of the whole
  value-part : (k : ℕ) (part : List ℕ)
      → kind.at part k ≡ kind.value (part_at (room_of kind.width k) kind.width part)
  value-part k part = kind.at-is part k ∙ ap kind.value (record-part kind.width k part)

  -- there are as many values as the count says
  pub length-values : (part : List ℕ) → length (kind.held part) ≡ counted part
  length-values part =
      rw (kind.held-is part)
      (length-map (records_in kind.width part) kind.value ∙ length-records-in kind.width part)

  -- value k of them, whatever d
  pub value_in : (k : ℕ) (part : List ℕ) (d : A) → k < counted part → get_or (kind.held part) k d ≡ kind.at part k
  value_in k part d h =
      let rs = records_in kind.width part in
      rw (kind.held-is part, kind.at-is part k)
      (map-get_or kind.value rs k d [] (omega (arith, length-records-in kind.width part))
      ∙ ap kind.value (record-in kind.width k part [] h))

  -- a part that counts none has no values
  values-none : (part : List ℕ) → counted part ≡ 0 → kind.held part ≡ []
  values-none part e = kind.held-is part ∙ ap (map kind.value) (records-none kind.width part e)

  -- the values after an append, where the words appended make x
  values-appended : (words : A → List ℕ) → ((x : A) → length (words x) ≡ kind.width)
      → ((x : A) → kind.value (words x) ≡ x) → Appends kind words
  values-appended words long made x part h =
      let rs = records_in kind.width part in
      rw (kind.held-is part, kind.held-is (appended kind.width (words x) part))
      (ap (map kind.value) (records-appended kind.width (words x) part h (long x))
      ∙ map-append kind.value rs (words x ∷ [])
      ∙ ap (λ (y : A). map kind.value rs ++ (y ∷ [])) (made x))

  -- the values after a removal
  values-removed : (same : A → A → Bool) → Removes kind same
  values-removed same k part h l =
      rw (kind.held-is (removed w k part), moved, ← value_in k part (f []) h)
      (same-overwrite same values (counted part - 1) k (f []) (omega (arith, length-values part)) (omega arith))
    where
      w : ℕ
      w = kind.width

      f : List ℕ → A
      f = kind.value

      values : List A
      values = kind.held part

      moved : map f (records_in w (removed w k part))
          ≡ take (counted part - 1) (set values k (get_or values (counted part - 1) (f [])))
      moved =
          ap (map f) (records-removed w k part h l)
          ∙ map-take f (counted part - 1) (set (records_in w part) k (get_or (records_in w part) (counted part - 1) []))
          ∙ rw (
            kind.held-is part,
            map-set f (records_in w part) k,
            get_or-map f (records_in w part) (counted part - 1) [],
          )

-- tuples
abbrev pub tuples : Kind Tuple
tuples = record {
  width = tuple_width;
  value = tuple_of;
  held = tuples_in;
  at = tuple_at;
  held-is = tuples_are;
  at-is = tuple_is;
}

pub length-tuples : (part : List ℕ) → length (tuples_in part) ≡ counted part
length-tuples = length-values tuples

pub tuple-in : (k : ℕ) (part : List ℕ) (d : Tuple) → k < counted part → get_or (tuples_in part) k d ≡ tuple_at part k
tuple-in = value_in tuples

pub tuple-part : (k : ℕ) (part : List ℕ) → tuple_at part k ≡ tuple_of (part_at (room_of tuple_width k) tuple_width part)
tuple-part = value-part tuples

pub tuples-appended : Appends tuples tuple_words
tuples-appended = values-appended tuples tuple_words (λ t. refl) (λ t. refl)

pub tuples-removed : Removes tuples same_tuple
tuples-removed = values-removed tuples same_tuple

-- rows
abbrev pub rows : Kind Row
rows = record {
  width = row_width;
  value = row_of;
  held = rows_in;
  at = row_at;
  held-is = rows_are;
  at-is = row_is;
}

pub length-rows : (part : List ℕ) → length (rows_in part) ≡ counted part
length-rows = length-values rows

pub row_in : (k : ℕ) (part : List ℕ) (d : Row) → k < counted part → get_or (rows_in part) k d ≡ row_at part k
row_in = value_in rows

pub row-part : (k : ℕ) (part : List ℕ) → row_at part k ≡ row_of (part_at (room_of row_width k) row_width part)
row-part = value-part rows

pub rows_none : (part : List ℕ) → counted part ≡ 0 → rows_in part ≡ []
rows_none = values-none rows

pub rows-appended : Appends rows row_words
rows-appended = values-appended rows row_words (λ r. refl) (λ r. refl)

pub rows-removed : Removes rows same_row
rows-removed = values-removed rows same_row

-- ---- a sound part

-- all, of the first members and of a member overwritten
all_take : {A : Type 0} (p : A → Bool) (n : ℕ) (xs : List A) → all p xs ≡ true → all p (take n xs) ≡ true
all_take p n xs h =
    and_left (all p (take n xs)) (all p (drop n xs))
    (sym (all_append p (take n xs) (drop n xs)) ∙ rw take-append-drop h)

all_set : {A : Type 0} (p : A → Bool) (xs : List A) (k : ℕ) (x : A) → all p xs ≡ true → p x ≡ true
    → all p (set xs k x) ≡ true
all_set p [] k x h e = refl
all_set p (y ∷ xs) zero x h e = and_both (p x) (all p xs) e (and_right (p y) (all p xs) h)
all_set p (y ∷ xs) (suc k) x h e =
    and_both (p y) (all p (set xs k x)) (and_left (p y) (all p xs) h)
    (all_set p xs k x (and_right (p y) (all p xs) h) e)

-- zeros written from place i on, and zeros after them
zeros-from : (i k : ℕ) (xs : List ℕ) → i + k ≤ length xs → zeros (drop (i + k) xs) ≡ true
    → zeros (drop i (sets xs i (replicate k 0))) ≡ true
zeros-from i k xs h z =
    rw (
      stores i k xs (replicate k 0) (length-replicate k 0) h,
      drop_at (take i xs) (replicate k 0 ++ drop k (drop i xs)) i (length-take-le i xs (omega arith)),
      zeros-append (replicate k 0) (drop k (drop i xs)),
      zeros-replicate k,
      drop-drop k i xs,
    ) z

-- the words after the records, after an append and after a removal
tail-appended : (w : ℕ) (r part : List ℕ) → length r ≡ w
    → drop (room_of w (counted part + 1)) (appended w r part) ≡ drop w (drop (room_of w (counted part)) part)
unfolding appended
tail-appended w r part e =
    let n = counted part in
    drop-sets (room_of w (n + 1)) (set part 0 (n + 1)) (room_of w n) r (omega (arith, room_next w n))
    ∙ drop-set-lt (room_of w (n + 1)) part 0 (n + 1) (omega arith)
    ∙ ap (λ (i : ℕ). drop i part) (room_next w n) ∙ sym (drop-drop w (room_of w n) part)

tail-removed : (w k : ℕ) (part : List ℕ) → k < counted part → room_of w (counted part) ≤ length part
    → zeros (drop (room_of w (counted part)) part) ≡ true
    → zeros (drop (room_of w (counted part - 1)) (removed w k part)) ≡ true
unfolding removed
tail-removed w k part h l z =
    zeros-from (room_of w (n - 1)) w moved (rw (long, room-last w n (omega arith)) l)
    (rw (room-last w n (omega arith), after) z)
  where
    n : ℕ
    n = counted part

    last : List ℕ
    last = part_at (room_of w (n - 1)) w part

    moved : List ℕ
    moved = sets (set part 0 (n - 1)) (room_of w k) last

    long : length moved ≡ length part
    long = length-sets (set part 0 (n - 1)) (room_of w k) last ∙ length-set part 0 (n - 1)

    last-long : length last ≡ w
    last-long = length_part (room_of w (n - 1)) w part (omega (arith, room-last w n (omega arith)))

    after : drop (room_of w n) moved ≡ drop (room_of w n) part
    after =
        drop-sets (room_of w n) (set part 0 (n - 1)) (room_of w k) last (omega (arith, last-long, room_within w k n h))
        ∙ drop-set-lt (room_of w n) part 0 (n - 1) (omega arith)

-- a part that is not full has room for one record more
pub room-free : (w capacity : ℕ) (part : List ℕ) → length part ≡ room_of w capacity → counted part < capacity
    → room_of w (counted part + 1) ≤ length part
room-free w capacity part l c = rw l (room-le w (counted part + 1) capacity (omega arith))

module _ (w capacity : ℕ) (ok : List ℕ → Bool) where
  -- a sound part's count is within the capacity
  pub sound-count : (part : List ℕ) → sound_part w capacity ok part ≡ true → counted part ≤ capacity
  unfolding sound_part
  sound-count part h = leb-true (counted part) capacity (and_left (leb (counted part) capacity) _ h)

  -- each of its counted records is legal
  pub sound-records : (part : List ℕ) → sound_part w capacity ok part ≡ true → all ok (records_in w part) ≡ true
  unfolding sound_part
  sound-records part h = and_left (all ok (records_in w part)) _ (and_right (leb (counted part) capacity) _ h)

  -- the words after its counted records are 0
  pub sound-tail : (part : List ℕ) → sound_part w capacity ok part ≡ true
      → zeros (drop (room_of w (counted part)) part) ≡ true
  unfolding sound_part
  sound-tail part h = and_right (all ok (records_in w part)) _ (and_right (leb (counted part) capacity) _ h)

  -- the three together make a part sound
  pub part_sound : (part : List ℕ) → counted part ≤ capacity → all ok (records_in w part) ≡ true
      → zeros (drop (room_of w (counted part)) part) ≡ true → sound_part w capacity ok part ≡ true
  unfolding sound_part
  part_sound part c r z = and_both _ _ (le-leb (counted part) capacity c) (and_both _ _ r z)

  -- a sound part has room for its records
  pub sound-room : (part : List ℕ) → sound_part w capacity ok part ≡ true → length part ≡ room_of w capacity
      → room_of w (counted part) ≤ length part
  sound-room part s l = rw l (room-le w (counted part) capacity (sound-count part s))

  -- an append of a legal record, to a part that is not full, leaves the part sound
  pub sound-appended : (r part : List ℕ) → sound_part w capacity ok part ≡ true → length part ≡ room_of w capacity
      → counted part < capacity → length r ≡ w → ok r ≡ true → sound_part w capacity ok (appended w r part) ≡ true
  sound-appended r part s l c e o =
      let more = counted-appended w r part (omega arith) in
      part_sound (appended w r part) (omega (arith, more))
      (rw (
        records-appended w r part (room-free w capacity part l c) e,
        all_append ok (records_in w part) (r ∷ []),
        o,
        sound-records part s,
      ))
      (rw (more, tail-appended w r part e) (zeros-drop w (drop (room_of w (counted part)) part) (sound-tail part s)))

  -- a removal leaves it sound
  pub sound-removed : (k : ℕ) (part : List ℕ) → sound_part w capacity ok part ≡ true → length part ≡ room_of w capacity
      → k < counted part → sound_part w capacity ok (removed w k part) ≡ true
  sound-removed k part s l h =
      let n = counted part in
      let rs = records_in w part in
      let less = counted-removed w k part (omega arith) in
      let last = all-get_or ok rs [] (sound-records part s) (n - 1) (omega (arith, length-records-in w part)) in
      part_sound (removed w k part) (omega (arith, less, sound-count part s))
      (rw (records-removed w k part h (sound-room part s l))
      (all_take ok (n - 1) (set rs k (get_or rs (n - 1) [])) (all_set ok rs k _ (sound-records part s) last)))
      (rw less (tail-removed w k part h (sound-room part s l) (sound-tail part s)))

  -- a sound part with no records is all zeros
  pub sound_none : (part : List ℕ) → sound_part w capacity ok part ≡ true → counted part ≡ 0
      → length part ≡ room_of w capacity → part ≡ replicate (room_of w capacity) 0
  unfolding counted
  sound_none [] s e l = absurd (omega arith)
  sound_none (m ∷ ws) s e l =
      let tail : zeros ws ≡ true = rw (e, mul-zero w) at (sound-tail (m ∷ ws) s) in
      zeros-are (m ∷ ws) (and_both (eqb m 0) (zeros ws) (eq-eqb m 0 e) tail) ∙ ap (λ (n : ℕ). replicate n 0) l

-- ---- an empty part: all zeros

-- it counts none
pub counted-empty : (n : ℕ) → counted (replicate n 0) ≡ 0
unfolding counted
counted-empty zero = refl
counted-empty (suc n) = refl

-- it has no records
pub records-empty : (w n : ℕ) → records_in w (replicate n 0) ≡ []
records-empty w n = records-none w (replicate n 0) (counted-empty n)

-- no values, so no rows
pub values-empty : {A : Type 0} (kind : Kind A) (n : ℕ) → kind.held (replicate n 0) ≡ []
values-empty kind n = values-none kind (replicate n 0) (counted-empty n)

pub rows_empty : (n : ℕ) → rows_in (replicate n 0) ≡ []
rows_empty = values-empty rows

-- it is sound
pub sound_empty : (w capacity : ℕ) (ok : List ℕ → Bool)
    → sound_part w capacity ok (replicate (room_of w capacity) 0) ≡ true
sound_empty w capacity ok =
    let part : List ℕ = replicate (room_of w capacity) 0 in
    let none : counted part ≡ 0 = counted-empty (room_of w capacity) in
    part_sound w capacity ok part (omega (arith, none)) (rw (records-empty w (room_of w capacity)))
    (zeros-drop (room_of w (counted part)) part (zeros-replicate (room_of w capacity)))

-- ---- the place that a removal frees

-- after a removal there is room for an append, which takes the count to what it was
pub space-reused : (w k : ℕ) (r part : List ℕ) → k < counted part → room_of w (counted part) ≤ length part
    → (room_of w (counted (removed w k part) + 1) ≤ length (removed w k part))
    × (counted (appended w r (removed w k part)) ≡ counted part)
space-reused w k r part h l =
    let less = counted-removed w k part (omega arith) in
    let long = length_removed w k part in
    let room : counted (removed w k part) + 1 ≡ counted part = omega arith in
    (rw (room, long) l, counted-appended w r (removed w k part) (omega arith) ∙ room)
