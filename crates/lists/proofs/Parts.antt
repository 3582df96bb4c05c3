-- A part of a list, and the whole with a part put back.
-- In order: where parts of one size start; a part's length and members; parts of what is taken, of what is left and of
-- a part; a part for a loop, and of one value; a part put back, read again, and the parts beside it; one put back
-- inside another; stores as a part put back, and inside one; what a run of stores leaves as it was, and one store more;
-- members after a part is put back; lists equal by parts.
use mathlib.Core.Path.{◌≡◌, refl, sym, ap, ap₂, ◌∙◌}
use mathlib.Core.Bool.{Bool, true, false}
use mathlib.Core.List.{List, [], ◌∷◌, ◌++◌, append_assoc}
use Prim.Native.Nat.{ℕ, zero, suc, ◌+◌, ◌-◌, ◌*◌, ◌≤◌, ◌<◌}
use native.Mathlib.Nat.{add-zero, add_comm, zero-mul, suc-mul, mul-le-mul_right}
use native.Mathlib.Numerals.{add-one}
use native.Mathlib.Omega.{arith}
use lib.Dec.{ltb}
use lib.ListN.{length, take, drop, get_or, set, replicate, length-append, length-take, length-drop, take-append-drop}
use lib.Seq.{sets, sets-eq, length-take-le, take_all, take-length, drop-cons, take_at, drop_at, get_or-take, get_or-drop}
use lib.Seq.{take-take, take-suc, drop-drop, drop-set-lt, take-add, set_split, set_comm, get_or-set_other}
use borrow.Author.Tests.{ltb-true, ltb-false}
use borrow.Rule.Slice.PartMut.{put_mid, put_same, set_mid_at, take_put}
use Rattle.lists.specs.Words.{part_at}

-- parts of one size lie one after the other: where the next starts, and none starts before an earlier one ends
pub start-next : (i size : ℕ) → (i + 1) * size ≡ i * size + size
start-next i size = rw (add-one, suc-mul)

pub start-le : (i j size : ℕ) → i ≤ j → i * size ≤ j * size
start-le i j size h = mul-le-mul_right size h

pub start-mono : (i j size : ℕ) → i < j → i * size + size ≤ j * size
start-mono i j size h = omega (arith, start-next i size, start-le (i + 1) j size (omega arith))

-- part i of n ends within the n
pub start-within : (i n size : ℕ) → i < n → i * size + size ≤ n * size
start-within = start-mono

-- place j is none of the n places from i on
abbrev pub Apart : ℕ → ℕ → ℕ → Type 0
Apart j i n = (m : ℕ) → i ≤ m → m < i + n → (j ≡ m → ⊥)

module _ {A : Type 0} where
  -- a part's length, where it lies within the list
  pub length_part : (a k : ℕ) (xs : List A) → a + k ≤ length xs → length (part_at a k xs) ≡ k
  length_part a k xs h = simp (length-take, length-drop) (omega arith)

  -- a part's member
  pub get_d_part : (a k i : ℕ) (xs : List A) (d : A) → i < k → get_or (part_at a k xs) i d ≡ get_or xs (a + i) d
  get_d_part a k i xs d h = rw (get_or-take, get_or-drop)

  -- the whole as a part; a part of what is taken, of what is left, and of a part
  pub part-whole : (xs : List A) → part_at 0 (length xs) xs ≡ xs
  part-whole xs = take-length xs

  pub part-take : (a k n : ℕ) (xs : List A) → a + k ≤ n → part_at a k (take n xs) ≡ part_at a k xs
  part-take zero k n xs h = take-take k n xs (omega arith)
  part-take (suc a) k zero xs h = absurd (omega arith)
  part-take (suc a) k (suc n) [] h = refl
  part-take (suc a) k (suc n) (x ∷ xs) h = part-take a k n xs (omega arith)

  pub part-drop : (a k b : ℕ) (xs : List A) → part_at a k (drop b xs) ≡ part_at (b + a) k xs
  part-drop a k b xs = rw drop-drop

  pub part-part : (a k b m : ℕ) (xs : List A) → b + m ≤ k → part_at b m (part_at a k xs) ≡ part_at (a + b) m xs
  part-part a k b m xs h = part-take b m k (drop a xs) h ∙ part-drop b m a xs

  -- a part's first member and the rest, as a loop that goes up reads it
  pub part-cons : (a k i : ℕ) (xs : List A) (d : A) → i < k → a + k ≤ length xs
      → part_at (a + i) (k - i) xs ≡ get_or xs (a + i) d ∷ part_at (a + (i + 1)) (k - (i + 1)) xs
  part-cons a k i xs d h g =
      let more : k - i ≡ suc (k - (i + 1)) = omega arith in
      let next : a + (i + 1) ≡ suc (a + i) = omega arith in
      let inside : a + i < length xs = omega arith in
      rw (more, next, drop-cons xs (a + i) d)

  -- a part of one value many times
  pub part-replicate : (a k n : ℕ) (x : A) → a + k ≤ n → part_at a k (replicate n x) ≡ replicate k x
  part-replicate zero zero n x h = refl
  part-replicate zero (suc k) zero x h = absurd (omega arith)
  part-replicate zero (suc k) (suc n) x h = ap (λ (r : List A). x ∷ r) (part-replicate zero k n x (omega arith))
  part-replicate (suc a) k zero x h = absurd (omega arith)
  part-replicate (suc a) k (suc n) x h = part-replicate a k n x (omega arith)

  -- the part put back as it was
  pub put-part : (a k : ℕ) (xs : List A) → put_mid a k xs (part_at a k xs) ≡ xs
  put-part a k xs = put_same a k xs

  -- a part as long put back: the length, and the part read again
  pub length-put : (a k : ℕ) (xs ys : List A) → a + k ≤ length xs → length ys ≡ k
      → length (put_mid a k xs ys) ≡ length xs
  length-put a k xs ys h e = simp (length-append, length-take, length-drop) (omega arith)

  drop-into : (a k : ℕ) (xs ys : List A) → a ≤ length xs → drop a (put_mid a k xs ys) ≡ ys ++ drop k (drop a xs)
  drop-into a k xs ys h = drop_at (take a xs) (ys ++ drop k (drop a xs)) a (length-take-le a xs h)

  pub part-put : (a k : ℕ) (xs ys : List A) → a + k ≤ length xs → length ys ≡ k
      → part_at a k (put_mid a k xs ys) ≡ ys
  part-put a k xs ys h e = rw (drop-into a k xs ys (omega arith)) (take_at ys (drop k (drop a xs)) k e)

  -- a part before it, and one after it, is as it was
  pub part-put-before : (a k b m : ℕ) (xs ys : List A) → b + m ≤ a → a ≤ length xs
      → part_at b m (put_mid a k xs ys) ≡ part_at b m xs
  part-put-before a k b m xs ys h g =
      sym (part-take b m a (put_mid a k xs ys) h) ∙ ap (part_at b m) (take_put a k xs ys g) ∙ part-take b m a xs h

  drop_past : (a k c : ℕ) (xs ys : List A) → a + k ≤ length xs → length ys ≡ k
      → drop (a + (k + c)) (put_mid a k xs ys) ≡ drop (a + (k + c)) xs
  drop_past a k c xs ys h e =
      sym (drop-drop (k + c) a (put_mid a k xs ys))
      ∙ ap (drop (k + c)) (drop-into a k xs ys (omega arith))
      ∙ sym (drop-drop c k (ys ++ drop k (drop a xs)))
      ∙ ap (drop c) (drop_at ys (drop k (drop a xs)) k e)
      ∙ drop-drop c k (drop a xs)
      ∙ drop-drop (k + c) a xs

  pub part-put-after : (a k b m : ℕ) (xs ys : List A) → a + k ≤ length xs → length ys ≡ k → a + k ≤ b
      → part_at b m (put_mid a k xs ys) ≡ part_at b m xs
  part-put-after a k b m xs ys h e g =
      let far : b ≡ a + (k + (b - (a + k))) = omega arith in
      rw far (ap (take m) (drop_past a k (b - (a + k)) xs ys h e))

  -- of parts of one size: the one put back, read again; and another, in any list that has room, and in a list of n
  pub part-put-same : (i n size : ℕ) (ws ys : List A) → length ws ≡ n * size → length ys ≡ size → i < n
      → part_at (i * size) size (put_mid (i * size) size ws ys) ≡ ys
  part-put-same i n size ws ys l e h =
      part-put (i * size) size ws ys (omega (arith, start-within i n size h)) e

  pub part-put-apart : (i j size : ℕ) (ws ys : List A) → i * size + size ≤ length ws → length ys ≡ size
      → (j ≡ i → ⊥) → part_at (j * size) size (put_mid (i * size) size ws ys) ≡ part_at (j * size) size ws
  part-put-apart i j size ws ys l e other = go (ltb j i) refl
    where
      go : (t : Bool) → ltb j i ≡ t
          → part_at (j * size) size (put_mid (i * size) size ws ys) ≡ part_at (j * size) size ws
      go true t =
          part-put-before (i * size) size (j * size) size ws ys (start-mono j i size (ltb-true j i t)) (omega arith)
      go false t =
          let past : i * size + size ≤ j * size = start-mono i j size (omega (arith, ltb-false j i t)) in
          part-put-after (i * size) size (j * size) size ws ys l e past

  pub part-put-other : (i j n size : ℕ) (ws ys : List A) → length ws ≡ n * size → length ys ≡ size → i < n → j < n
      → (j ≡ i → ⊥) → part_at (j * size) size (put_mid (i * size) size ws ys) ≡ part_at (j * size) size ws
  part-put-other i j n size ws ys l e h g other =
      part-put-apart i j size ws ys (omega (arith, start-within i n size h)) e other

  -- a part put back inside a part that is put back
  drop-join : (c k : ℕ) (xs : List A) → c ≤ k → drop c (take k xs) ++ drop k xs ≡ drop c xs
  drop-join zero k xs h = take-append-drop k xs
  drop-join (suc c) zero xs h = absurd (omega arith)
  drop-join (suc c) (suc k) [] h = refl
  drop-join (suc c) (suc k) (x ∷ xs) h = drop-join c k xs (omega arith)

  pub put-inside : (a k b m : ℕ) (xs ys : List A) → a + k ≤ length xs → b + m ≤ k → length ys ≡ m
      → put_mid a k xs (put_mid b m (part_at a k xs) ys) ≡ put_mid (a + b) m xs ys
  put-inside a k b m xs ys h g e =
      rw (take-take b k (drop a xs) (omega arith), take-add a b xs, ← drop-drop b a xs)
      (simp append_assoc (rw (drop-drop m b (drop a xs), ← drop-join (b + m) k (drop a xs) g, drop-drop m b)))

  -- a store, and a run of stores, is a part put back
  pub set-put : (i : ℕ) (xs : List A) (v : A) → i < length xs → set xs i v ≡ put_mid i 1 xs (v ∷ [])
  set-put i xs v h = set_split xs i v h ∙ rw (drop-drop 1 i xs, add-one)

  pub sets-put : (i : ℕ) (xs vs : List A) → i + length vs ≤ length xs → sets xs i vs ≡ put_mid i (length vs) xs vs
  sets-put i xs vs h = sets-eq vs xs i h ∙ rw (append_assoc, drop-drop (length vs) i xs)

  -- a store, and a run of stores, inside a part that is put back
  pub set-inside : (a k i : ℕ) (xs : List A) (v : A) → a + k ≤ length xs → i < k
      → put_mid a k xs (set (part_at a k xs) i v) ≡ set xs (a + i) v
  set-inside a k i xs v h g = set_mid_at a k i xs v (omega (arith, length_part a k xs h))

  pub sets-inside : (a k i : ℕ) (xs vs : List A) → a + k ≤ length xs → i + length vs ≤ k
      → put_mid a k xs (sets (part_at a k xs) i vs) ≡ sets xs (a + i) vs
  sets-inside a k i xs vs h g =
      ap (put_mid a k xs) (sets-put i (part_at a k xs) vs (omega (arith, length_part a k xs h)))
      ∙ put-inside a k i (length vs) xs vs h g refl
      ∙ sym (sets-put (a + i) xs vs (omega arith))

  -- what lies after a run of stores is as it was
  pub drop-sets : (n : ℕ) (xs : List A) (i : ℕ) (vs : List A) → i + length vs ≤ n → drop n (sets xs i vs) ≡ drop n xs
  drop-sets n xs i [] h = refl
  drop-sets n xs i (v ∷ vs) h =
      drop-sets n (set xs i v) (suc i) vs (omega arith) ∙ drop-set-lt n xs i v (omega arith)

  -- a member that is not one of those stored is as it was, and a store there may come first
  pub get_or-sets-apart : (xs : List A) (i j : ℕ) (vs : List A) (d : A) → Apart j i (length vs)
      → get_or (sets xs i vs) j d ≡ get_or xs j d
  get_or-sets-apart xs i j [] d apart = refl
  get_or-sets-apart xs i j (v ∷ vs) d apart =
      get_or-sets-apart (set xs i v) (suc i) j vs d (λ m l h. apart m (omega arith) (omega arith))
      ∙ get_or-set_other xs i j v d (apart i (omega arith) (omega arith))

  pub set-sets-apart : (xs : List A) (i j : ℕ) (vs : List A) (x : A) → Apart j i (length vs)
      → set (sets xs i vs) j x ≡ sets (set xs j x) i vs
  set-sets-apart xs i j [] x apart = refl
  set-sets-apart xs i j (v ∷ vs) x apart =
      set-sets-apart (set xs i v) (suc i) j vs x (λ m l h. apart m (omega arith) (omega arith))
      ∙ ap (λ (ys : List A). sets ys (suc i) vs)
      (set_comm xs i j v x (λ e. apart i (omega arith) (omega arith) (sym e)))

  -- one store more behind a run of stores, where the run is a part of a list and the store its next member
  sets-snoc : (xs : List A) (i : ℕ) (vs : List A) (v : A)
      → sets xs i (vs ++ (v ∷ [])) ≡ set (sets xs i vs) (i + length vs) v
  sets-snoc xs i [] v = rw add-zero
  sets-snoc xs i (x ∷ vs) v =
      let e : suc i + length vs ≡ i + suc (length vs) = omega arith in
      sets-snoc (set xs i x) (suc i) vs v ∙ ap (λ (n : ℕ). set (sets (set xs i x) (suc i) vs) n v) e

  pub sets-part-more : (xs : List A) (i : ℕ) (ys : List A) (a k : ℕ) (d : A) → a + k < length ys
      → set (sets xs i (part_at a k ys)) (i + k) (get_or ys (a + k) d) ≡ sets xs i (part_at a (k + 1) ys)
  sets-part-more xs i ys a k d h =
      let long : length (part_at a k ys) ≡ k = length_part a k ys (omega arith) in
      let next : part_at a (k + 1) ys ≡ part_at a k ys ++ (get_or ys (a + k) d ∷ []) =
      rw (add-one, ← get_or-drop) (take-suc (drop a ys) k d (omega (arith, length-drop a ys))) in
      sym (ap (sets xs i) next ∙ sets-snoc xs i (part_at a k ys) (get_or ys (a + k) d)
      ∙ ap (λ (n : ℕ). set (sets xs i (part_at a k ys)) (i + n) (get_or ys (a + k) d)) long)

  -- the members after a part is put back: in it, before it, after it
  pub get_or-put-in : (a k i : ℕ) (xs ys : List A) (d : A) → a + k ≤ length xs → length ys ≡ k → i < k
      → get_or (put_mid a k xs ys) (a + i) d ≡ get_or ys i d
  get_or-put-in a k i xs ys d h e g =
      sym (get_d_part a k i (put_mid a k xs ys) d g) ∙ ap (λ (r : List A). get_or r i d) (part-put a k xs ys h e)

  pub get_or-put-before : (a k i : ℕ) (xs ys : List A) (d : A) → a ≤ length xs → i < a
      → get_or (put_mid a k xs ys) i d ≡ get_or xs i d
  get_or-put-before a k i xs ys d h g =
      sym (get_or-take a (put_mid a k xs ys) i d g)
      ∙ ap (λ (r : List A). get_or r i d) (take_put a k xs ys h)
      ∙ get_or-take a xs i d g

  pub get_or-put-after : (a k i : ℕ) (xs ys : List A) (d : A) → a + k ≤ length xs → length ys ≡ k → a + k ≤ i
      → get_or (put_mid a k xs ys) i d ≡ get_or xs i d
  get_or-put-after a k i xs ys d h e g =
      sym (at (put_mid a k xs ys)) ∙ ap (λ (r : List A). get_or r 0 d) (part-put-after a k i 1 xs ys h e g) ∙ at xs
    where
      at : (zs : List A) → get_or (part_at i 1 zs) 0 d ≡ get_or zs i d
      at zs = get_d_part i 1 0 zs d (omega arith) ∙ rw add-zero

  -- lists of n parts of one size are equal where their parts are
  pub parts-equal : (n size : ℕ) (xs ys : List A) → length xs ≡ n * size → length ys ≡ n * size
      → ((i : ℕ) → i < n → part_at (i * size) size xs ≡ part_at (i * size) size ys) → xs ≡ ys
  parts-equal zero size xs ys h g same =
      sym (take_all 0 xs (omega (arith, zero-mul size))) ∙ take_all 0 ys (omega (arith, zero-mul size))
  parts-equal (suc n) size xs ys h g same =
      sym (take-append-drop size xs)
      ∙ ap₂ ◌++◌ first (parts-equal n size (drop size xs) (drop size ys) (less xs h) (less ys g) rest)
      ∙ take-append-drop size ys
    where
      less : (zs : List A) → length zs ≡ suc n * size → length (drop size zs) ≡ n * size
      less zs l = omega (arith, length-drop size zs, suc-mul n size)

      first : take size xs ≡ take size ys
      first = rw zero-mul at (same 0 (omega arith))

      next : (zs : List A) (i : ℕ) → part_at (i * size) size (drop size zs) ≡ part_at (suc i * size) size zs
      next zs i = part-drop (i * size) size size zs ∙ rw (suc-mul, add_comm size)

      rest : (i : ℕ) → i < n → part_at (i * size) size (drop size xs) ≡ part_at (i * size) size (drop size ys)
      rest i b = next xs i ∙ same (suc i) (omega arith) ∙ sym (next ys i)

-- ---- a part's members, read one by one from place a + j on

abbrev pub reads_from : {A : Type 0} → ℕ → ℕ → ℕ → A → List A → List A
reads_from zero a j d xs = []
reads_from (suc n) a j d xs = get_or xs (a + j) d ∷ reads_from n a (suc j) d xs

pub reads-are : {A : Type 0} (n a j : ℕ) (d : A) (xs : List A) → a + j + n ≤ length xs
    → reads_from n a j d xs ≡ part_at (a + j) n xs
reads-are zero a j d xs h = refl
reads-are {A} (suc n) a j d xs h =
    let next : a + suc j ≡ suc (a + j) = omega arith in
    rw (drop-cons xs (a + j) d (omega arith))
    (ap (λ (ys : List A). get_or xs (a + j) d ∷ ys) (rw next at (reads-are n a (suc j) d xs (omega arith))))

pub reads-part : {A : Type 0} (n a : ℕ) (d : A) (xs : List A) → a + n ≤ length xs → reads_from n a 0 d xs ≡ part_at a n xs
reads-part {A} n a d xs h =
    reads-are n a 0 d xs (omega arith) ∙ ap (λ (b : ℕ). part_at b n xs) (add-zero a)
