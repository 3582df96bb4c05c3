-- Records of a fixed width in a list of words.
-- In order: how many there are; a record's length and words; each record; none, some and then others, one more; fewer
-- of them, and those after some; words that begin alike; a record written; words written past the records; a record
-- appended; records of zeros.
use mathlib.Core.Path.{◌≡◌, refl, sym, ap, ap₂, ◌∙◌}
use mathlib.Core.Bool.{Bool, true, false}
use mathlib.Core.List.{List, [], ◌∷◌, ◌++◌}
use Prim.Native.Nat.{ℕ, zero, suc, ◌+◌, ◌-◌, ◌*◌, ◌≤◌, ◌<◌}
use native.Mathlib.Nat.{zero-add, suc-add, add_comm, zero-mul, suc-mul}
use native.Mathlib.Omega.{arith}
use lib.Dec.{eqb}
use lib.ListN.{length, take, drop, get_or, set, length-set}
use lib.Seq.{take_at, drop-drop, ext_get_or, get_or-set_same, get_or-set_other}
use borrow.Author.Tests.{eqb-true, eqb-false}
use borrow.Rule.Slice.PartMut.{put_mid}
use Rattle.lists.specs.Words.{part_at, records_of, record_at}
use Rattle.lists.proofs.Parts.{start-within, length_part, part-drop, part-take, part-put}
use Rattle.lists.proofs.Parts.{part-put-before, part-put-apart}

-- how many records there are
pub length-records : (w n : ℕ) (ws : List ℕ) → length (records_of w n ws) ≡ n
length-records w zero ws = refl
length-records w (suc n) ws = ap suc (length-records w n (drop w ws))

-- a record's length, and its words
pub record-length : (w k : ℕ) (ws : List ℕ) → k * w + w ≤ length ws → length (record_at w k ws) ≡ w
record-length w k ws h = length_part (k * w) w ws h

-- each record
record-after : (w k : ℕ) (ws : List ℕ) → record_at w k (drop w ws) ≡ record_at w (suc k) ws
record-after w k ws = part-drop (k * w) w w ws ∙ rw (suc-mul, add_comm w)

pub record-at : (w n k : ℕ) (ws : List ℕ) (d : List ℕ) → k < n → get_or (records_of w n ws) k d ≡ record_at w k ws
record-at w zero k ws d h = absurd (omega arith)
record-at w (suc n) zero ws d h = rw zero-mul
record-at w (suc n) (suc k) ws d h = record-at w n k (drop w ws) d (omega arith) ∙ record-after w k ws

-- some and then others; one more
pub records-add : (w n m : ℕ) (ws : List ℕ)
    → records_of w (n + m) ws ≡ records_of w n ws ++ records_of w m (drop (n * w) ws)
records-add w zero m ws = rw (zero-add, zero-mul)
records-add w (suc n) m ws =
    rw (suc-add, suc-mul, add_comm (n * w), ← drop-drop (n * w) w ws)
    (ap (λ (r : List (List ℕ)). take w ws ∷ r) (records-add w n m (drop w ws)))

pub records-snoc : (w n : ℕ) (ws : List ℕ) → records_of w (n + 1) ws ≡ records_of w n ws ++ (record_at w n ws ∷ [])
records-snoc w n ws = records-add w n 1 ws

-- fewer of them, and those after some
records-cut : (w n k : ℕ) (ws : List ℕ) → k ≤ n
    → records_of w n ws ≡ records_of w k ws ++ records_of w (n - k) (drop (k * w) ws)
records-cut w n k ws h =
    let whole : n ≡ k + (n - k) = omega arith in
    ap (λ (m : ℕ). records_of w m ws) whole ∙ records-add w k (n - k) ws

pub records-take-fewer : (w n k : ℕ) (ws : List ℕ) → k ≤ n → take k (records_of w n ws) ≡ records_of w k ws
records-take-fewer w n k ws h = rw (records-cut w n k ws h) (take_at (records_of w k ws) _ k (length-records w k ws))

-- a list is the records where each of its members is
records-are : (w n : ℕ) (ws : List ℕ) (rs : List (List ℕ)) → length rs ≡ n
    → ((k : ℕ) → k < n → record_at w k ws ≡ get_or rs k []) → records_of w n ws ≡ rs
records-are w n ws rs l same =
    ext_get_or [] (records_of w n ws) rs (length-records w n ws ∙ sym l) each
  where
    each : (k : ℕ) → k < length (records_of w n ws) → get_or (records_of w n ws) k [] ≡ get_or rs k []
    each k h =
        let b : k < n = omega (arith, length-records w n ws) in
        record-at w n k ws [] b ∙ same k b

-- words that begin alike have the same records
pub records-take : (w n : ℕ) (ws vs : List ℕ) → take (n * w) ws ≡ take (n * w) vs
    → records_of w n ws ≡ records_of w n vs
records-take w n ws vs e = records-are w n ws (records_of w n vs) (length-records w n vs) λ k h.
    let inside : k * w + w ≤ n * w = start-within k n w h in
    sym (part-take (k * w) w (n * w) ws inside) ∙ ap (part_at (k * w) w) e ∙ part-take (k * w) w (n * w) vs inside
    ∙ sym (record-at w n k vs [] h)

-- one record written, the others as they were
pub records-put : (w n k : ℕ) (ws r : List ℕ) → k < n → n * w ≤ length ws → length r ≡ w
    → records_of w n (put_mid (k * w) w ws r) ≡ set (records_of w n ws) k r
records-put w n k ws r h l e =
    records-are w n (put_mid (k * w) w ws r) (set (records_of w n ws) k r)
    (length-set (records_of w n ws) k r ∙ length-records w n ws) (λ j b. go j b (eqb j k) refl)
  where
    fits : k * w + w ≤ length ws
    fits = omega (arith, start-within k n w h)

    go : (j : ℕ) → j < n → (t : Bool) → eqb j k ≡ t
        → record_at w j (put_mid (k * w) w ws r) ≡ get_or (set (records_of w n ws) k r) j []
    go j b true t =
        rw (eqb-true j k t) (part-put (k * w) w ws r fits e
        ∙ sym (get_or-set_same (records_of w n ws) k r [] (omega (arith, length-records w n ws))))
    go j b false t =
        part-put-apart k j w ws r fits e (eqb-false j k t)
        ∙ sym (get_or-set_other (records_of w n ws) k j r [] (eqb-false j k t) ∙ record-at w n j ws [] b)

-- words written past the records
pub records-past : (w n a k : ℕ) (ws r : List ℕ) → n * w ≤ a → a ≤ length ws
    → records_of w n (put_mid a k ws r) ≡ records_of w n ws
records-past w n a k ws r h g =
    records-take w n (put_mid a k ws r) ws (part-put-before a k 0 (n * w) ws r (omega arith) g)

-- one record appended
pub records-append : (w n : ℕ) (ws r : List ℕ) → n * w + w ≤ length ws → length r ≡ w
    → records_of w (n + 1) (put_mid (n * w) w ws r) ≡ records_of w n ws ++ (r ∷ [])
records-append w n ws r h e =
    records-snoc w n (put_mid (n * w) w ws r)
    ∙ ap₂ (λ (rs : List (List ℕ)) (s : List ℕ). rs ++ (s ∷ []))
    (records-past w n (n * w) w ws r (omega arith) (omega arith)) (part-put (n * w) w ws r h e)
