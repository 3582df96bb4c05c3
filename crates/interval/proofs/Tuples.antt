-- Laws of tuples and rows: their words there and back, and read one by one; equality in all words is equality; the
-- number of a span entered backward and of a late one; what a legal tuple, a legal row is, and that such a one passes
-- each check.
-- Assumes nothing.
use mathlib.Core.Bool.{Bool, true, ◌&&◌}
use mathlib.Core.List.{List, [], ◌∷◌}
use mathlib.Core.Logic.{⊎_elim}
use mathlib.Core.Path.{◌≡◌, refl, sym, ◌∙◌}
use Prim.Native.Nat.{ℕ, zero, suc, ◌+◌, ◌≤◌, ◌<◌}
use native.Mathlib.Nat.{add-zero}
use native.Mathlib.Omega.{arith}
use lib.ListN.{length, get_or}
use lib.Seq.{ext_get_or}
use lib.Dec.{ltb, eqb}
use borrow.Author.Tests.{eqb-true, eq-eqb, lt-ltb, le-ltb, ltb-true, ltb-false}
use Rattle.lists.specs.Choice.{refuse_if, first_of}
use Rattle.lists.specs.Same.{IsEquality}
use Rattle.lists.specs.Words.{part_at}
use Rattle.lists.proofs.Choice.{bool_cases, and_left, and_right, and_both, refuse-none, first-none}
use Rattle.lists.proofs.Parts.{reads-part}
use Rattle.label.specs.Label.{label_check}
use Rattle.interval.specs.Time.{calendar_end, durable}
use Rattle.interval.specs.Tuple.{tuple_width, tuple_of, tuple_words, row_width, row_of, row_words}
use Rattle.interval.specs.Tuple.{item_check, valid_check, tuple_number, legal_tuple, row_number, legal_row}
use Rattle.interval.specs.Tuple.{same_interval, same_tuple, same_row}
use Rattle.interval.specs.declared.time.Interval.{Interval}
use Rattle.interval.specs.declared.tuple.Tuple.{Tuple}
use Rattle.interval.specs.declared.tuple.Row.{Row}

-- ---- words there and back

pub tuple-of-words : (t : Tuple) → tuple_of (tuple_words t) ≡ t
tuple-of-words t = refl

pub row-of-words : (r : Row) → row_of (row_words r) ≡ r
row-of-words r = refl

pub words-of-tuple : (ws : List ℕ) → length ws ≡ tuple_width → tuple_words (tuple_of ws) ≡ ws
words-of-tuple ws e = ext_get_or 0 (tuple_words (tuple_of ws)) ws (sym e) at
  where
    at : (i : ℕ) → i < tuple_width → get_or (tuple_words (tuple_of ws)) i 0 ≡ get_or ws i 0
    at zero h = refl
    at (suc zero) h = refl
    at (suc (suc zero)) h = refl
    at (suc (suc (suc zero))) h = refl
    at (suc (suc (suc (suc i)))) h = absurd (omega arith)

pub words-of-row : (ws : List ℕ) → length ws ≡ row_width → row_words (row_of ws) ≡ ws
words-of-row ws e = ext_get_or 0 (row_words (row_of ws)) ws (sym e) at
  where
    at : (i : ℕ) → i < row_width → get_or (row_words (row_of ws)) i 0 ≡ get_or ws i 0
    at zero h = refl
    at (suc zero) h = refl
    at (suc (suc zero)) h = refl
    at (suc (suc (suc zero))) h = refl
    at (suc (suc (suc (suc zero)))) h = refl
    at (suc (suc (suc (suc (suc i))))) h = absurd (omega arith)

-- a tuple, a row whose words are read one by one from place `at` on
pub tuple-read : (at : ℕ) (ws : List ℕ) → at + tuple_width ≤ length ws
    → tuple_of (part_at at tuple_width ws)
    ≡ tuple_of (get_or ws at 0 ∷ (get_or ws (at + 1) 0 ∷ (get_or ws (at + 2) 0 ∷ (get_or ws (at + 3) 0 ∷ []))))
tuple-read at ws h = rw (← reads-part tuple_width at 0 ws h) (simp add-zero)

pub row_read : (at : ℕ) (ws : List ℕ) → at + row_width ≤ length ws
    → row_of (part_at at row_width ws)
    ≡ row_of (get_or ws at 0
    ∷ (get_or ws (at + 1) 0 ∷ (get_or ws (at + 2) 0 ∷ (get_or ws (at + 3) 0 ∷ (get_or ws (at + 4) 0 ∷ [])))))
row_read at ws h = rw (← reads-part row_width at 0 ws h) (simp add-zero)

-- ---- equality

-- a test that a first word and the rest are equal
both_equal : (m n : ℕ) (rest : Bool) → (eqb m n && rest) ≡ true → (m ≡ n) × (rest ≡ true)
both_equal m n rest h = (eqb-true m n (and_left (eqb m n) rest h), and_right (eqb m n) rest h)

equal-both : (m : ℕ) (rest : Bool) → rest ≡ true → (eqb m m && rest) ≡ true
equal-both m rest h = and_both (eqb m m) rest (eq-eqb m m refl) h

pub same-interval-is : IsEquality same_interval
unfolding same_interval
same-interval-is = record {
  equal = λ v w h.
      let p = both_equal v.first.0 w.first.0 (eqb v.last.0 w.last.0) h in
      let q : v.last.0 ≡ w.last.0 = eqb-true v.last.0 w.last.0 p.1 in
      (λ i. record { first = record { 0 = p.0 i }; last = record { 0 = q i } });
  itself = λ v. equal-both v.first.0 (eqb v.last.0 v.last.0) (eq-eqb v.last.0 v.last.0 refl);
}

pub same-tuple-is : IsEquality same_tuple
unfolding same_tuple
same-tuple-is = record {
  equal = λ t u h.
      let p = both_equal t.label u.label (eqb t.item u.item && same_interval t.valid u.valid) h in
      let q = both_equal t.item u.item (same_interval t.valid u.valid) p.1 in
      let v = same-interval-is.equal t.valid u.valid q.1 in
      (λ i. record { label = p.0 i; item = q.0 i; valid = v i });
  itself = λ t.
      equal-both t.label (eqb t.item t.item && same_interval t.valid t.valid)
      (equal-both t.item (same_interval t.valid t.valid) (same-interval-is.itself t.valid));
}

pub same-row-is : IsEquality same_row
unfolding same_row
same-row-is = record {
  equal = λ r s h.
      let p =
      both_equal r.label s.label
      (eqb r.outer s.outer && (eqb r.inner s.inner && same_interval r.valid s.valid)) h in
      let q =
      both_equal r.outer s.outer (eqb r.inner s.inner && same_interval r.valid s.valid) p.1 in
      let o = both_equal r.inner s.inner (same_interval r.valid s.valid) q.1 in
      let v = same-interval-is.equal r.valid s.valid o.1 in
      (λ i. record { label = p.0 i; outer = q.0 i; inner = o.0 i; valid = v i });
  itself = λ r.
      equal-both r.label
      (eqb r.outer r.outer && (eqb r.inner r.inner && same_interval r.valid r.valid))
      (equal-both r.outer (eqb r.inner r.inner && same_interval r.valid r.valid)
      (equal-both r.inner (same_interval r.valid r.valid) (same-interval-is.itself r.valid)));
}

-- ---- an interval entered backward, one that runs past the calendar, and one that passes both checks

pub reversed-is : (v : Interval) → v.last.0 < v.first.0 → valid_check v ≡ 8
unfolding valid_check first_of
reversed-is v h = rw (lt-ltb v.last.0 v.first.0 h)

pub late_is : (v : Interval) → v.first.0 ≤ v.last.0 → calendar_end < v.last.0 → valid_check v ≡ 17
unfolding valid_check first_of
late_is v lo late = rw (le-ltb v.last.0 v.first.0 lo, lt-ltb calendar_end v.last.0 late)

pub ok-valid : (v : Interval) → v.first.0 ≤ v.last.0 → v.last.0 ≤ calendar_end → valid_check v ≡ 0
unfolding valid_check first_of
ok-valid v lo hi = rw (le-ltb v.last.0 v.first.0 lo, le-ltb calendar_end v.last.0 hi)

-- so a number that is 8 of the first, 17 of the second and 0 of the third is the number of the check
pub valid-number : (v : Interval) (n : ℕ) → (v.last.0 < v.first.0 → n ≡ 8)
    → (v.first.0 ≤ v.last.0 → calendar_end < v.last.0 → n ≡ 17)
    → (v.first.0 ≤ v.last.0 → v.last.0 ≤ calendar_end → n ≡ 0) → n ≡ valid_check v
valid-number v n reversed late ok =
    ⊎_elim (λ h. let r = ltb-true v.last.0 v.first.0 h in reversed r ∙ sym (reversed-is v r))
    (λ h. forward (ltb-false v.last.0 v.first.0 h))
    (bool_cases (ltb v.last.0 v.first.0))
  where
    forward : v.first.0 ≤ v.last.0 → n ≡ valid_check v
    forward lo =
        ⊎_elim (λ h. let l = ltb-true calendar_end v.last.0 h in late lo l ∙ sym (late_is v lo l))
        (λ h. let e = ltb-false calendar_end v.last.0 h in ok lo e ∙ sym (ok-valid v lo e))
        (bool_cases (ltb calendar_end v.last.0))

pub valid-ok : (v : Interval) → valid_check v ≡ 0 → (v.first.0 ≤ v.last.0) × (v.last.0 ≤ calendar_end)
unfolding valid_check
valid-ok v e =
    let a = first-none (refuse_if (ltb v.last.0 v.first.0) 8) _ e in
    let b = first-none (refuse_if (ltb calendar_end v.last.0) 17) _ a.1 in (
      ltb-false v.last.0 v.first.0 (refuse-none (ltb v.last.0 v.first.0) 7 a.0),
      ltb-false calendar_end v.last.0 (refuse-none (ltb calendar_end v.last.0) 16 b.0),
    )

-- ---- a legal tuple, a legal row

pub record LegalTuple (t : Tuple) : Type 0 where
  pub label : label_check t.label ≡ 0
  pub item : item_check t.item ≡ 0
  pub valid : valid_check t.valid ≡ 0

pub legal-tuple : (t : Tuple) → legal_tuple t ≡ true → LegalTuple t
unfolding legal_tuple tuple_number
legal-tuple t h =
    let a = first-none (label_check t.label) _ (eqb-true (tuple_number t) 0 h) in
    let b = first-none (item_check t.item) _ a.1 in
    let c = first-none (valid_check t.valid) _ b.1 in
    record { label = a.0; item = b.0; valid = c.0 }

pub tuple_legal : (t : Tuple) → LegalTuple t → legal_tuple t ≡ true
unfolding legal_tuple tuple_number first_of
tuple_legal t l = rw (l.label, l.item, l.valid)

pub record LegalRow (minimum : ℕ) (r : Row) : Type 0 where
  pub label : label_check r.label ≡ 0
  pub outer : item_check r.outer ≡ 0
  pub inner : item_check r.inner ≡ 0
  pub valid : valid_check r.valid ≡ 0
  pub lasts : durable minimum r.valid ≡ true

pub legal-row : (minimum : ℕ) (r : Row) → legal_row minimum r ≡ true → LegalRow minimum r
unfolding legal_row row_number
legal-row minimum r h =
    let checks = and_left (eqb (row_number r) 0) (durable minimum r.valid) h in
    let a = first-none (label_check r.label) _ (eqb-true (row_number r) 0 checks) in
    let b = first-none (item_check r.outer) _ a.1 in
    let c = first-none (item_check r.inner) _ b.1 in
    let d = first-none (valid_check r.valid) _ c.1 in
    record {
      label = a.0;
      outer = b.0;
      inner = c.0;
      valid = d.0;
      lasts = and_right (eqb (row_number r) 0) (durable minimum r.valid) h;
    }

pub row-legal : (minimum : ℕ) (r : Row) → LegalRow minimum r → legal_row minimum r ≡ true
unfolding legal_row row_number first_of
row-legal minimum r l = rw (l.label, l.outer, l.inner, l.valid, l.lasts)
