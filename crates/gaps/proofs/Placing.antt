-- Laws of records placed in a buffer (specs/Placing).
-- In order: the words of records; no record, one list after another; one record; `Listing`, the invariant of the loops:
-- some are placed, the rest is to come.
-- Assumes nothing.
use mathlib.Core.List.{List, [], ◌∷◌, ◌++◌, append-nil, append_assoc}
use mathlib.Core.Path.{◌≡◌, refl, sym, ap, ◌∙◌}
use Prim.Native.Nat.{ℕ, suc, ◌+◌, ◌<◌}
use native.Mathlib.Nat.{add-zero}
use native.Mathlib.Omega.{arith}
use lib.ListN.{length, set, length-append}
use lib.Seq.{sets, length-sets}
use mir.Syntax.{w64}
use mir.Val.{Fits}
use Rattle.lists.proofs.Gather.{gather_append}
use Rattle.interval.specs.Tuple.{tuple_width, tuple_words}
use Rattle.interval.specs.declared.tuple.Tuple.{Tuple}
use Rattle.gaps.specs.Listed.{record_words, words_for}
use Rattle.gaps.specs.Placing.{Placed}

-- ---- the words of records, and words written after others

pub length-words : (ts : List Tuple) → length (record_words ts) ≡ words_for (length ts)
length-words [] = refl
length-words (t ∷ ts) = omega (arith, length-words ts)

sets-append : {A : Type 0} (l : List A) (i : ℕ) (xs ys : List A)
    → sets l i (xs ++ ys) ≡ sets (sets l i xs) (i + length xs) ys
sets-append l i [] ys = rw add-zero
sets-append l i (x ∷ xs) ys =
    let e : suc i + length xs ≡ i + suc (length xs) = omega arith in
    sets-append (set l i x) (suc i) xs ys ∙ rw e

-- ---- no record, and records after others

pub placed-none : (out : List ℕ) (k : ℕ) → Placed out k [] out k
placed-none out k = record { counted = omega arith; long = refl; written = λ h. refl }

pub placed-more : (out : List ℕ) (k : ℕ) (ts : List Tuple) (out₁ : List ℕ) (n : ℕ) (us : List Tuple) (out₂ : List ℕ)
    (n₂ : ℕ) → Placed out k ts out₁ n → Placed out₁ n us out₂ n₂ → Placed out k (ts ++ us) out₂ n₂
placed-more out k ts out₁ n us out₂ n₂ p q = record {
  counted = omega (arith, p.counted, q.counted, length-append ts us);
  long = q.long ∙ p.long;
  written = λ h.
      let whole = length-append ts us in
      let first = p.written (omega (arith, h, whole)) in
      let second = q.written (omega (arith, h, whole, p.counted, p.long)) in
      let at : words_for n ≡ words_for k + length (record_words ts) = omega (arith, p.counted, length-words ts) in
      second ∙ rw (at, first)
      (sym (ap (sets out (words_for k)) (gather_append tuple_words ts us)
      ∙ sets-append out (words_for k) (record_words ts) (record_words us)));
}

-- ---- one record: written, and where there is no room for it left out

module _ (out : List ℕ) (k : ℕ) (t : Tuple) (out' : List ℕ) where
  pub placed-here : out' ≡ sets out (words_for k) (tuple_words t) → Placed out k (t ∷ []) out' (k + 1)
  placed-here e = record {
    counted = refl;
    long = ap length e ∙ length-sets out (words_for k) (tuple_words t);
    written = λ h. e;
  }

  pub placed-not : length out < words_for k + tuple_width → out' ≡ out → Placed out k (t ∷ []) out' (k + 1)
  placed-not l e = record { counted = refl; long = ap length e; written = λ h. absurd (omega (arith, h)) }

-- ---- of all records ts, those that are left are rest; those before are placed after k others, and there are n

pub record Listing (out : List ℕ) (k : ℕ) (ts rest : List Tuple) (out' : List ℕ) (n : ℕ) : Type 0 where
  pub done : List Tuple
  pub whole : done ++ rest ≡ ts
  pub placed : Placed out k done out' n

module _ (out : List ℕ) (k : ℕ) (ts : List Tuple) where
  pub listing_start : Listing out k ts ts out k
  listing_start = record { done = []; whole = refl; placed = placed-none out k }

  -- the first of those that are left are placed
  pub listing-more : (rest us rest' : List Tuple) (out₁ : List ℕ) (n : ℕ) (out₂ : List ℕ) (n₂ : ℕ) → rest ≡ us ++ rest'
      → Placed out₁ n us out₂ n₂ → Listing out k ts rest out₁ n → Listing out k ts rest' out₂ n₂
  listing-more rest us rest' out₁ n out₂ n₂ e p l = record {
    done = l.done ++ us;
    whole = append_assoc l.done us rest' ∙ ap (λ (r : List Tuple). l.done ++ r) (sym e) ∙ l.whole;
    placed = placed-more out k l.done out₁ n us out₂ n₂ l.placed p;
  }

  -- none is left
  pub listing-all : (rest : List Tuple) (out' : List ℕ) (n : ℕ) → rest ≡ [] → Listing out k ts rest out' n
      → Placed out k ts out' n
  listing-all rest out' n e l =
      let all : l.done ≡ ts = sym (append-nil l.done) ∙ ap (λ (r : List Tuple). l.done ++ r) (sym e) ∙ l.whole in
      rw all at l.placed

  -- what is left has room in a machine's word where all have
  pub listing-fits : (rest us rest' : List Tuple) (out' : List ℕ) (n : ℕ) → rest ≡ us ++ rest'
      → Listing out k ts rest out' n → Fits w64 (words_for (k + length ts)) → Fits w64 (words_for (n + length us))
  listing-fits rest us rest' out' n e l f = record {
    fits =
        omega (
          arith,
          f.fits,
          l.placed.counted,
          ap length l.whole,
          length-append l.done rest,
          ap length e,
          length-append us rest',
        );
  }
