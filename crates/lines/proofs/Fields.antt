-- Laws of specs/Fields: the fields of bytes, and words.
-- In order: bytes with no comma are one field; with one, what stands before the first comma, and the fields after it;
-- so there is at least one field, and with a comma there are two or more; the last field read whole; fields joined
-- again by commas, and the fields of what was joined; two runs of bytes that are the same.
-- Assumes nothing.
use mathlib.Core.Bool.{Bool, true, false, not, ◌||◌, false≢true}
use mathlib.Core.List.{List, [], ◌∷◌, ◌++◌}
use mathlib.Core.Logic.{⊎_elim}
use mathlib.Core.Path.{◌≡◌, refl, sym, ◌∙◌, ap, ap₂, subst}
use Prim.Native.Nat.{ℕ, suc, ◌+◌, ◌-◌, ◌≤◌, ◌<◌}
use native.Mathlib.Numerals.{add-one}
use native.Mathlib.Omega.{arith}
use lib.Dec.{eqb}
use lib.ListN.{length, take, drop, length-drop}
use lib.Seq.{take_all}
use borrow.Author.Tests.{eqb-true, ne_eqb, not-true}
use borrow.Author.Rules.{rules}
use Rattle.std.specs.Bool.{Decides}
use Rattle.std.specs.Str.{bytes_eq}
use Rattle.std.proofs.lemmas.Bool.Decides.{same_from_decides, Decides-eqb}
use Rattle.std.proofs.lemmas.Slice.Eq.{slice_eq-Decides, compares_Decides}
use Rattle.lists.specs.Choice.{pick}
use Rattle.lists.specs.Members.{all, any, place_of}
use Rattle.lists.proofs.Choice.{bool_cases, and_left, and_right, or-neither-left, or-neither-right}
use Rattle.lists.proofs.Members.{any-map, any-cong}
use Rattle.lists.proofs.Tally.{place_found, place_none}
use Rattle.label.specs.Label.{capital, capitals}
use Rattle.label.proofs.Fields.{capital-cases}
use Rattle.lines.specs.Fields.{comma, is_byte, is_comma, on_first, fields_of, joined, same_bytes}

-- ---- the fields of bytes

-- no comma: one field
pub fields-one : (bs : List ℕ) → any is_comma bs ≡ false → fields_of bs ≡ bs ∷ []
fields-one [] e = refl
fields-one (b ∷ bs) e =
    rw (or-neither-left (is_comma b) (any is_comma bs) e, fields-one bs (or-neither-right (is_comma b) (any is_comma bs) e))

-- a comma: what stands before the first, then the fields of what stands after it
first-suc : (bs : List ℕ) → any is_comma bs ≡ true
    → fields_of bs ≡ take (place_of is_comma bs) bs ∷ fields_of (drop (suc (place_of is_comma bs)) bs)
first-suc [] e = absurd (false≢true e)
first-suc (b ∷ bs) e = go (is_comma b) e (first-suc bs)
  where
    go : (t : Bool) → (t || any is_comma bs) ≡ true
        → (any is_comma bs ≡ true
        → fields_of bs ≡ take (place_of is_comma bs) bs ∷ fields_of (drop (suc (place_of is_comma bs)) bs))
        → pick t ([] ∷ fields_of bs) (on_first b (fields_of bs))
        ≡ take (pick t 0 (suc (place_of is_comma bs))) (b ∷ bs)
        ∷ fields_of (drop (suc (pick t 0 (suc (place_of is_comma bs)))) (b ∷ bs))
    go true e h = refl
    go false e h = rw (h e)

pub fields-first : (bs : List ℕ) → any is_comma bs ≡ true
    → fields_of bs ≡ take (place_of is_comma bs) bs ∷ fields_of (drop (place_of is_comma bs + 1) bs)
fields-first bs e = rw add-one (first-suc bs e)

-- by the place of the first of a byte, as a reader finds it: there is one where the place lies within the bytes, and
-- none before the place
module _ (byte : ℕ) (bs : List ℕ) where
  pub byte-there : (k : ℕ) → k ≡ place_of (is_byte byte) bs → k < length bs → any (is_byte byte) bs ≡ true
  byte-there k e h =
      ⊎_elim (λ t. t) (λ t. absurd (omega (arith, place_none (is_byte byte) bs t))) (bool_cases (any (is_byte byte) bs))

  pub byte-none : (k : ℕ) → k ≡ place_of (is_byte byte) bs → length bs ≤ k → any (is_byte byte) bs ≡ false
  byte-none k e h =
      ⊎_elim (λ t. absurd (omega (arith, place_found (is_byte byte) bs t))) (λ t. t) (bool_cases (any (is_byte byte) bs))

pub none_before : (byte : ℕ) (bs : List ℕ) → any (is_byte byte) (take (place_of (is_byte byte) bs) bs) ≡ false
none_before byte [] = refl
none_before byte (b ∷ bs) = go (is_byte byte b) refl (none_before byte bs)
  where
    go : (t : Bool) → is_byte byte b ≡ t → any (is_byte byte) (take (place_of (is_byte byte) bs) bs) ≡ false
        → any (is_byte byte) (take (pick t 0 (suc (place_of (is_byte byte) bs))) (b ∷ bs)) ≡ false
    go true e h = refl
    go false e h = rw e h

-- what the code cuts at a comma at place k: `&bs[0..k]` before it, `&bs[k + 1..]` after it
abbrev pub cut_before : ℕ → List ℕ → List ℕ
cut_before k bs = take (k - 0) (drop 0 bs)

abbrev pub cut_after : ℕ → List ℕ → List ℕ
cut_after k bs = take (length bs - (k + 1)) (drop (k + 1) bs)

pub fields-cut : (bs : List ℕ) (k : ℕ) → k ≡ place_of is_comma bs → k < length bs
    → fields_of bs ≡ cut_before k bs ∷ fields_of (cut_after k bs)
fields-cut bs k e h =
    let whole : k - 0 ≡ k = omega arith in
    let left : length (drop (k + 1) bs) ≤ length bs - (k + 1) = omega (arith, length-drop (k + 1) bs) in
    rw (whole, take_all (length bs - (k + 1)) (drop (k + 1) bs) left)
    (subst (λ (j : ℕ). fields_of bs ≡ take j bs ∷ fields_of (drop (j + 1) bs)) (sym e)
    (fields-first bs (byte-there comma bs k e h)))

pub fields-none : (bs : List ℕ) (k : ℕ) → k ≡ place_of is_comma bs → length bs ≤ k → fields_of bs ≡ bs ∷ []
fields-none bs k e h = fields-one bs (byte-none comma bs k e h)

-- ---- how many fields there are

pub record Some (fs : List (List ℕ)) : Type 0 where
  pub first : List ℕ
  pub more : List (List ℕ)
  pub are : fs ≡ first ∷ more

pub record Many (fs : List (List ℕ)) : Type 0 where
  pub first : List ℕ
  pub second : List ℕ
  pub more : List (List ℕ)
  pub are : fs ≡ first ∷ (second ∷ more)

pub fields-some : (bs : List ℕ) → Some (fields_of bs)
fields-some bs =
    ⊎_elim (λ e. record { first = _; more = _; are = fields-first bs e })
    (λ e. record { first = _; more = _; are = fields-one bs e })
    (bool_cases (any is_comma bs))

pub fields-many : (bs : List ℕ) → any is_comma bs ≡ true → Many (fields_of bs)
fields-many bs e =
    let rest = fields-some (drop (place_of is_comma bs + 1) bs) in
    record {
      first = take (place_of is_comma bs) bs;
      second = rest.first;
      more = rest.more;
      are = fields-first bs e ∙ ap (λ (fs : List (List ℕ)). take (place_of is_comma bs) bs ∷ fs) rest.are;
    }

-- a form that refuses two or more fields reads the rest of a line whole, where it refuses a last field with a comma
pub last-field : {A : Type 0} (form : List (List ℕ) → A) (other : A) (bs : List ℕ)
    → ((f g : List ℕ) (more : List (List ℕ)) → form (f ∷ (g ∷ more)) ≡ other)
    → (any is_comma bs ≡ true → form (bs ∷ []) ≡ other)
    → form (fields_of bs) ≡ form (bs ∷ [])
last-field {A} form other bs two refused = ⊎_elim some none (bool_cases (any is_comma bs))
  where
    some : any is_comma bs ≡ true → form (fields_of bs) ≡ form (bs ∷ [])
    some e =
        let m = fields-many bs e in
        ap form m.are ∙ two m.first m.second m.more ∙ sym (refused e)

    none : any is_comma bs ≡ false → form (fields_of bs) ≡ form (bs ∷ [])
    none e = ap form (fields-one bs e)

-- ---- fields joined by commas

-- the fields of a line, joined, are the line
pub join-fields : (bs : List ℕ) → joined (fields_of bs) ≡ bs
join-fields [] = refl
join-fields (b ∷ bs) = go (is_comma b) refl (fields-some bs) (join-fields bs)
  where
    on-first : (fs : List (List ℕ)) → joined (on_first b fs) ≡ b ∷ joined fs
    on-first [] = refl
    on-first (f ∷ []) = refl
    on-first (f ∷ (g ∷ more)) = refl

    empty-first : (fs : List (List ℕ)) → Some fs → joined ([] ∷ fs) ≡ comma ∷ joined fs
    empty-first [] s = absurd (omega (arith, ap length s.are))
    empty-first (f ∷ more) s = refl

    go : (t : Bool) → is_comma b ≡ t → Some (fields_of bs) → joined (fields_of bs) ≡ bs
        → joined (pick t ([] ∷ fields_of bs) (on_first b (fields_of bs))) ≡ b ∷ bs
    go true e s h = empty-first (fields_of bs) s ∙ ap₂ ◌∷◌ (sym (eqb-true b comma e)) h
    go false e s h = on-first (fields_of bs) ∙ ap (λ (cs : List ℕ). b ∷ cs) h

-- no field has a comma, and fields without commas, joined, are the fields of what they make
abbrev pub plain : List ℕ → Bool
plain f = not (any is_comma f)

pub fields-plain : (bs : List ℕ) → all plain (fields_of bs) ≡ true
fields-plain [] = refl
fields-plain (b ∷ bs) = go (is_comma b) refl (fields_of bs) (fields-plain bs)
  where
    go : (t : Bool) → is_comma b ≡ t → (fs : List (List ℕ)) → all plain fs ≡ true
        → all plain (pick t ([] ∷ fs) (on_first b fs)) ≡ true
    go true e fs h = h
    go false e [] h = rw e
    go false e (f ∷ fs) h = rw e h

field-then : (f rest : List ℕ) → any is_comma f ≡ false → fields_of (f ++ (comma ∷ rest)) ≡ f ∷ fields_of rest
field-then [] rest e = refl
field-then (b ∷ f) rest e =
    rw (
      or-neither-left (is_comma b) (any is_comma f) e,
      field-then f rest (or-neither-right (is_comma b) (any is_comma f) e),
    )

pub fields-joined : (f : List ℕ) (fs : List (List ℕ)) → all plain (f ∷ fs) ≡ true → fields_of (joined (f ∷ fs)) ≡ f ∷ fs
fields-joined f [] h = fields-one f (not-true (any is_comma f) (and_left (plain f) true h))
fields-joined f (g ∷ more) h =
    field-then f (joined (g ∷ more)) (not-true (any is_comma f) (and_left (plain f) (all plain (g ∷ more)) h))
    ∙ ap (λ (fs : List (List ℕ)). f ∷ fs) (fields-joined g more (and_right (plain f) (all plain (g ∷ more)) h))

-- capitals have the commas that they had
pub comma-capitals : (bs : List ℕ) → any is_comma (capitals bs) ≡ any is_comma bs
unfolding capitals
comma-capitals bs = any-map is_comma capital bs ∙ any-cong _ is_comma bs same
  where
    same : (b : ℕ) → is_comma (capital b) ≡ is_comma b
    same b =
        ⊎_elim
        (λ p. ne_eqb (capital b) comma (λ e. omega (arith, p)) ∙ sym (ne_eqb b comma (λ e. omega (arith, p))))
        (ap is_comma)
        (capital-cases b)

-- ---- two runs of bytes that are the same

pub same-bytes-is : (xs ys : List ℕ) → same_bytes xs ys ≡ true → xs ≡ ys
same-bytes-is [] [] e = refl
same-bytes-is [] (y ∷ ys) e = absurd (false≢true e)
same-bytes-is (x ∷ xs) [] e = absurd (false≢true e)
same-bytes-is (x ∷ xs) (y ∷ ys) e =
    ap₂ ◌∷◌ (eqb-true x y (and_left (eqb x y) (same_bytes xs ys) e))
    (same-bytes-is xs ys (and_right (eqb x y) (same_bytes xs ys) e))

same-bytes-decides : (xs ys : List ℕ) → Decides (same_bytes xs ys) (xs ≡ ys)
same-bytes-decides = compares_Decides same_bytes (search rules)

-- what `==` answers of them, the second lent as the slice zs
pub same-bytes-eq : (xs ys zs : List ℕ) (r : Bool) → zs ≡ ys → r ≡ bytes_eq xs zs → r ≡ same_bytes xs ys
same-bytes-eq xs ys zs r a e =
    same_from_decides r (same_bytes xs ys) (slice_eq-Decides Decides-eqb xs ys r (rw a at e)) (same-bytes-decides xs ys)
