-- A line and its value: the format is unambiguous but for the case of the label.
-- In order: the shape of a line that is not refused, of one of three forms; printing its value gives the line back
-- with its label in capitals (print-back), so a line without small letters there (print-same), and two lines with one
-- value differ at most in the case of the label (line-unique); the bounds of what a line gives; how long a line is at
-- most, which leaves the limit of 80 bytes nothing to refuse (limit-idle); a line reads as it does with its label in
-- capitals (capitals-read), so two lines that differ at most in the case of the label have one value (one_value), and a
-- printed line reads as the value that was printed (print-read).
-- Assumes nothing.
use mathlib.Core.Bool.{Bool, true, false, not, ◌&&◌}
use mathlib.Core.List.{List, [], ◌∷◌, ◌++◌}
use mathlib.Core.Logic.{◌⊎◌, inl, inr, ⊎_elim}
use mathlib.Core.Path.{◌≡◌, refl, sym, ◌∙◌, ap, subst}
use Prim.Native.Nat.{ℕ, ◌≤◌}
use native.Mathlib.Omega.{arith}
use lib.Dec.{leb, eqb}
use lib.ListN.{length, length-append}
use borrow.Author.Tests.{le-ltb, leb-false}
use Rattle.lists.specs.Choice.{pick}
use Rattle.lists.specs.Members.{all}
use Rattle.lists.proofs.Choice.{and_left, and_right}
use Rattle.label.specs.Label.{label_end, label_check, capitals, is_label_field, field_label_number}
use Rattle.label.proofs.Fields.{field-range, letters-of-field, field-short, field-again, number-again}
use Rattle.interval.specs.Time.{calendar_end}
use Rattle.interval.specs.Tuple.{from, to}
use Rattle.interval.specs.declared.time.Chronon.{Chronon}
use Rattle.interval.specs.declared.tuple.Tuple.{Tuple}
use Rattle.lines.specs.Fields.{comma, fields_of, joined, same_bytes, most_digits, is_number, value_of}
use Rattle.lines.specs.Line.{line_length, lane_bytes, least_bytes, bytes_of, lane_of, least_of, tuple_read, change_of}
use Rattle.lines.specs.Line.{worded, form_of, line_of, line_number, printed, label_in_capitals, in_capitals}
use Rattle.lines.specs.declared.Word.{Word}
use Rattle.lines.specs.declared.Word.TheVariants.{DrawIn, DrawOut, SpotIn, SpotOut}
use Rattle.lines.specs.declared.Line.{Line}
use Rattle.lines.specs.declared.Line.TheVariants.{Lane, Least, Change, Malformed}
use Rattle.lines.proofs.Fields.{Some, fields-some, join-fields, plain, fields-plain, fields-joined}
use Rattle.lines.proofs.Fields.{comma-capitals, same-bytes-is}
use Rattle.lines.proofs.Numbers.{number-parts, digits-of-number, value-most}

-- ---- the shape of a line

-- `lane,LAST`
pub record LaneShape (line : Line) (fs : List (List ℕ)) : Type 0 where
  pub m : List ℕ
  pub number : is_number m ≡ true
  pub fields : fs ≡ lane_bytes ∷ (m ∷ [])
  pub reads : line ≡ Lane (record { 0 = value_of m })

-- `least,NUMBER`
pub record LeastShape (line : Line) (fs : List (List ℕ)) : Type 0 where
  pub m : List ℕ
  pub number : is_number m ≡ true
  pub fields : fs ≡ least_bytes ∷ (m ∷ [])
  pub reads : line ≡ Least (value_of m)

-- a word, then `,LABEL,NUMBER,FIRST,LAST`
pub record ChangeShape (line : Line) (fs : List (List ℕ)) : Type 0 where
  pub word : Word
  pub l : List ℕ
  pub n : List ℕ
  pub a : List ℕ
  pub b : List ℕ
  pub label : is_label_field l ≡ true
  pub item : is_number n ≡ true
  pub first : is_number a ≡ true
  pub last : is_number b ≡ true
  pub fields : fs ≡ bytes_of word ∷ (l ∷ (n ∷ (a ∷ (b ∷ []))))
  pub reads : line ≡ Change word (tuple_read l n a b)

abbrev pub Shape : Line → List (List ℕ) → Type 0
Shape line fs = (line ≡ Malformed) ⊎ (LaneShape line fs ⊎ (LeastShape line fs ⊎ ChangeShape line fs))

-- of two fields
two-shape : (w m : List ℕ)
    → Shape (pick (same_bytes w lane_bytes) (lane_of m) (pick (same_bytes w least_bytes) (least_of m) Malformed))
    (w ∷ (m ∷ []))
unfolding lane_of least_of
two-shape w m = go (same_bytes w lane_bytes) (same_bytes w least_bytes) (is_number m) refl refl refl
  where
    go : (s u t : Bool) → same_bytes w lane_bytes ≡ s → same_bytes w least_bytes ≡ u → is_number m ≡ t
        → Shape
        (pick s (pick t (Lane (record { 0 = value_of m })) Malformed)
        (pick u (pick t (Least (value_of m)) Malformed) Malformed))
        (w ∷ (m ∷ []))
    go false false t e d f = inl refl
    go false true false e d f = inl refl
    go false true true e d f =
        inr
        (inr
        (inl
        (record {
          m = m;
          number = f;
          fields = ap (λ (v : List ℕ). v ∷ (m ∷ [])) (same-bytes-is w least_bytes d);
          reads = refl;
        })))
    go true u false e d f = inl refl
    go true u true e d f =
        inr
        (inl
        (record {
          m = m;
          number = f;
          fields = ap (λ (v : List ℕ). v ∷ (m ∷ [])) (same-bytes-is w lane_bytes e);
          reads = refl;
        }))

change-shape : (w : List ℕ) (v : Word) (l n a b : List ℕ) → w ≡ bytes_of v
    → Shape (change_of v l n a b) (w ∷ (l ∷ (n ∷ (a ∷ (b ∷ [])))))
unfolding change_of
change-shape w v l n a b e = go (is_label_field l && (is_number n && (is_number a && is_number b))) refl
  where
    go : (t : Bool) → (is_label_field l && (is_number n && (is_number a && is_number b))) ≡ t
        → Shape (pick t (Change v (tuple_read l n a b)) Malformed)
        (w ∷ (l ∷ (n ∷ (a ∷ (b ∷ [])))))
    go false f = inl refl
    go true f =
        let g = and_right (is_label_field l) _ f in
        let h = and_right (is_number n) _ g in
        inr
        (inr
        (inr
        (record {
          word = v;
          l = l;
          n = n;
          a = a;
          b = b;
          label = and_left (is_label_field l) _ f;
          item = and_left (is_number n) _ g;
          first = and_left (is_number a) _ h;
          last = and_right (is_number a) _ h;
          fields = ap (λ (u : List ℕ). u ∷ (l ∷ (n ∷ (a ∷ (b ∷ []))))) e;
          reads = refl;
        })))

worded-shape : (w l n a b : List ℕ)
    → Shape (worded w (λ v. change_of v l n a b)) (w ∷ (l ∷ (n ∷ (a ∷ (b ∷ [])))))
unfolding worded
worded-shape w l n a b =
    go (same_bytes w (bytes_of DrawIn)) (same_bytes w (bytes_of DrawOut)) (same_bytes w (bytes_of SpotIn))
    (same_bytes w (bytes_of SpotOut)) refl refl refl refl
  where
    go : (s t u v : Bool) → same_bytes w (bytes_of DrawIn) ≡ s → same_bytes w (bytes_of DrawOut) ≡ t
        → same_bytes w (bytes_of SpotIn) ≡ u → same_bytes w (bytes_of SpotOut) ≡ v
        → Shape
        (pick s (change_of DrawIn l n a b)
        (pick t (change_of DrawOut l n a b)
        (pick u (change_of SpotIn l n a b) (pick v (change_of SpotOut l n a b) Malformed))))
        (w ∷ (l ∷ (n ∷ (a ∷ (b ∷ [])))))
    go true t u v e f g h = change-shape w DrawIn l n a b (same-bytes-is w (bytes_of DrawIn) e)
    go false true u v e f g h = change-shape w DrawOut l n a b (same-bytes-is w (bytes_of DrawOut) f)
    go false false true v e f g h = change-shape w SpotIn l n a b (same-bytes-is w (bytes_of SpotIn) g)
    go false false false true e f g h = change-shape w SpotOut l n a b (same-bytes-is w (bytes_of SpotOut) h)
    go false false false false e f g h = inl refl

form-shape : (fs : List (List ℕ)) → Shape (form_of fs) fs
unfolding form_of
form-shape (w ∷ (m ∷ [])) = two-shape w m
form-shape (w ∷ (l ∷ (n ∷ (a ∷ (b ∷ []))))) = worded-shape w l n a b
form-shape [] = inl refl
form-shape (w ∷ []) = inl refl
form-shape (w ∷ (l ∷ (n ∷ []))) = inl refl
form-shape (w ∷ (l ∷ (n ∷ (a ∷ [])))) = inl refl
form-shape (w ∷ (l ∷ (n ∷ (a ∷ (b ∷ (c ∷ more)))))) = inl refl

-- a line is malformed, or of one of the three shapes
pub line-shape : (bs : List ℕ) → Shape (line_of bs) (fields_of bs)
unfolding line_of
line-shape bs = go (leb (length bs) line_length)
  where
    go : (t : Bool) → Shape (pick t (form_of (fields_of bs)) Malformed) (fields_of bs)
    go true = form-shape (fields_of bs)
    go false = inl refl

-- ---- printing

print-lane : (line : Line) (fs : List (List ℕ)) → LaneShape line fs → printed line ≡ joined (label_in_capitals fs)
unfolding label_in_capitals
print-lane line fs s =
    ap printed s.reads
    ∙ ap (λ (ds : List ℕ). lane_bytes ++ (comma ∷ ds)) (digits-of-number s.m s.number)
    ∙ rw s.fields

print-least : (line : Line) (fs : List (List ℕ)) → LeastShape line fs → printed line ≡ joined (label_in_capitals fs)
unfolding label_in_capitals
print-least line fs s =
    ap printed s.reads
    ∙ ap (λ (ds : List ℕ). least_bytes ++ (comma ∷ ds)) (digits-of-number s.m s.number)
    ∙ rw s.fields

print-change : (line : Line) (fs : List (List ℕ)) → ChangeShape line fs → printed line ≡ joined (label_in_capitals fs)
unfolding label_in_capitals
print-change line fs s =
    ap printed s.reads
    ∙ rw (
      letters-of-field s.l s.label,
      digits-of-number s.n s.item,
      digits-of-number s.a s.first,
      digits-of-number s.b s.last,
      s.fields,
    )

malformed-no : (line : Line) → line_number line ≡ 0 → line ≡ Malformed → ⊥
malformed-no line h e = omega (arith, sym (ap line_number e) ∙ h)

-- printing an accepted line's value gives the line back with its label in capitals
pub print-back : (bs : List ℕ) → line_number (line_of bs) ≡ 0 → printed (line_of bs) ≡ in_capitals bs
unfolding in_capitals
print-back bs h =
    ⊎_elim (λ e. absurd (malformed-no (line_of bs) h e))
    (⊎_elim (print-lane (line_of bs) (fields_of bs))
    (⊎_elim (print-least (line_of bs) (fields_of bs)) (print-change (line_of bs) (fields_of bs))))
    (line-shape bs)

-- so a line whose label stands in capitals is given back as it was
pub print-same : (bs : List ℕ) → line_number (line_of bs) ≡ 0 → label_in_capitals (fields_of bs) ≡ fields_of bs
    → printed (line_of bs) ≡ bs
unfolding in_capitals
print-same bs h e = print-back bs h ∙ ap joined e ∙ join-fields bs

-- the fields of a line with its label in capitals
labels-plain : (fs : List (List ℕ)) → all plain fs ≡ true → all plain (label_in_capitals fs) ≡ true
unfolding label_in_capitals
labels-plain [] h = h
labels-plain (w ∷ []) h = h
labels-plain (w ∷ (l ∷ more)) h =
    rw (label-plain (eqb (length more) 3)) h
  where
    label-plain : (t : Bool) → plain (pick t (capitals l) l) ≡ plain l
    label-plain true = ap not (comma-capitals l)
    label-plain false = refl

pub capitals-fields : (bs : List ℕ) → fields_of (in_capitals bs) ≡ label_in_capitals (fields_of bs)
unfolding in_capitals label_in_capitals
capitals-fields bs = go (fields_of bs) (fields-some bs) (labels-plain (fields_of bs) (fields-plain bs))
  where
    go : (fs : List (List ℕ)) → Some fs → all plain (label_in_capitals fs) ≡ true
        → fields_of (joined (label_in_capitals fs)) ≡ label_in_capitals fs
    go [] s h = absurd (omega (arith, ap length s.are))
    go (w ∷ []) s h = fields-joined w [] h
    go (w ∷ (l ∷ more)) s h = fields-joined w _ h

-- so two accepted lines with one value differ at most in the case of the label: their fields are the same once it
-- stands in capitals
pub line-unique : (xs ys : List ℕ) → line_number (line_of xs) ≡ 0 → line_of xs ≡ line_of ys
    → label_in_capitals (fields_of xs) ≡ label_in_capitals (fields_of ys)
line-unique xs ys h e =
    sym (capitals-fields xs)
    ∙ ap fields_of (sym (print-back xs h) ∙ ap printed e ∙ print-back ys (ap line_number (sym e) ∙ h))
    ∙ capitals-fields ys

-- ---- bounds

-- a lane's last minute lies in the calendar
pub line-lane-most : (bs : List ℕ) (m : Chronon) → line_of bs ≡ Lane m → m.0 ≤ calendar_end
line-lane-most bs m e = ⊎_elim none (⊎_elim lane (⊎_elim least change)) (line-shape bs)
  where
    none : line_of bs ≡ Malformed → m.0 ≤ calendar_end
    none f = let z : ◌≡◌ {A = ℕ} 0 1 = cc in absurd (omega arith)

    lane : LaneShape (line_of bs) (fields_of bs) → m.0 ≤ calendar_end
    lane s =
        let q : m ≡ record { 0 = value_of s.m } = cc s.reads in
        omega (arith, ap (λ (x : Chronon). x.0) q, value-most s.m s.number)

    least : LeastShape (line_of bs) (fields_of bs) → m.0 ≤ calendar_end
    least s = let z : ◌≡◌ {A = ℕ} 0 1 = cc s.reads in absurd (omega arith)

    change : ChangeShape (line_of bs) (fields_of bs) → m.0 ≤ calendar_end
    change s = let z : ◌≡◌ {A = ℕ} 0 1 = cc s.reads in absurd (omega arith)

-- the number of a `least` line has at most eight digits
pub line-least-most : (bs : List ℕ) (n : ℕ) → line_of bs ≡ Least n → n ≤ 99999999
line-least-most bs n e = ⊎_elim none (⊎_elim lane (⊎_elim least change)) (line-shape bs)
  where
    none : line_of bs ≡ Malformed → n ≤ 99999999
    none f = let z : ◌≡◌ {A = ℕ} 0 1 = cc in absurd (omega arith)

    lane : LaneShape (line_of bs) (fields_of bs) → n ≤ 99999999
    lane s = let z : ◌≡◌ {A = ℕ} 0 1 = cc s.reads in absurd (omega arith)

    least : LeastShape (line_of bs) (fields_of bs) → n ≤ 99999999
    least s =
        let q : n ≡ value_of s.m = cc s.reads in
        omega (arith, q, value-most s.m s.number)

    change : ChangeShape (line_of bs) (fields_of bs) → n ≤ 99999999
    change s = let z : ◌≡◌ {A = ℕ} 0 1 = cc s.reads in absurd (omega arith)

-- a change's label is a label's number, so check 6 never applies to it; its other numbers have at most eight digits
pub record ChangeBounds (t : Tuple) : Type 0 where
  pub label : label_check t.label ≡ 0
  pub item : t.item ≤ 99999999
  pub first : from t ≤ calendar_end
  pub last : to t ≤ calendar_end

label-passes : (bs : List ℕ) → is_label_field bs ≡ true → label_check (field_label_number bs) ≡ 0
unfolding label_check
label-passes bs h =
    let r = field-range bs h in
    rw (le-ltb (field_label_number bs) 1 r.0, le-ltb label_end (field_label_number bs) r.1)

pub line-change-bounds : (bs : List ℕ) (w : Word) (t : Tuple) → line_of bs ≡ Change w t → ChangeBounds t
line-change-bounds bs w t e = ⊎_elim none (⊎_elim lane (⊎_elim least change)) (line-shape bs)
  where
    none : line_of bs ≡ Malformed → ChangeBounds t
    none f = let z : ◌≡◌ {A = ℕ} 0 1 = cc in absurd (omega arith)

    lane : LaneShape (line_of bs) (fields_of bs) → ChangeBounds t
    lane s = let z : ◌≡◌ {A = ℕ} 0 1 = cc s.reads in absurd (omega arith)

    least : LeastShape (line_of bs) (fields_of bs) → ChangeBounds t
    least s = let z : ◌≡◌ {A = ℕ} 0 1 = cc s.reads in absurd (omega arith)

    change : ChangeShape (line_of bs) (fields_of bs) → ChangeBounds t
    change s =
        let q : tuple_read s.l s.n s.a s.b ≡ t = cc s.reads in
        subst (λ (u : Tuple). ChangeBounds u) q
        (record {
          label = label-passes s.l s.label;
          item = value-most s.n s.item;
          first = value-most s.a s.first;
          last = value-most s.b s.last;
        })

-- ---- length

number_short : (bs : List ℕ) → is_number bs ≡ true → length bs ≤ most_digits
number_short bs h = (number-parts bs h).most

word-short : (w : Word) → length (bytes_of w) ≤ 7
word-short DrawIn = omega arith
word-short DrawOut = omega arith
word-short SpotIn = omega arith
word-short SpotOut = omega arith

shape-length : (line : Line) (fs : List (List ℕ)) → Shape line fs → (line ≡ Malformed) ⊎ (length (joined fs) ≤ 43)
shape-length line fs s = ⊎_elim (λ e. inl e) (λ t. inr (⊎_elim lane (⊎_elim least change) t)) s
  where
    lane : LaneShape line fs → length (joined fs) ≤ 43
    lane u = rw u.fields (omega (arith, number_short u.m u.number))

    least : LeastShape line fs → length (joined fs) ≤ 43
    least u = rw u.fields (omega (arith, number_short u.m u.number))

    change : ChangeShape line fs → length (joined fs) ≤ 43
    change u =
        rw u.fields
        (simp length-append
        (omega (
          arith,
          word-short u.word,
          field-short u.l u.label,
          number_short u.n u.item,
          number_short u.a u.first,
          number_short u.b u.last,
        )))

-- a line that is not refused has at most 43 bytes
pub line-length : (bs : List ℕ) → line_number (line_of bs) ≡ 0 → length bs ≤ 43
line-length bs h =
    ⊎_elim (λ e. absurd (malformed-no (line_of bs) h e))
    (λ l. subst (λ (cs : List ℕ). length cs ≤ 43) (join-fields bs) l)
    (shape-length (line_of bs) (fields_of bs) (line-shape bs))

-- so a line of more than 80 bytes has not the form either
pub limit-idle : (bs : List ℕ) → line_of bs ≡ form_of (fields_of bs)
unfolding line_of
limit-idle bs = go (leb (length bs) line_length) refl
  where
    go : (t : Bool) → leb (length bs) line_length ≡ t → pick t (form_of (fields_of bs)) Malformed ≡ form_of (fields_of bs)
    go true e = refl
    go false e =
        ⊎_elim (λ f. sym f)
        (λ l. absurd (omega (arith, leb-false (length bs) line_length e, rw (join-fields bs) at l)))
        (shape-length (form_of (fields_of bs)) (fields_of bs) (form-shape (fields_of bs)))

-- ---- the case of the label

form-capitals : (fs : List (List ℕ)) → form_of (label_in_capitals fs) ≡ form_of fs
unfolding form_of change_of label_in_capitals
form-capitals (w ∷ (l ∷ (n ∷ (a ∷ (b ∷ []))))) = rw (field-again l, number-again l)
form-capitals [] = refl
form-capitals (w ∷ []) = refl
form-capitals (w ∷ (l ∷ [])) = refl
form-capitals (w ∷ (l ∷ (n ∷ []))) = refl
form-capitals (w ∷ (l ∷ (n ∷ (a ∷ [])))) = refl
form-capitals (w ∷ (l ∷ (n ∷ (a ∷ (b ∷ (c ∷ more)))))) = refl

-- a line, refused or not, reads as it does with its label in capitals
pub capitals-read : (bs : List ℕ) → line_of (in_capitals bs) ≡ line_of bs
capitals-read bs =
    limit-idle (in_capitals bs)
    ∙ ap form_of (capitals-fields bs)
    ∙ form-capitals (fields_of bs)
    ∙ sym (limit-idle bs)

-- so two lines that differ at most in the case of the label have one value
pub one_value : (xs ys : List ℕ) → label_in_capitals (fields_of xs) ≡ label_in_capitals (fields_of ys) → line_of xs ≡ line_of ys
unfolding in_capitals
one_value xs ys e =
    sym (capitals-read xs) ∙ ap (λ (fs : List (List ℕ)). line_of (joined fs)) e ∙ capitals-read ys

-- and an accepted line's value, printed and read again, is that value
pub print-read : (bs : List ℕ) → line_number (line_of bs) ≡ 0 → line_of (printed (line_of bs)) ≡ line_of bs
print-read bs h = ap line_of (print-back bs h) ∙ capitals-read bs
