-- Laws of specs/Line, along the way that a line is read: where the reader answers, its answer is the line's.
-- In order: a lane's last minute, and the minutes of a `least` line; the fields of a change after its third comma,
-- after its second, after its first; the first field of a line is one of the words, and each word's form; the line.
-- Assumes nothing.
use mathlib.Core.Bool.{true, false, and-false}
use mathlib.Core.List.{List, [], ◌∷◌}
use mathlib.Core.Path.{◌≡◌, refl, sym, ◌∙◌, ap}
use Prim.Native.Nat.{ℕ, ◌≤◌, ◌<◌}
use lib.Dec.{leb}
use lib.ListN.{length}
use borrow.Author.Tests.{le-leb, lt-leb}
use Rattle.lists.specs.Members.{any, place_of}
use Rattle.lists.proofs.Choice.{pick_true, pick-false}
use Rattle.label.specs.Label.{is_label_field, field_label_number}
use Rattle.interval.specs.Tuple.{tuple}
use Rattle.lines.specs.Fields.{is_comma, fields_of, same_bytes, is_number, value_of}
use Rattle.lines.specs.Line.{line_length, lane_bytes, least_bytes, bytes_of, lane_of, least_of, change_of, change_form}
use Rattle.lines.specs.Line.{numbers_form, span_form, worded, form_of, line_of}
use Rattle.lines.specs.declared.Word.{Word}
use Rattle.lines.specs.declared.Word.TheVariants.{DrawIn, DrawOut, SpotIn, SpotOut}
use Rattle.lines.specs.declared.Line.{Line}
use Rattle.lines.specs.declared.Line.TheVariants.{Lane, Least, Change, Malformed}
use Rattle.lines.proofs.Fields.{cut_before, cut_after, fields-cut, fields-none, last-field, same-bytes-is}
use Rattle.lines.proofs.Numbers.{comma-no-number}

-- ---- a lane's last minute

pub lane-refused : (bs : List ℕ) → is_number bs ≡ false → Malformed ≡ lane_of bs
unfolding lane_of
lane-refused bs e = rw e

pub lane-value : (bs : List ℕ) (n : ℕ) → (is_number bs ≡ true) × (n ≡ value_of bs) → Lane (record { 0 = n }) ≡ lane_of bs
unfolding lane_of
lane-value bs n p = rw (p.0, p.1)

-- ---- the minutes of a `least` line

pub least-refused : (bs : List ℕ) → is_number bs ≡ false → Malformed ≡ least_of bs
unfolding least_of
least-refused bs e = rw e

pub least-value : (bs : List ℕ) (n : ℕ) → (is_number bs ≡ true) × (n ≡ value_of bs) → Least n ≡ least_of bs
unfolding least_of
least-value bs n p = rw (p.0, p.1)

-- ---- after a change's third comma, the first comma of the rest at place k

module _ (w : Word) (label item : ℕ) (bs : List ℕ) (k : ℕ) (e : k ≡ place_of is_comma bs) where
  -- no comma is left
  pub span_none : length bs ≤ k → Malformed ≡ span_form w label item (fields_of bs)
  unfolding span_form
  span_none h = rw (fields-none bs k e h)

  -- what stands after it is read whole: with a comma more there is a field too many, and it is no number either
  whole : k < length bs
      → span_form w label item (fields_of bs) ≡ span_form w label item (cut_before k bs ∷ (cut_after k bs ∷ []))
  unfolding span_form
  whole h =
      ap (span_form w label item) (fields-cut bs k e h)
      ∙ last-field (λ fs. span_form w label item (cut_before k bs ∷ fs)) Malformed (cut_after k bs) two comma
    where
      two : (f g : List ℕ) (more : List (List ℕ))
          → span_form w label item (cut_before k bs ∷ (f ∷ (g ∷ more))) ≡ Malformed
      two f g more = refl

      comma : any is_comma (cut_after k bs) ≡ true
          → span_form w label item (cut_before k bs ∷ (cut_after k bs ∷ [])) ≡ Malformed
      comma t = rw (comma-no-number (cut_after k bs) t, and-false)

  -- the first minute is no number, the last is none, both are
  pub span-first : k < length bs → is_number (cut_before k bs) ≡ false → Malformed ≡ span_form w label item (fields_of bs)
  unfolding span_form
  span-first h f = sym (whole h ∙ rw f)

  pub span_last : k < length bs → is_number (cut_after k bs) ≡ false → Malformed ≡ span_form w label item (fields_of bs)
  unfolding span_form
  span_last h f = sym (whole h ∙ rw (f, and-false))

  pub span_value : (first last : ℕ) → k < length bs
      → (is_number (cut_before k bs) ≡ true) × (first ≡ value_of (cut_before k bs))
      → (is_number (cut_after k bs) ≡ true) × (last ≡ value_of (cut_after k bs))
      → Change w (tuple label item first last) ≡ span_form w label item (fields_of bs)
  unfolding span_form
  span_value first last h f g = sym (whole h ∙ rw (f.0, g.0, f.1, g.1))

-- ---- after a change's second comma, the first comma of the rest at place k

-- by the number
item-no : (w : Word) (label : ℕ) (n : List ℕ) (fs : List (List ℕ)) → is_number n ≡ false
    → numbers_form w label (n ∷ fs) ≡ Malformed
unfolding numbers_form
item-no w label n [] e = refl
item-no w label n (a ∷ []) e = refl
item-no w label n (a ∷ (b ∷ [])) e = rw e
item-no w label n (a ∷ (b ∷ (c ∷ more))) e = refl

item-read : (w : Word) (label : ℕ) (n : List ℕ) (fs : List (List ℕ)) → is_number n ≡ true
    → numbers_form w label (n ∷ fs) ≡ span_form w label (value_of n) fs
unfolding numbers_form span_form
item-read w label n [] e = refl
item-read w label n (a ∷ []) e = refl
item-read w label n (a ∷ (b ∷ [])) e = rw e
item-read w label n (a ∷ (b ∷ (c ∷ more))) e = refl

module _ (w : Word) (label : ℕ) (bs : List ℕ) (k : ℕ) (e : k ≡ place_of is_comma bs) where
  pub numbers-none : length bs ≤ k → Malformed ≡ numbers_form w label (fields_of bs)
  unfolding numbers_form
  numbers-none h = rw (fields-none bs k e h)

  pub numbers-item : k < length bs → is_number (cut_before k bs) ≡ false → Malformed ≡ numbers_form w label (fields_of bs)
  numbers-item h f = sym (ap (numbers_form w label) (fields-cut bs k e h) ∙ item-no w label (cut_before k bs) _ f)

  -- a number: the rest answers
  pub numbers-span : (r : Line) (item : ℕ) → k < length bs
      → (is_number (cut_before k bs) ≡ true) × (item ≡ value_of (cut_before k bs))
      → r ≡ span_form w label item (fields_of (cut_after k bs)) → r ≡ numbers_form w label (fields_of bs)
  numbers-span r item h n a =
      a
      ∙ ap (λ (x : ℕ). span_form w label x (fields_of (cut_after k bs))) n.1
      ∙ sym (ap (numbers_form w label) (fields-cut bs k e h) ∙ item-read w label (cut_before k bs) _ n.0)

-- ---- after a change's first comma, the first comma of the rest at place k

-- by the label
label-no : (w : Word) (l : List ℕ) (fs : List (List ℕ)) → is_label_field l ≡ false → change_form w (l ∷ fs) ≡ Malformed
unfolding change_form change_of
label-no w l [] e = refl
label-no w l (n ∷ []) e = refl
label-no w l (n ∷ (a ∷ [])) e = refl
label-no w l (n ∷ (a ∷ (b ∷ []))) e = rw e
label-no w l (n ∷ (a ∷ (b ∷ (c ∷ more)))) e = refl

label-read : (w : Word) (l : List ℕ) (fs : List (List ℕ)) → is_label_field l ≡ true
    → change_form w (l ∷ fs) ≡ numbers_form w (field_label_number l) fs
unfolding change_form change_of numbers_form
label-read w l [] e = refl
label-read w l (n ∷ []) e = refl
label-read w l (n ∷ (a ∷ [])) e = refl
label-read w l (n ∷ (a ∷ (b ∷ []))) e = rw e
label-read w l (n ∷ (a ∷ (b ∷ (c ∷ more)))) e = refl

module _ (w : Word) (bs : List ℕ) (k : ℕ) (e : k ≡ place_of is_comma bs) where
  pub change-none : length bs ≤ k → Malformed ≡ change_form w (fields_of bs)
  unfolding change_form
  change-none h = rw (fields-none bs k e h)

  pub change-label : k < length bs → is_label_field (cut_before k bs) ≡ false → Malformed ≡ change_form w (fields_of bs)
  change-label h f = sym (ap (change_form w) (fields-cut bs k e h) ∙ label-no w (cut_before k bs) _ f)

  -- a label: the rest answers
  pub change-numbers : (r : Line) (label : ℕ) → k < length bs
      → (is_label_field (cut_before k bs) ≡ true) × (label ≡ field_label_number (cut_before k bs))
      → r ≡ numbers_form w label (fields_of (cut_after k bs)) → r ≡ change_form w (fields_of bs)
  change-numbers r label h f a =
      a
      ∙ ap (λ (x : ℕ). numbers_form w x (fields_of (cut_after k bs))) f.1
      ∙ sym (ap (change_form w) (fields-cut bs k e h) ∙ label-read w (cut_before k bs) _ f.0)

-- ---- the first field of a line

-- a word that is no change's, with more fields than one after it
more-fields : (w : List ℕ) → ((f : Word → Line) → worded w f ≡ Malformed) → (m n : List ℕ) (more : List (List ℕ))
    → form_of (w ∷ (m ∷ (n ∷ more))) ≡ Malformed
unfolding form_of
more-fields w none m n [] = refl
more-fields w none m n (a ∷ []) = refl
more-fields w none m n (a ∷ (b ∷ [])) = none _
more-fields w none m n (a ∷ (b ∷ (c ∷ more))) = refl

-- `lane`: what stands after the comma is read whole
form-lane : (w bs : List ℕ) → same_bytes w lane_bytes ≡ true → form_of (w ∷ fields_of bs) ≡ lane_of bs
unfolding form_of worded lane_of
form-lane w bs e =
    ap (λ (v : List ℕ). form_of (v ∷ fields_of bs)) (same-bytes-is w lane_bytes e)
    ∙ last-field (λ fs. form_of (lane_bytes ∷ fs)) Malformed bs (more-fields lane_bytes (λ f. refl))
    (λ t. rw (comma-no-number bs t))

-- `least`: so is what stands after its comma
form-least : (w bs : List ℕ) → same_bytes w least_bytes ≡ true → form_of (w ∷ fields_of bs) ≡ least_of bs
unfolding form_of worded least_of
form-least w bs e =
    ap (λ (v : List ℕ). form_of (v ∷ fields_of bs)) (same-bytes-is w least_bytes e)
    ∙ last-field (λ fs. form_of (least_bytes ∷ fs)) Malformed bs (more-fields least_bytes (λ f. refl))
    (λ t. rw (comma-no-number bs t))

-- a change's word
worded-word : (v : Word) (f : Word → Line) → worded (bytes_of v) f ≡ f v
unfolding worded
worded-word DrawIn f = refl
worded-word DrawOut f = refl
worded-word SpotIn f = refl
worded-word SpotOut f = refl

not-lane : (v : Word) → same_bytes (bytes_of v) lane_bytes ≡ false
not-lane DrawIn = refl
not-lane DrawOut = refl
not-lane SpotIn = refl
not-lane SpotOut = refl

not_least : (v : Word) → same_bytes (bytes_of v) least_bytes ≡ false
not_least DrawIn = refl
not_least DrawOut = refl
not_least SpotIn = refl
not_least SpotOut = refl

word-form : (v : Word) (fs : List (List ℕ)) → form_of (bytes_of v ∷ fs) ≡ change_form v fs
unfolding form_of change_form
word-form v [] = refl
word-form v (l ∷ []) =
    pick-false (same_bytes (bytes_of v) lane_bytes) (lane_of l) _ (not-lane v)
    ∙ pick-false (same_bytes (bytes_of v) least_bytes) (least_of l) Malformed (not_least v)
word-form v (l ∷ (n ∷ [])) = refl
word-form v (l ∷ (n ∷ (a ∷ []))) = refl
word-form v (l ∷ (n ∷ (a ∷ (b ∷ [])))) = worded-word v (λ u. change_of u l n a b)
word-form v (l ∷ (n ∷ (a ∷ (b ∷ (c ∷ more))))) = refl

-- none of the words
pub record NoWord (w : List ℕ) : Type 0 where
  pub lane : same_bytes w lane_bytes ≡ false
  pub least : same_bytes w least_bytes ≡ false
  pub drawin : same_bytes w (bytes_of DrawIn) ≡ false
  pub drawout : same_bytes w (bytes_of DrawOut) ≡ false
  pub spotin : same_bytes w (bytes_of SpotIn) ≡ false
  pub spotout : same_bytes w (bytes_of SpotOut) ≡ false

no-form : (w : List ℕ) (fs : List (List ℕ)) → NoWord w → form_of (w ∷ fs) ≡ Malformed
unfolding form_of worded
no-form w [] z = refl
no-form w (l ∷ []) z = rw (z.lane, z.least)
no-form w (l ∷ (n ∷ [])) z = refl
no-form w (l ∷ (n ∷ (a ∷ []))) z = refl
no-form w (l ∷ (n ∷ (a ∷ (b ∷ [])))) z = rw (z.drawin, z.drawout, z.spotin, z.spotout)
no-form w (l ∷ (n ∷ (a ∷ (b ∷ (c ∷ more))))) z = refl

-- ---- the line

pub line-long : (bs : List ℕ) → line_length < length bs → Malformed ≡ line_of bs
unfolding line_of
line-long bs h = rw (lt-leb (length bs) line_length h)

module _ (bs : List ℕ) (short : length bs ≤ line_length) (k : ℕ) (e : k ≡ place_of is_comma bs) where
  fits : line_of bs ≡ form_of (fields_of bs)
  unfolding line_of
  fits = pick_true (leb (length bs) line_length) (form_of (fields_of bs)) Malformed (le-leb (length bs) line_length short)

  pub line-none : length bs ≤ k → Malformed ≡ line_of bs
  unfolding form_of
  line-none h = sym (fits ∙ rw (fields-none bs k e h))

  cut : k < length bs → line_of bs ≡ form_of (cut_before k bs ∷ fields_of (cut_after k bs))
  cut h = fits ∙ ap form_of (fields-cut bs k e h)

  pub line-lane : (r : Line) → k < length bs → same_bytes (cut_before k bs) lane_bytes ≡ true → r ≡ lane_of (cut_after k bs)
      → r ≡ line_of bs
  line-lane r h t a = a ∙ sym (cut h ∙ form-lane (cut_before k bs) (cut_after k bs) t)

  pub line-least : (r : Line) → k < length bs → same_bytes (cut_before k bs) least_bytes ≡ true
      → r ≡ least_of (cut_after k bs) → r ≡ line_of bs
  line-least r h t a = a ∙ sym (cut h ∙ form-least (cut_before k bs) (cut_after k bs) t)

  pub line-change : (r : Line) (v : Word) → k < length bs → same_bytes (cut_before k bs) (bytes_of v) ≡ true
      → r ≡ change_form v (fields_of (cut_after k bs)) → r ≡ line_of bs
  line-change r v h t a =
      a
      ∙ sym
      (cut h
      ∙ ap (λ (w : List ℕ). form_of (w ∷ fields_of (cut_after k bs))) (same-bytes-is (cut_before k bs) (bytes_of v) t)
      ∙ word-form v (fields_of (cut_after k bs)))

  pub line_other : k < length bs → NoWord (cut_before k bs) → Malformed ≡ line_of bs
  line_other h z = sym (cut h ∙ no-form (cut_before k bs) (fields_of (cut_after k bs)) z)
