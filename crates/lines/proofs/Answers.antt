-- What a field's answer tells, for a reader that goes on only with a value: of a number, and of a label.
-- Assumes nothing.
use mathlib.Core.Bool.{Bool, true, false, not}
use mathlib.Core.List.{List}
use mathlib.Core.Path.{◌≡◌, refl, sym, ◌∙◌, subst}
use Prim.Native.Nat.{ℕ}
use native.Mathlib.Omega.{arith}
use borrow.Author.Tests.{not-false}
use Rattle.std.specs.Prelude.{Option, Some, None}
use Rattle.lists.specs.Choice.{refuse_if}
use Rattle.lists.proofs.Choice.{pick_true, refuse-none}
use Rattle.label.specs.Label.{is_label_field, field_label_number, number_or_none, LabelRead}
use Rattle.lines.specs.Fields.{is_number, value_of, NumberRead}

-- the refusal number of a field: 15, or 0
refused : (t : Bool) → ◌≡◌ {A = ℕ} 15 (refuse_if (not t) 15) → t ≡ false
refused true z = absurd (omega arith)
refused false z = refl

accepted : (t : Bool) → ◌≡◌ {A = ℕ} 0 (refuse_if (not t) 15) → t ≡ true
accepted t z = not-false t (refuse-none (not t) 14 (sym z))

module _ (bs : List ℕ) where
  -- a number
  pub number-value : (r : Option ℕ) (n : ℕ) → NumberRead bs r → r ≡ Some n
      → (is_number bs ≡ true) × (n ≡ value_of bs)
  number-value r n h e =
      let g : NumberRead bs (Some n) = subst (λ (f : Option ℕ). NumberRead bs f) e h in
      let is : is_number bs ≡ true = accepted (is_number bs) g.number in
      (is, g.value ∙ pick_true (is_number bs) (value_of bs) 0 is)

  pub number-refused : (r : Option ℕ) → NumberRead bs r → r ≡ None → is_number bs ≡ false
  number-refused r h e =
      let g : NumberRead bs None = subst (λ (f : Option ℕ). NumberRead bs f) e h in
      refused (is_number bs) g.number

  -- a label
  pub label-value : (r : Option ℕ) (n : ℕ) → LabelRead bs r → r ≡ Some n
      → (is_label_field bs ≡ true) × (n ≡ field_label_number bs)
  unfolding number_or_none
  label-value r n h e =
      let g : LabelRead bs (Some n) = subst (λ (f : Option ℕ). LabelRead bs f) e h in
      let is : is_label_field bs ≡ true = accepted (is_label_field bs) g.number in
      (is, g.label ∙ pick_true (is_label_field bs) (field_label_number bs) 0 is)

  pub label-refused : (r : Option ℕ) → LabelRead bs r → r ≡ None → is_label_field bs ≡ false
  label-refused r h e =
      let g : LabelRead bs None = subst (λ (f : Option ℕ). LabelRead bs f) e h in
      refused (is_label_field bs) g.number
