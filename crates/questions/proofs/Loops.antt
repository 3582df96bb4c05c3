-- Loops that change each question of a lent list, one after the other: what is there after i turns, and the window of
-- the questions that were passed.
-- In order: the start, the next question, one more, the end; the window.
-- Assumes nothing.
use mathlib.Core.List.{List, map}
use mathlib.Core.Path.{◌≡◌, refl, sym, ap, ap₂, ◌∙◌}
use Prim.Native.Nat.{ℕ, ◌+◌, ◌≤◌, ◌<◌}
use native.Mathlib.Numerals.{add-one}
use native.Mathlib.Omega.{arith}
use lib.ListN.{length, get_or, set, drop}
use Rattle.lists.proofs.Front.{front, front_length, front-next, front-set, front-all}
use Rattle.interval.specs.declared.time.Interval.{Interval}
use Rattle.question.specs.Steps.{widened_by, widened_all, no_window, window_of}
use Rattle.question.specs.declared.Question.{Question}
use Rattle.question.proofs.Windows.{window-first, window-next, window-last}

-- the questions qs, of which the first i were changed by f, became qs'
pub record Changed (f : Question → Question) (qs : List Question) (i : ℕ) (qs' : List Question) : Type 0 where
  pub passed : i ≤ length qs
  pub members : qs' ≡ front f i qs

module _ (f : Question → Question) (qs : List Question) where
  pub changed-none : Changed f qs 0 qs
  changed-none = record { passed = omega arith; members = refl }

  pub changed-length : (i : ℕ) {qs' : List Question} → Changed f qs i qs' → length qs' ≡ length qs
  changed-length i s = ap length s.members ∙ front_length f i qs

  -- the next question is as it was
  pub changed-next : (i : ℕ) {qs' : List Question} → Changed f qs i qs' → (d : Question)
      → get_or qs' i d ≡ get_or qs i d
  changed-next i s d = ap (λ (xs : List Question). get_or xs i d) s.members ∙ front-next f i qs d

  -- changed by f, it is one more
  pub changed-more : (i : ℕ) {qs' : List Question} → Changed f qs i qs' → i < length qs → (d x : Question)
      → x ≡ f (get_or qs' i d) → Changed f qs (i + 1) (set qs' i x)
  changed-more i s l d x e = record {
    passed = omega arith;
    members =
        ap₂ (λ (xs : List Question) (y : Question). set xs i y) s.members
        (e ∙ ap (λ (xs : List Question). f (get_or xs i d)) s.members)
        ∙ front-set f i qs d l ∙ ap (λ (n : ℕ). front f n qs) (sym (add-one i));
  }

  pub changed-all : (i : ℕ) {qs' : List Question} → Changed f qs i qs' → length qs ≤ i → qs' ≡ map f qs
  changed-all i s l =
      let e : i ≡ length qs = omega (arith, s.passed) in
      s.members ∙ ap (λ (n : ℕ). front f n qs) e ∙ front-all f qs

-- the window of the first i questions: widened by those that are left, it is that of all
abbrev pub Window : List Question → ℕ → Interval → Type 0
Window qs i v = widened_all v (drop i qs) ≡ window_of qs

module _ (qs : List Question) where
  pub window-none : (v : Interval) → v ≡ no_window → Window qs 0 v
  window-none v e = ap (λ (u : Interval). widened_all u qs) e ∙ window-first qs

  pub window_more : (i : ℕ) (v : Interval) (d q : Question) → Window qs i v → i < length qs → q ≡ get_or qs i d
      → (v' : Interval) → v' ≡ widened_by v q → Window qs (i + 1) v'
  window_more i v d q h l at v' e =
      rw (e ∙ ap (widened_by v) at, add-one) (sym (window-next v qs i d l) ∙ h)

  pub window-all : (i : ℕ) (v : Interval) → Window qs i v → length qs ≤ i → v ≡ window_of qs
  window-all i v h l = sym (window-last v qs i l) ∙ h
