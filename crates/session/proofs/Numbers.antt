-- The numbers that a session from `fresh` can meet, where the lent stores have the words of 8 lanes (1,032, 1,032 and
-- 2,568) and each line was read by the reader: 1, 3, 4, 6, 13, 14 and 17 are never given.
-- In order: the wall fits the plan, so checks 1 to 4 pass; the first check that applies, among given numbers; a lane
-- line, a change, a line; the theorem (`numbers-met`). It leaves 5, which a sound wall never gets (`change-sound`), and
-- 12, which needs store 3 to lack a row: that a session's own steps keep its wall sound and its rows right follows from
-- demand 3, of the calls, and is shown above this crate, in `transcript`.
-- Assumes nothing.
use mathlib.Core.Bool.{Bool, true, false, not, ◌&&◌, false≢true}
use mathlib.Core.List.{List, [], ◌∷◌}
use mathlib.Core.Logic.{⊎_elim}
use mathlib.Core.Path.{◌≡◌, refl, ◌∙◌, ap}
use Prim.Native.Nat.{ℕ, zero, suc, ◌≤◌}
use native.Mathlib.Omega.{arith}
use lib.Dec.{ltb, eqb}
use lib.ListN.{length, take, length-take}
use borrow.Author.Tests.{eqb-true, le-ltb}
use Rattle.lists.specs.Choice.{pick, refuse_if, first_of}
use Rattle.lists.specs.Members.{all, any}
use Rattle.lists.proofs.Choice.{bool_cases, and_left, and_right, and_both, or_right, first-here, pick_true, pick-false}
use Rattle.interval.specs.Time.{calendar_end}
use Rattle.interval.specs.Tuple.{item_end, from, to, tuple_number, item_check, valid_check, same_tuple}
use Rattle.interval.specs.declared.time.Chronon.{Chronon}
use Rattle.interval.specs.declared.tuple.Tuple.{Tuple}
use Rattle.plan.specs.Plan.{most_minimum, outside, minimum_check}
use Rattle.plan.specs.declared.Partitioning.{Partitioning}
use Rattle.store.specs.Store.{fits_tuples, fits_rows, stored_tuples, stored_rows}
use Rattle.store.proofs.StoreLoops.{given-tuples, given-rows}
use Rattle.rows.specs.declared.Side.{Side}
use Rattle.rows.specs.declared.Side.TheVariants.{Outer, Inner}
use Rattle.checks.specs.Stores.{Stores, sound, tuples_length, rows_length, lengths_number, open_number, store_number}
use Rattle.checks.proofs.Checks.{stores-are}
use Rattle.insertion.specs.Changes.{made}
use Rattle.insertion.specs.Inserts.{full, overfull}
use Rattle.deletion.specs.Deletes.{lacks}
use Rattle.join.specs.Changes.{own_store, other_store, insert_number, delete_number}
use Rattle.lines.specs.Line.{line_of}
use Rattle.lines.specs.declared.Word.{Word}
use Rattle.lines.specs.declared.Word.TheVariants.{DrawIn, DrawOut, SpotIn, SpotOut}
use Rattle.lines.specs.declared.Line.{Line}
use Rattle.lines.specs.declared.Line.TheVariants.{Lane, Least, Change, Malformed}
use Rattle.lines.proofs.Printed.{ChangeBounds, line-change-bounds}
use Rattle.session_plan.specs.Lanes.{plan_of, with_lane, used_tuples, used_rows, wall_tuple_words}
use Rattle.session_plan.specs.Lanes.{bad_lane, lane_check, least_check}
use Rattle.session_plan.specs.declared.Session.{Session}
use Rattle.session_plan.proofs.Lanes.{lane-passed}
use Rattle.session_plan.proofs.Plans.{Good, good-with, plan-legal}
use Rattle.session.specs.Session.{EightPartitions, wall_of, lane_number, call_number, change_line_number, step_number}
use Rattle.session.proofs.Reached.{Reached, reached-good}
use Rattle.session.proofs.Lengths.{SameLong, reached-long}

-- ---- the wall of a complete plan has the lengths that the plan gives: checks 1 to 4 pass

module _ (s : Session) (S : Stores) (g : Good s) (done : s.complete ≡ true) (y : EightPartitions S) where
  abbrev wall : Stores
  wall = wall_of s S

  tuples-fit : (ws : List ℕ) → wall_tuple_words ≤ length ws
      → fits_tuples (plan_of s) (length (take (used_tuples s) ws)) ≡ true
  tuples-fit ws l =
      given-tuples (plan_of s) _ (plan-legal s g done, omega (arith, length-take (used_tuples s) ws, g.most))

  outer-fits : fits_tuples (plan_of s) (length wall.outer) ≡ true
  outer-fits = tuples-fit S.outer y.outer

  inner-fits : fits_tuples (plan_of s) (length wall.inner) ≡ true
  inner-fits = tuples-fit S.inner y.inner

  rows_fit : fits_rows (plan_of s) (length wall.rows) ≡ true
  rows_fit =
      given-rows (plan_of s) _ (plan-legal s g done, omega (arith, length-take (used_rows s) S.rows, g.most, y.rows))

  pub wall-open : open_number (plan_of s) wall ≡ 0
  unfolding lengths_number tuples_length rows_length first_of
  wall-open = rw (plan-legal s g done, outer-fits, inner-fits, rows_fit)

-- ---- the first check that applies, among numbers that pass a test

pub first-met : (ok : ℕ → Bool) (ns : List ℕ) → ok 0 ≡ true → all ok ns ≡ true → ok (first_of ns) ≡ true
unfolding first_of
first-met ok [] z h = z
first-met ok (zero ∷ ns) z h = first-met ok ns z (and_right (ok 0) (all ok ns) h)
first-met ok (suc n ∷ ns) z h = and_left (ok (suc n)) (all ok ns) h

pub refuse-ok : (ok : ℕ → Bool) (b : Bool) (n : ℕ) → ok 0 ≡ true → ok n ≡ true → ok (refuse_if b n) ≡ true
refuse-ok ok true n z h = h
refuse-ok ok false n z h = z

-- a number that a test guards
pub guarded-ok : (ok : ℕ → Bool) (c : Bool) (k n : ℕ) → ok 0 ≡ true → ok (suc k) ≡ true → (c ≡ true → ok n ≡ true)
    → ok (first_of (refuse_if (not c) (suc k) ∷ (n ∷ []))) ≡ true
guarded-ok ok true k n z h f =
    first-met ok (0 ∷ (n ∷ [])) z (and_both (ok 0) (ok n && true) z (and_both (ok n) true (f refl) refl))
guarded-ok ok false k n z h f = ap ok (first-here (suc k) (n ∷ []) (λ e. omega arith)) ∙ h

-- the first of two, where the second is 0 if the first is
first-only : (m n : ℕ) → (m ≡ 0 → n ≡ 0) → first_of (m ∷ (n ∷ [])) ≡ m
unfolding first_of
first-only zero n h = rw (h refl)
first-only (suc m) n h = refl

-- the numbers of a list
abbrev pub among : List ℕ → ℕ → Bool
among ns n = any (eqb n) ns

-- a number of xs is one of ys, where all of xs are
pub among-more : (xs ys : List ℕ) → all (among ys) xs ≡ true → (n : ℕ) → among xs n ≡ true → among ys n ≡ true
among-more [] ys h n e = absurd (false≢true e)
among-more (x ∷ xs) ys h n e =
    ⊎_elim (λ q. rw (eqb-true n x q) (and_left (among ys x) (all (among ys) xs) h))
    (λ q. among-more xs ys (and_right (among ys x) (all (among ys) xs) h) n (rw q at e))
    (bool_cases (eqb n x))

-- those that a lane line may get, a `least` line, and a change on a sound wall
abbrev pub lane_numbers : List ℕ
lane_numbers = 0 ∷ (2 ∷ (16 ∷ []))

abbrev pub least_numbers : List ℕ
least_numbers = 0 ∷ (16 ∷ (18 ∷ []))

abbrev pub change_numbers : List ℕ
change_numbers = 0 ∷ (7 ∷ (8 ∷ (9 ∷ (10 ∷ (11 ∷ (12 ∷ (16 ∷ [])))))))

-- ---- a lane line

module _ (s : Session) (m : Chronon) (S : Stores) (g : Good s) (y : EightPartitions S) where
  -- its own checks
  check-met : among lane_numbers (lane_check s m.0) ≡ true
  unfolding lane_check
  check-met =
      first-met (among lane_numbers) _ refl
      (and_both _ _ (refuse-ok (among lane_numbers) s.complete 16 refl refl)
      (and_both _ _ (refuse-ok (among lane_numbers) (bad_lane s m.0) 2 refl refl) refl))

  -- past them the wall is opened where the plan is complete
  opening : ℕ
  opening = pick (eqb m.0 calendar_end) (open_number (plan_of (with_lane s m)) (wall_of (with_lane s m) S)) 0

  opens : lane_check s m.0 ≡ 0 → opening ≡ 0
  unfolding opening
  opens z = ⊎_elim last between (bool_cases (eqb m.0 calendar_end))
    where
      last : eqb m.0 calendar_end ≡ true → opening ≡ 0
      last e =
          let p = lane-passed s m.0 z in
          pick_true (eqb m.0 calendar_end) _ 0 e
          ∙ wall-open (with_lane s m) S (good-with s m g p.1 p.0) e y

      between : eqb m.0 calendar_end ≡ false → opening ≡ 0
      between e = pick-false (eqb m.0 calendar_end) _ 0 e

  -- so a lane line gets the number of its own checks
  pub lane-number-is : lane_number s m S ≡ lane_check s m.0
  unfolding lane_number opening
  lane-number-is = first-only (lane_check s m.0) opening opens

  pub lane-met : among lane_numbers (lane_number s m S) ≡ true
  lane-met = rw lane-number-is check-met

-- ---- a `least` line

pub least-met : (s : Session) (n : ℕ) → among least_numbers (least_check s n) ≡ true
unfolding least_check minimum_check
least-met s n =
    first-met (among least_numbers) _ refl
    (and_both _ _ (refuse-ok (among least_numbers) s.complete 16 refl refl)
    (and_both _ _ (refuse-ok (among least_numbers) (outside 1 most_minimum n) 18 refl refl) refl))

-- ---- a change that was read from a line

-- Checks 6, 7, 8 and 17: its label is legal, and its LAST has at most eight digits, so that its last minute lies in the
-- calendar and it gets no 17.
pub tuple-met : (ok : ℕ → Bool) → ok 0 ≡ true → ok 7 ≡ true → ok 8 ≡ true → (t : Tuple) → ChangeBounds t
    → ok (tuple_number t) ≡ true
unfolding tuple_number item_check valid_check
tuple-met ok z seven eight t b =
    let late : ok (refuse_if (ltb calendar_end (to t)) 17) ≡ true = rw (le-ltb calendar_end (to t) b.last) z in
    let span = and_both _ _ (refuse-ok ok (ltb (to t) (from t)) 8 z eight) (and_both _ _ late refl) in
    first-met ok _ z
    (and_both _ _ (ap ok b.label ∙ z)
    (and_both _ _ (refuse-ok ok (ltb item_end t.item) 7 z seven) (and_both _ _ (first-met ok _ z span) refl)))

module _ (ok : ℕ → Bool) (more : (n : ℕ) → among change_numbers n ≡ true → ok n ≡ true) where
  -- a call, where checks 1 to 5 give such a number
  module _ (p : Partitioning) (t : Tuple) (S : Stores) (l : ChangeBounds t)
      (e : ok (store_number p S) ≡ true) where
    two-met : (b c : Bool) (i j : ℕ) → ok i ≡ true → ok j ≡ true
        → ok (first_of (store_number p S ∷ (tuple_number t ∷ (refuse_if b i ∷ (refuse_if c j ∷ []))))) ≡ true
    two-met b c i j h k =
        first-met ok _ (more 0 refl)
        (and_both _ _ e
        (and_both _ _ (tuple-met ok (more 0 refl) (more 7 refl) (more 8 refl) t l)
        (and_both _ _ (refuse-ok ok b i (more 0 refl) h) (and_both _ _ (refuse-ok ok c j (more 0 refl) k) refl))))

    insert-met : (side : Side) → ok (insert_number p side t S) ≡ true
    unfolding insert_number
    insert-met side =
        two-met (full p t (own_store side S)) (overfull p S.rows (made p side t (other_store side S))) 9 10
        (more 9 refl) (more 10 refl)

    delete-met : (side : Side) → ok (delete_number p side t S) ≡ true
    unfolding delete_number
    delete-met side =
        two-met (not (any (same_tuple t) (stored_tuples p (own_store side S))))
        (lacks (stored_rows p S.rows) (made p side t (other_store side S))) 11 12
        (more 11 refl) (more 12 refl)

    call_met : (w : Word) → ok (call_number w p t S) ≡ true
    call_met DrawIn = insert-met Outer
    call_met DrawOut = delete-met Outer
    call_met SpotIn = insert-met Inner
    call_met SpotOut = delete-met Inner

  -- a change, where checks 1 to 5 of a complete plan do
  change-by : (s : Session) (w : Word) (t : Tuple) (S : Stores) → ChangeBounds t
      → (s.complete ≡ true → ok (store_number (plan_of s) (wall_of s S)) ≡ true) → ok (change_line_number s w t S) ≡ true
  unfolding change_line_number
  change-by s w t S l e =
      guarded-ok ok s.complete 15 (call_number w (plan_of s) t (wall_of s S)) (more 0 refl) (more 16 refl)
      (λ c. call_met (plan_of s) t (wall_of s S) l (e c) w)

module _ (s : Session) (w : Word) (t : Tuple) (S : Stores) (g : Good s) (y : EightPartitions S)
    (l : ChangeBounds t) where
  -- on any wall: 5 too
  pub change-met : among (5 ∷ change_numbers) (change_line_number s w t S) ≡ true
  change-met =
      change-by (among (5 ∷ change_numbers)) (λ n h. or_right (eqb n 5) (among change_numbers n) h) s w t S l
      (λ c.
      ap (among (5 ∷ change_numbers)) (stores-are (plan_of s) (wall_of s S))
      ∙ first-met (among (5 ∷ change_numbers)) _ refl
      (and_both _ _ (ap (among (5 ∷ change_numbers)) (wall-open s S g c y))
      (and_both _ _ (refuse-ok (among (5 ∷ change_numbers)) (not (sound (plan_of s) (wall_of s S))) 5 refl refl) refl)))

  -- on a sound wall
  pub change-sound : (s.complete ≡ true → sound (plan_of s) (wall_of s S) ≡ true)
      → among change_numbers (change_line_number s w t S) ≡ true
  unfolding first_of
  change-sound h =
      change-by (among change_numbers) (λ n q. q) s w t S l
      (λ c. ap (among change_numbers) (sound-number c))
    where
      sound-number : s.complete ≡ true → store_number (plan_of s) (wall_of s S) ≡ 0
      sound-number c = stores-are (plan_of s) (wall_of s S) ∙ rw (wall-open s S g c y, h c)

-- ---- a line

-- "The program can meet 2, 7 to 11, 15 and 16", and 18 of a `least` line (document 02, (f)); 5 and 12 only with a store
-- that others wrote in
abbrev pub step_numbers : List ℕ
step_numbers = 0 ∷ (2 ∷ (5 ∷ (7 ∷ (8 ∷ (9 ∷ (10 ∷ (11 ∷ (12 ∷ (15 ∷ (16 ∷ (18 ∷ [])))))))))))

-- the reader gives legal labels and numbers of at most eight digits
abbrev pub Bounded : Line → Type 0
Bounded (Lane m) = Unit {0}
Bounded (Least n) = Unit {0}
Bounded (Change w t) = ChangeBounds t
Bounded Malformed = Unit {0}

pub step-met : (s : Session) (line : Line) (S : Stores) → Good s → EightPartitions S → Bounded line
    → among step_numbers (step_number s line S) ≡ true
step-met s (Lane m) S g y l = among-more lane_numbers step_numbers refl (lane_number s m S) (lane-met s m S g y)
step-met s (Least n) S g y l = among-more least_numbers step_numbers refl (least_check s n) (least-met s n)
step-met s (Change w t) S g y l =
    among-more (5 ∷ change_numbers) step_numbers refl (change_line_number s w t S) (change-met s w t S g y l)
step-met s Malformed S g y l = refl

-- ---- every line that a session from `fresh` reads

-- stores as long as roomy ones
pub eight-partitions-as : (S S' : Stores) → SameLong S S' → EightPartitions S → EightPartitions S'
eight-partitions-as S S' l y = record {
  outer = omega (arith, l.outer, y.outer);
  inner = omega (arith, l.inner, y.inner);
  rows = omega (arith, l.rows, y.rows);
}

-- the lines that the reader gives
bounded-by : (line : Line) → ((w : Word) (t : Tuple) → line ≡ Change w t → ChangeBounds t) → Bounded line
bounded-by (Lane m) h = tt
bounded-by (Least n) h = tt
bounded-by (Change w t) h = h w t refl
bounded-by Malformed h = tt

pub bounded : (bs : List ℕ) → Bounded (line_of bs)
bounded bs = bounded-by (line_of bs) (line-change-bounds bs)

pub numbers-met : {S₀ : Stores} {s : Session} {S : Stores} → EightPartitions S₀ → Reached S₀ s S → (bs : List ℕ)
    → among step_numbers (step_number s (line_of bs) S) ≡ true
numbers-met {S₀ = S₀} {s = s} {S = S} y x bs =
    step-met s (line_of bs) S (reached-good x) (eight-partitions-as S₀ S (reached-long x) y) (bounded bs)
