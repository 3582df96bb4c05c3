-- Lines that a session took get the numbers that the definitions give, and leave what they say (`steps-agree`).
-- In order: a wall that agrees with a state; a line's number; what a refused line leaves, an accepted one; many lines.
-- Assumes nothing.
use mathlib.Core.Bool.{Bool, true, false, not, true≢false, false≢true}
use mathlib.Core.List.{List, [], ◌∷◌}
use mathlib.Core.Logic.{⊎_elim}
use mathlib.Core.Path.{◌≡◌, refl, sym, ◌∙◌, ap, ap₂, subst}
use Prim.Native.Nat.{ℕ}
use lib.Dec.{eqb}
use borrow.Author.Tests.{eqb-true, eqb-false, eq-eqb, ne_eqb}
use Rattle.lists.specs.Choice.{refuse_if, first_of}
use Rattle.lists.proofs.Choice.{bool_cases, pick_true, pick-false}
use Rattle.interval.specs.Time.{calendar_end}
use Rattle.interval.specs.declared.time.Chronon.{Chronon}
use Rattle.interval.specs.declared.tuple.Tuple.{Tuple}
use Rattle.plan.specs.declared.Partitioning.{Partitioning}
use Rattle.rows.specs.declared.Side.{Side}
use Rattle.refusal.specs.Refusal.{answer_number}
use Rattle.checks.specs.Stores.{Stores}
use Rattle.join.specs.declared.Kind.{Kind}
use Rattle.join.specs.declared.Kind.TheVariants.{Insert, Delete}
use Rattle.history.specs.Machine.{Machine}
use Rattle.history.proofs.Kept.{Kept, Done, told-accepted}
use Rattle.history.proofs.Answered.{insert-answered, delete-answered}
use Rattle.lines.specs.declared.Word.{Word}
use Rattle.lines.specs.declared.Line.{Line}
use Rattle.lines.specs.declared.Line.TheVariants.{Lane, Least, Change, Malformed}
use Rattle.session_plan.specs.Lanes.{plan_of, least_check}
use Rattle.session_plan.specs.declared.Session.{Session}
use Rattle.session_plan.proofs.Lanes.{lane-passed, least-passed}
use Rattle.session_plan.proofs.Plans.{Good, good-fresh, good-least}
use Rattle.session.specs.Session.{EightPartitions, wall_of, lane_number, kind_of, side_of, number_of}
use Rattle.session.specs.Session.{change_line_number, WallChanged, LaneTaken, step_number}
use Rattle.session.specs.Session.{Stepped, stepped_to, SteppedBy}
use Rattle.session.proofs.Steps.{after-accepted}
use Rattle.session.proofs.Lengths.{step-long}
use Rattle.session.proofs.Numbers.{lane-number-is, eight-partitions-as}
use Rattle.transcript.specs.Transcript.{call_of}
use Rattle.transcript.proofs.Holding.{change-complete, change-done, lane-checked, lane-after, blank-kept}
use Rattle.stream.specs.Taking.{Steps, none, then}
use Rattle.program_text.specs.Text.{State, begun, machine_of, call_answer, answer_to, holding, accepted, after}
use Rattle.program_text.specs.Text.{numbers_of, state_after}

-- ---- a wall that agrees with a state

pub record Agrees (st : State) (S : Stores) : Type 0 where
  pub good : Good st.session
  pub long : EightPartitions S
  -- before the plan is complete there are no drawings and no spots; after that the wall holds what the machine holds
  pub early : st.session.complete ≡ false → (st.outer ≡ []) × (st.inner ≡ [])
  pub late : st.session.complete ≡ true → Kept (machine_of st) (plan_of st.session) (wall_of st.session S)

pub agrees-begun : (S : Stores) → EightPartitions S → Agrees begun S
agrees-begun S y = record {
  good = good-fresh;
  long = y;
  early = λ e. (refl, refl);
  late = λ e. absurd (false≢true e);
}

-- ---- a line's number

call-answered : (k : Kind) (m : Machine) (p : Partitioning) (S : Stores) → Kept m p S → (side : Side) (t : Tuple)
    → number_of k p side t S ≡ call_answer k m side t
call-answered Insert m p S h side t = insert-answered m p S h side t
call-answered Delete m p S h side t = delete-answered m p S h side t

guarded : (c : Bool) (m n : ℕ) → (c ≡ true → m ≡ n)
    → first_of (refuse_if (not c) 16 ∷ (m ∷ [])) ≡ first_of (refuse_if (not c) 16 ∷ (n ∷ []))
unfolding first_of
guarded true m n h = rw (h refl)
guarded false m n h = refl

number_is : (st : State) (line : Line) (S : Stores) → Agrees st S → step_number st.session line S ≡ answer_to st line
unfolding change_line_number
number_is st (Lane m) S a = lane-number-is st.session m S a.good a.long
number_is st (Least minimum) S a = refl
number_is st (Change w t) S a =
    guarded st.session.complete _ _
    (λ c.
    call-answered (kind_of w) (machine_of st) (plan_of st.session) (wall_of st.session S) (a.late c) (side_of w) t)
number_is st Malformed S a = refl

-- ---- the state after a line that is refused, and after one that is accepted

after_same : (st : State) (line : Line) → (answer_to st line ≡ 0 → ⊥) → after st line ≡ st
unfolding after
after_same st line ne = pick-false (eqb (answer_to st line) 0) (accepted st line) st (ne_eqb (answer_to st line) 0 ne)

after-taken : (st : State) (line : Line) → answer_to st line ≡ 0 → after st line ≡ accepted st line
unfolding after
after-taken st line z = pick_true (eqb (answer_to st line) 0) (accepted st line) st (eq-eqb (answer_to st line) 0 z)

-- ---- what an accepted change leaves

module _ (st : State) (S S' : Stores) (a : Agrees st S) (w : Word) (t : Tuple)
    (z : change_line_number st.session w t S ≡ 0) (c : WallChanged st.session w t S S') where
  complete : st.session.complete ≡ true
  complete = change-complete st.session w t S z

  done : Done (machine_of st) (plan_of st.session) (wall_of st.session S) (call_of w t) (answer_number c.answer)
      (plan_of st.session) (wall_of st.session S')
  done = change-done st.session w t S S' (machine_of st) (a.late complete) c

  -- what the machine holds then
  state-is : accepted st (Change w t)
      ≡ record { session = st.session; outer = done.after.outer; inner = done.after.inner }
  state-is =
      ap (holding st)
      (sym (told-accepted (call_of w t) (answer_number c.answer) (machine_of st) c.number) ∙ done.machine)

  change-agrees : EightPartitions S' → Agrees (accepted st (Change w t)) S'
  change-agrees y =
      let wall = wall_of st.session S' in
      let plan-is : done.after
      ≡ record { plan = plan_of st.session; outer = done.after.outer; inner = done.after.inner } =
      ap (λ (p : Partitioning). record { plan = p; outer = done.after.outer; inner = done.after.inner })
      (sym done.kept.in_force) in
      subst (λ (u : State). Agrees u S') (sym state-is)
      (record {
        good = a.good;
        long = y;
        early = λ u. absurd (true≢false (sym complete ∙ u));
        late = λ u. subst (λ (m : Machine). Kept m (plan_of st.session) wall) plan-is done.kept;
      })

-- ---- what an accepted lane line leaves

lane-agrees : (st : State) (S S' : Stores) → Agrees st S → (m : Chronon) → lane_number st.session m S ≡ 0
    → LaneTaken st.session m S S' → EightPartitions S' → Agrees (accepted st (Lane m)) S'
lane-agrees st S S' a m z taken y =
    let s = st.session in
    let none = a.early (lane-passed s m.0 (lane-checked s m S z)).0 in
    record {
      good = lane-after s m S z a.good;
      long = y;
      early = λ u. none;
      late = λ c. rw (none.0, none.1) (blank-kept s m S z S' a.good taken (eqb-true m.0 calendar_end c));
    }

-- ---- what an accepted `least` line leaves: every word as it was, and the plan is not complete

least-agrees : (st : State) (S S' : Stores) → Agrees st S → (minimum : ℕ) → least_check st.session minimum ≡ 0
    → S' ≡ S → Agrees (accepted st (Least minimum)) S'
least-agrees st S S' a minimum z same =
    let s = st.session in
    let open-yet = (least-passed s minimum z).0 in
    record {
      good = good-least s minimum a.good z;
      long = rw same a.long;
      early = λ u. a.early open-yet;
      late = λ c. absurd (true≢false (sym c ∙ open-yet));
    }

-- ---- what a line leaves

-- the state after it, and that the wall agrees with that
pub record Leaves (st : State) (line : Line) (S' : Stores) (r : Stepped) : Type 0 where
  pub session : stepped_to st.session r ≡ (after st line).session
  pub agrees : Agrees (after st line) S'

module _ (st : State) (S S' : Stores) (a : Agrees st S) where
  accepted-agrees : (line : Line) (r : Stepped) → SteppedBy st.session line S S' r → answer_number r ≡ 0
      → EightPartitions S' → (stepped_to st.session r ≡ (accepted st line).session) × Agrees (accepted st line) S'
  accepted-agrees (Lane m) r b z y =
      let n = sym b.number ∙ z in
      (b.session ∙ after-accepted st.session (Lane m) S n, lane-agrees st S S' a m n (b.accepted z) y)
  accepted-agrees (Least minimum) r b z y =
      let n = sym b.number ∙ z in
      (b.session ∙ after-accepted st.session (Least minimum) S n, least-agrees st S S' a minimum n (b.accepted z))
  accepted-agrees (Change w t) r b z y =
      let n = sym b.number ∙ z in (
        b.session
            ∙ after-accepted st.session (Change w t) S n
            ∙ sym (ap (λ (u : State). u.session) (state-is st S S' a w t n (b.accepted z))),
        change-agrees st S S' a w t n (b.accepted z) y,
      )
  accepted-agrees Malformed r b z y = absurd (b.accepted z)

  line-leaves : (line : Line) (r : Stepped) → SteppedBy st.session line S S' r → Leaves st line S' r
  line-leaves line r b = ⊎_elim zero more (bool_cases (eqb (answer_number r) 0))
    where
      zero : eqb (answer_number r) 0 ≡ true → Leaves st line S' r
      zero e =
          let z = eqb-true (answer_number r) 0 e in
          let y = eight-partitions-as S S' (step-long st.session line S S' r a.good b) a.long in
          let h = accepted-agrees line r b z y in
          let is = after-taken st line (sym (number_is st line S a) ∙ sym b.number ∙ z) in
          record {
            session = h.0 ∙ ap (λ (u : State). u.session) (sym is);
            agrees = subst (λ (u : State). Agrees u S') (sym is) h.1;
          }

      more : eqb (answer_number r) 0 ≡ false → Leaves st line S' r
      more e =
          let ne = eqb-false (answer_number r) 0 e in
          let is = after_same st line (λ z. ne (b.number ∙ number_is st line S a ∙ z)) in
          let h = b.refused ne in
          record {
            session = h.0 ∙ ap (λ (u : State). u.session) (sym is);
            agrees = subst (λ (u : State). Agrees u S') (sym is) (subst (Agrees st) (sym h.1) a);
          }

-- ---- many lines

pub record Agreed (st : State) (lines : List Line) (ns : List ℕ) (s : Session) (S : Stores) : Type 0 where
  pub numbers : ns ≡ numbers_of st lines
  pub session : s ≡ (state_after st lines).session
  pub agrees : Agrees (state_after st lines) S

pub steps-agree : {s s' : Session} {S S' : Stores} {lines : List Line} {ns : List ℕ} (st : State) → s ≡ st.session
    → Agrees st S → Steps s S lines ns s' S' → Agreed st lines ns s' S'
steps-agree st e a none = record { numbers = refl; session = e; agrees = a }
steps-agree st e a (then {s = s} {S = S} {S' = S'} {line = line} {lines = lines} {r = r} b x) =
    let b' = subst (λ (v : Session). SteppedBy v line S S' r) e b in
    let h = line-leaves st S S' a line r b' in
    let g = steps-agree (after st line) (ap (λ (v : Session). stepped_to v r) e ∙ h.session) h.agrees x in
    record {
      numbers = ap₂ (λ (n : ℕ) (ns : List ℕ). n ∷ ns) (b'.number ∙ number_is st line S a) g.numbers;
      session = g.session;
      agrees = g.agrees;
    }
