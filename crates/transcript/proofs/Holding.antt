-- What every line keeps (`Holding`): before the plan is complete the machine was told of no accepted call; after that
-- the wall holds what the machine holds. In order: at the start; a line that is refused, or tells nothing; a change; a
-- `least` line; a lane line; every transcript (`holding`).
-- Assumes nothing.
use mathlib.Core.Bool.{true, false, not, true≢false, false≢true}
use mathlib.Core.List.{List, [], ◌∷◌}
use mathlib.Core.Logic.{⊎_elim}
use mathlib.Core.Option.{Option, some}
use mathlib.Core.Path.{◌≡◌, refl, sym, ◌∙◌, ap}
use Prim.Native.Nat.{ℕ}
use native.Mathlib.Omega.{arith}
use lib.Dec.{eqb}
use borrow.Author.Tests.{eqb-true, eqb-false, eq-eqb, not-false}
use Rattle.std.specs.Prelude.{Ok}
use Rattle.lists.specs.Choice.{pick, refuse_if}
use Rattle.lists.proofs.Choice.{bool_cases, first-none, refuse-none, pick_true}
use Rattle.interval.specs.Time.{calendar_end}
use Rattle.interval.specs.declared.time.Chronon.{Chronon}
use Rattle.interval.specs.declared.tuple.Tuple.{Tuple}
use Rattle.plan.specs.declared.Partitioning.{Partitioning}
use Rattle.checks.specs.Stores.{Stores, open_number}
use Rattle.join.specs.Opening.{Opened}
use Rattle.refusal.specs.Refusal.{answer_number}
use Rattle.checks.specs.Answer.{Answer}
use Rattle.history.specs.Machine.{Call, Told, Machine, told, machine_after}
use Rattle.history.specs.Runs.{Step, inserted, deleted}
use Rattle.history.specs.KeptCurrent.{Untouched, Owed}
use Rattle.history.proofs.Kept.{Kept, Done, told-refused}
use Rattle.history.proofs.Current.{first, opened-kept, step-done, machine-next}
use Rattle.lines.specs.Line.{line_of}
use Rattle.lines.specs.declared.Word.{Word}
use Rattle.lines.specs.declared.Word.TheVariants.{DrawIn, DrawOut, SpotIn, SpotOut}
use Rattle.lines.specs.declared.Line.{Line}
use Rattle.lines.specs.declared.Line.TheVariants.{Lane, Least, Change, Malformed}
use Rattle.session_plan.specs.Lanes.{fresh, plan_of, with_lane, with_minimum, lane_check, least_check}
use Rattle.session_plan.specs.declared.Session.{Session}
use Rattle.session_plan.proofs.Lanes.{lane-passed, least-passed}
use Rattle.session_plan.proofs.Plans.{Good, plan-legal}
use Rattle.session.specs.Session.{wall_of, lane_number, Called, change_line_number, WallChanged, LaneTaken}
use Rattle.session.specs.Session.{Stepped, stepped_to, SteppedBy}
use Rattle.session.proofs.Steps.{after-accepted}
use Rattle.session.proofs.Reached.{Reached, good-after, reached-good, begun as reached-start, then as reached-next}
use Rattle.transcript.specs.Transcript.{call_of, heard, Transcript, begun, then}

pub record Holding (ts : List Told) (s : Session) (S : Stores) : Type 0 where
  -- of whatever plan, the machine is still empty
  pub early : s.complete ≡ false → (p : Partitioning) → machine_after p ts ≡ some (first p)
  -- the machine that began with the plan has not failed, and the wall holds what it holds
  pub late : s.complete ≡ true
      → (m : Machine) × (machine_after (plan_of s) ts ≡ some m) × Kept m (plan_of s) (wall_of s S)

holding-fresh : (S : Stores) → Holding [] fresh S
holding-fresh S = record { early = λ e p. refl; late = λ e. absurd (false≢true e) }

-- ---- a line that is refused, and tells nothing

holding-same : (ts : List Told) (s s' : Session) (S S' : Stores) → Holding ts s S → (s' ≡ s) × (S' ≡ S)
    → Holding ts s' S'
holding-same ts s s' S S' h e = rw (e.0, e.1) h

-- ---- a change

-- the machine is told of a refused call
holding-told : (c : Call) (n : ℕ) (ts : List Told) (s : Session) (S : Stores) → (n ≡ 0 → ⊥) → Holding ts s S
    → Holding (record { call = c; number = n } ∷ ts) s S
holding-told c n ts s S ne h = record {
  early = λ e p.
      machine-next p (record { call = c; number = n }) ts (first p) (first p) (h.early e p)
      (told-refused c n (first p) ne);
  late = λ e.
      let k = h.late e in (
        k.0,
        machine-next (plan_of s) (record { call = c; number = n }) ts k.0 k.0 k.1 (told-refused c n k.0 ne),
        k.2,
      );
}

-- the call that a word asks for is one of demand 3
pub called-step : (w : Word) (p : Partitioning) (t : Tuple) (S S' : Stores) (a : Answer) → Called w p t S S' a
    → Step p S (call_of w t) a p S'
called-step DrawIn p t S S' a h = inserted h
called-step DrawOut p t S S' a h = deleted h
called-step SpotIn p t S S' a h = inserted h
called-step SpotOut p t S S' a h = deleted h

-- what is owed of it
owed-frame : (w : Word) (t : Tuple) (p p' : Partitioning) (s s' : Stores) (n : ℕ) (after : Option Machine)
    → Owed p s (call_of w t) n p' s' after → n ≡ 0 → Untouched p t s.rows s'.rows
owed-frame DrawIn t p p' s s' n after o = o
owed-frame DrawOut t p p' s s' n after o = o
owed-frame SpotIn t p p' s s' n after o = o
owed-frame SpotOut t p p' s s' n after o = o

-- an accepted change comes after the plan is complete
pub change-complete : (s : Session) (w : Word) (t : Tuple) (S : Stores) → change_line_number s w t S ≡ 0
    → s.complete ≡ true
unfolding change_line_number
change-complete s w t S z =
    not-false s.complete
    (refuse-none (not s.complete) 15 (first-none (refuse_if (not s.complete) 16) _ z).0)

-- and on a wall that holds what a machine holds, it leaves what the machine makes of it, and its frame
module _ (s : Session) (w : Word) (t : Tuple) (S S' : Stores) (m : Machine) (k : Kept m (plan_of s) (wall_of s S))
    (c : WallChanged s w t S S') where
  pub change-done : Done m (plan_of s) (wall_of s S) (call_of w t) (answer_number c.answer) (plan_of s) (wall_of s S')
  change-done = step-done m k (called-step w (plan_of s) t (wall_of s S) (wall_of s S') c.answer c.wall)

  pub change-frame : Untouched (plan_of s) t (wall_of s S).rows (wall_of s S').rows
  change-frame = owed-frame w t (plan_of s) (plan_of s) (wall_of s S) (wall_of s S') _ _ change-done.owed c.number

module _ (s : Session) (w : Word) (t : Tuple) (S S' : Stores) (ts : List Told) (h : Holding ts s S) where
  change-kept : WallChanged s w t S S' → s.complete ≡ true → (n : ℕ) → n ≡ 0
      → (m : Machine) × (machine_after (plan_of s) (record { call = call_of w t; number = n } ∷ ts) ≡ some m)
      × Kept m (plan_of s) (wall_of s S')
  change-kept c e n z =
      let k = h.late e in
      let d = change-done s w t S S' k.0 k.2 c in
      let same : n ≡ answer_number c.answer = z ∙ sym c.number in (
        d.after,
        machine-next (plan_of s) (record { call = call_of w t; number = n }) ts k.0 d.after k.1
            (ap (λ (i : ℕ). told (record { call = call_of w t; number = i }) k.0) same ∙ d.machine),
        d.kept,
      )

  holding-change : (r : Stepped) → SteppedBy s (Change w t) S S' r
      → Holding (record { call = call_of w t; number = answer_number r } ∷ ts) (stepped_to s r) S'
  holding-change r b = ⊎_elim accepted refused (bool_cases (eqb (answer_number r) 0))
    where
      Goal : Type 0
      Goal = Holding (record { call = call_of w t; number = answer_number r } ∷ ts) (stepped_to s r) S'

      accepted : eqb (answer_number r) 0 ≡ true → Goal
      accepted e =
          let z = eqb-true (answer_number r) 0 e in
          let n = sym b.number ∙ z in
          let is : stepped_to s r ≡ s = b.session ∙ after-accepted s (Change w t) S n in
          rw is
          (record {
            early = λ u. absurd (true≢false (sym (change-complete s w t S n) ∙ u));
            late = λ c. change-kept (b.accepted z) c (answer_number r) z;
          })

      refused : eqb (answer_number r) 0 ≡ false → Goal
      refused e =
          let ne = eqb-false (answer_number r) 0 e in
          holding-same _ s (stepped_to s r) S S' (holding-told (call_of w t) (answer_number r) ts s S ne h)
          (b.refused ne)

-- ---- a `least` line

-- an accepted one comes before the plan is complete, and leaves the stores
module _ (s : Session) (n : ℕ) (S S' : Stores) (ts : List Told) (h : Holding ts s S) where
  holding-with : least_check s n ≡ 0 → Holding ts (with_minimum s n) S'
  holding-with z =
      let u = (least-passed s n z).0 in
      record { early = λ _. h.early u; late = λ c. absurd (true≢false (sym c ∙ u)) }

  holding-least : (r : Stepped) → SteppedBy s (Least n) S S' r → Holding ts (stepped_to s r) S'
  holding-least r b = ⊎_elim accepted refused (bool_cases (eqb (answer_number r) 0))
    where
      accepted : eqb (answer_number r) 0 ≡ true → Holding ts (stepped_to s r) S'
      accepted e =
          let z = sym b.number ∙ eqb-true (answer_number r) 0 e in
          let is : stepped_to s r ≡ with_minimum s n = b.session ∙ after-accepted s (Least n) S z in
          rw is (holding-with z)

      refused : eqb (answer_number r) 0 ≡ false → Holding ts (stepped_to s r) S'
      refused e = holding-same ts s (stepped_to s r) S S' h (b.refused (eqb-false (answer_number r) 0 e))

-- ---- a lane line

-- an accepted one: its own checks passed, and the session with the lane is one that steps reach
module _ (s : Session) (m : Chronon) (S : Stores) (z : lane_number s m S ≡ 0) where
  pub lane-checked : lane_check s m.0 ≡ 0
  unfolding lane_number
  lane-checked = (first-none (lane_check s m.0) _ z).0

  pub lane-after : Good s → Good (with_lane s m)
  lane-after g = rw (after-accepted s (Lane m) S z) at (good-after s (Lane m) S g)

  opens : m.0 ≡ calendar_end → open_number (plan_of (with_lane s m)) (wall_of (with_lane s m) S) ≡ 0
  unfolding lane_number
  opens e =
      let n = open_number (plan_of (with_lane s m)) (wall_of (with_lane s m) S) in
      sym (pick_true (eqb m.0 calendar_end) n 0 (eq-eqb m.0 calendar_end e))
      ∙ (first-none (pick (eqb m.0 calendar_end) n 0) [] (first-none (lane_check s m.0) _ z).1).0

  -- completing the plan, it opens the wall, which then holds what the first machine holds: nothing
  pub blank-kept : (S' : Stores) → Good s → LaneTaken s m S S' → m.0 ≡ calendar_end
      → Kept (first (plan_of (with_lane s m))) (plan_of (with_lane s m)) (wall_of (with_lane s m) S')
  blank-kept S' g taken e =
      let v = with_lane s m in
      let good = lane-after g in
      let a : Answer = Ok (record { changed = 0; examined = 0 }) in
      let o : Opened (plan_of v) (wall_of v S) (wall_of v S') a = record {
        number = sym (opens e);
        changed = refl;
        examined = refl;
        refused = λ ne. absurd (ne refl);
        accepted = λ q. (taken.completing e).wall;
      } in
      opened-kept (plan_of v) good.places (plan-legal v good (eq-eqb m.0 calendar_end e)) (wall_of v S)
      (wall_of v S') a o refl

module _ (s : Session) (m : Chronon) (S S' : Stores) (ts : List Told) (g : Good s) (h : Holding ts s S) where
  holding-taken : lane_number s m S ≡ 0 → LaneTaken s m S S' → Holding ts (with_lane s m) S'
  holding-taken z taken =
      let p = plan_of (with_lane s m) in
      let before = h.early (lane-passed s m.0 (lane-checked s m S z)).0 in
      record {
        early = λ u. before;
        late = λ c. (first p, before p, blank-kept s m S z S' g taken (eqb-true m.0 calendar_end c));
      }

  holding-lane : (r : Stepped) → SteppedBy s (Lane m) S S' r → Holding ts (stepped_to s r) S'
  holding-lane r b = ⊎_elim accepted refused (bool_cases (eqb (answer_number r) 0))
    where
      accepted : eqb (answer_number r) 0 ≡ true → Holding ts (stepped_to s r) S'
      accepted e =
          let z = eqb-true (answer_number r) 0 e in
          let n = sym b.number ∙ z in
          let is : stepped_to s r ≡ with_lane s m = b.session ∙ after-accepted s (Lane m) S n in
          rw is (holding-taken n (b.accepted z))

      refused : eqb (answer_number r) 0 ≡ false → Holding ts (stepped_to s r) S'
      refused e = holding-same ts s (stepped_to s r) S S' h (b.refused (eqb-false (answer_number r) 0 e))

-- ---- every transcript

holding-step : (s : Session) (line : Line) (S S' : Stores) (ts : List Told) (r : Stepped) → Good s → Holding ts s S
    → SteppedBy s line S S' r → Holding (heard line (answer_number r) ts) (stepped_to s r) S'
holding-step s (Lane m) S S' ts r g h b = holding-lane s m S S' ts g h r b
holding-step s (Least n) S S' ts r g h b = holding-least s n S S' ts h r b
holding-step s (Change w t) S S' ts r g h b = holding-change s w t S S' ts h r b
holding-step s Malformed S S' ts r g h b =
    holding-same ts s (stepped_to s r) S S' h (b.refused (λ z. absurd (omega (arith, b.number))))

-- the session and the stores are among those that steps reach
pub reached : {S₀ : Stores} {ns : List ℕ} {ts : List Told} {s : Session} {S : Stores} → Transcript S₀ ns ts s S
    → Reached S₀ s S
reached begun = reached-start
reached (then bytes x b) = reached-next (reached x) b

pub holding : {S₀ : Stores} {ns : List ℕ} {ts : List Told} {s : Session} {S : Stores} → Transcript S₀ ns ts s S
    → Holding ts s S
holding {S₀ = S₀} begun = holding-fresh S₀
holding (then {ts = ts} {s = s} {S = S} {S' = S'} {r = r} bytes x b) =
    holding-step s (line_of bytes) S S' ts r (reached-good (reached x)) (holding x) b
