-- A step's answer: a line that is refused, one that is accepted, and each kind of line.
-- Assumes nothing.
use mathlib.Core.Path.{◌≡◌, refl, sym, ◌∙◌, subst}
use Prim.Native.Nat.{ℕ}
use lib.Dec.{eqb}
use borrow.Author.Tests.{eq-eqb, ne_eqb}
use Rattle.lists.proofs.Choice.{pick_true, pick-false, answer-last}
use Rattle.interval.specs.Time.{calendar_end}
use Rattle.interval.specs.declared.time.Chronon.{Chronon}
use Rattle.interval.specs.declared.tuple.Tuple.{Tuple}
use Rattle.std.specs.Prelude.{Ok, Err}
use Rattle.refusal.specs.Refusal.{number, answer_number}
use Rattle.refusal.specs.declared.Refusal.{Refusal}
use Rattle.refusal.specs.declared.Refusal.TheVariants as refused
use Rattle.refusal.proofs.Answering.{number-above, refused-here, passed-next}
use Rattle.checks.specs.Stores.{Stores}
use Rattle.lines.specs.declared.Word.{Word}
use Rattle.lines.specs.declared.Line.{Line}
use Rattle.lines.specs.declared.Line.TheVariants.{Lane, Least, Change, Malformed}
use Rattle.session_plan.specs.Lanes.{with_lane, grown, with_minimum, lane_check, least_check}
use Rattle.session_plan.specs.declared.Session.{Session}
use Rattle.session_plan.proofs.Lanes.{lane-passed, lane-added}
use Rattle.session.specs.Session.{lane_number, step_number, session_with}
use Rattle.session.specs.Session.{session_after, Taken, Stepped, SteppedBy, WallOpening, WallChanging}

-- ---- the session after a line that is refused, and after one that is accepted

pub after-refused : (s : Session) (line : Line) (S : Stores) → (step_number s line S ≡ 0 → ⊥) → session_after s line S ≡ s
unfolding session_after
after-refused s line S h =
    pick-false (eqb (step_number s line S) 0) (session_with s line) s (ne_eqb (step_number s line S) 0 h)

pub after-accepted : (s : Session) (line : Line) (S : Stores) → step_number s line S ≡ 0
    → session_after s line S ≡ session_with s line
unfolding session_after
after-accepted s line S h =
    pick_true (eqb (step_number s line S) 0) (session_with s line) s (eq-eqb (step_number s line S) 0 h)

-- ---- a step

pub step-refused : (s : Session) (line : Line) (S S' : Stores) (r : Stepped) (refusal : Refusal)
    → answer_number r ≡ number refusal → number refusal ≡ step_number s line S → S' ≡ S → SteppedBy s line S S' r
step-refused s line S S' (Ok next) refusal a e k = absurd (number-above refusal (sym a))
step-refused s line S S' (Err other) refusal a e k = record {
  number = a ∙ e;
  session = sym (after-refused s line S (λ z. number-above refusal (e ∙ z)));
  refused = λ _. (refl, k);
  accepted = λ z. absurd (number-above other z);
}

pub step-accepted : (s : Session) (line : Line) (S S' : Stores) (after : Session) → 0 ≡ step_number s line S
    → after ≡ session_with s line → Taken s line S S' → SteppedBy s line S S' (Ok after)
step-accepted s line S S' after e a t = record {
  number = e;
  session = a ∙ sym (after-accepted s line S (sym e));
  refused = λ ne. absurd (ne refl);
  accepted = λ _. t;
}

-- the step of an equal line
pub step-as : (s : Session) (line l : Line) (S S' : Stores) (r : Stepped) → line ≡ l → SteppedBy s l S S' r
    → SteppedBy s line S S' r
step-as s line l S S' r e h = subst (λ (k : Line). SteppedBy s k S S' r) (sym e) h

-- ---- a line that is not of the form

pub malformed-step : (s : Session) (S : Stores) → SteppedBy s Malformed S S (Err refused.Malformed)
malformed-step s S = step-refused s Malformed S S (Err refused.Malformed) refused.Malformed refl refl refl

-- ---- a change

module _ (s : Session) (w : Word) (t : Tuple) (S S' : Stores) where
  pub change-refused : (r : Stepped) (refusal : Refusal) → answer_number r ≡ number refusal
      → WallChanging s w t S S' (number refusal) → SteppedBy s (Change w t) S S' r
  change-refused r refusal a h =
      step-refused s (Change w t) S S' r refusal a h.number (h.refused (number-above refusal))

  pub change-step : WallChanging s w t S S' 0 → SteppedBy s (Change w t) S S' (Ok s)
  change-step h = step-accepted s (Change w t) S S' s h.number refl (h.accepted refl)

-- ---- a `least` line

module _ (s : Session) (minimum : ℕ) (S : Stores) where
  pub least-refused : (r : Stepped) (refusal : Refusal) → answer_number r ≡ number refusal
      → number refusal ≡ least_check s minimum → SteppedBy s (Least minimum) S S r
  least-refused r refusal a e = step-refused s (Least minimum) S S r refusal a e refl

  pub least_step : 0 ≡ least_check s minimum → (after : Session) → after ≡ with_minimum s minimum
      → SteppedBy s (Least minimum) S S (Ok after)
  least_step z after w = step-accepted s (Least minimum) S S after z w refl

-- ---- a lane line

module _ (s : Session) (m : Chronon) (S : Stores) where
  -- refused by its own checks
  pub lane-refused : (r : Stepped) (refusal : Refusal) → answer_number r ≡ number refusal
      → number refusal ≡ lane_check s m.0 → SteppedBy s (Lane m) S S r
  unfolding lane_number
  lane-refused r refusal a e = step-refused s (Lane m) S S r refusal a (refused-here refusal _ refl e) refl

  -- past them: the session that `with_lane` gives is the one with the lane
  module _ (z : 0 ≡ lane_check s m.0) (after : Session) (w : after ≡ grown s m) where
    with_it : after ≡ with_lane s m
    with_it = w ∙ sym (lane-added s m (lane-passed s m.0 (sym z)).1.room)

    -- a lane that does not complete the plan
    pub lane-between : (m.0 ≡ calendar_end → ⊥) → SteppedBy s (Lane m) S S (Ok after)
    unfolding lane_number
    lane-between ne =
        step-accepted s (Lane m) S S after
        (passed-next _ z (answer-last (sym (pick-false (eqb m.0 calendar_end) _ 0 (ne_eqb m.0 calendar_end ne)))))
        with_it
        (record { between = λ _. refl; completing = λ q. absurd (ne q) })

    -- one that does: the wall is opened
    module _ (c : m.0 ≡ calendar_end) (S' : Stores) (k : ℕ) (h : WallOpening after S S' k) where
      opening : WallOpening (with_lane s m) S S' k
      opening = subst (λ (v : Session). WallOpening v S S' k) with_it h

      number_is : k ≡ lane_number s m S
      unfolding lane_number
      number_is =
          passed-next _ z
          (answer-last
          (opening.number ∙ sym (pick_true (eqb m.0 calendar_end) _ 0 (eq-eqb m.0 calendar_end c))))

      pub lane-unopened : (r : Stepped) (refusal : Refusal) → answer_number r ≡ number refusal → k ≡ number refusal
          → SteppedBy s (Lane m) S S' r
      lane-unopened r refusal a q =
          step-refused s (Lane m) S S' r refusal a (sym q ∙ number_is)
          (opening.refused (λ n. number-above refusal (sym q ∙ n)))

      pub lane-completing : k ≡ 0 → SteppedBy s (Lane m) S S' (Ok after)
      lane-completing q =
          step-accepted s (Lane m) S S' after (sym q ∙ number_is) with_it
          (record { between = λ ne. absurd (ne c); completing = λ _. opening.accepted q })
