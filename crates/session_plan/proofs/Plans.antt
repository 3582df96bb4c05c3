-- What sessions that began with `fresh` are like (`Good`), that a lane more and an accepted `least` line keep it, and
-- that a complete one's plan is legal. So the plan's checks never refuse a change in such a session, and a ninth lane
-- never comes up. That every step keeps it is in `session`.
-- Assumes nothing.
use mathlib.Core.Bool.{Bool, true, false, ◌&&◌, true≢false}
use mathlib.Core.Logic.{⊎_elim}
use mathlib.Core.Path.{◌≡◌, refl, sym, ◌∙◌, ap, subst}
use Prim.Native.Nat.{ℕ, zero, suc, ◌+◌, ◌-◌, ◌≤◌, ◌<◌}
use native.Mathlib.Numerals.{add-one}
use native.Mathlib.Omega.{arith}
use lib.Dec.{ltb, eqb}
use lib.ListN.{length, length-set}
use lib.Seq.{get_or-set_same, get_or-set_other}
use borrow.Author.Tests.{lt-ltb, eqb-true, eqb-false, ltb-true, eq-eqb}
use Rattle.lists.proofs.Choice.{and_left, and_right}
use Rattle.interval.specs.Time.{calendar_end}
use Rattle.interval.specs.declared.time.Chronon.{Chronon}
use Rattle.plan.specs.Plan.{most_partitions, most_minimum, cuts_of, cover, plan_number}
use Rattle.plan.proofs.Homes.{le-or-lt, read_at}
use Rattle.plan.proofs.Homes.{plan-legal as legal-number}
use Rattle.plan.proofs.PlanLoops.{Rising, rising-start, rising_step, rising-end}
use Rattle.session_plan.specs.Lanes.{wall_partitions, fresh, plan_of, with_lane, with_minimum, last_cut, least_check}
use Rattle.session_plan.specs.declared.Session.{Session}
use Rattle.session_plan.proofs.Lanes.{last-cut, NextLane, least-passed}

-- the last minute of lane i, counted from 0
abbrev pub cut_at : Session → ℕ → ℕ
cut_at s i = read_at s.lasts i

pub record Good (s : Session) : Type 0 where
  pub places : length s.lasts ≡ most_partitions
  pub most : s.lanes ≤ wall_partitions
  -- each lane's last minute is above that of the lane before
  pub rises : (i : ℕ) → i + 1 < s.lanes → cut_at s i < cut_at s (i + 1)
  -- the plan is complete exactly if the last lane's is 99,999,999, and no lane's before it is
  pub ended : s.complete ≡ (ltb 0 s.lanes && eqb (last_cut s) calendar_end)
  pub before : (i : ℕ) → i + 1 < s.lanes → cut_at s i ≡ calendar_end → ⊥
  -- an eighth lane completes it
  pub eighth : wall_partitions ≤ s.lanes → s.complete ≡ true
  -- the minimum is a legal plan's
  pub minimum-least : 1 ≤ s.minimum
  pub minimum-most : s.minimum ≤ most_minimum

-- ---- at the start

pub good-fresh : Good fresh
good-fresh = record {
  places = refl;
  most = omega arith;
  rises = λ i h. absurd (omega arith);
  ended = refl;
  before = λ i h e. absurd (omega arith);
  eighth = λ h. absurd (omega arith);
  minimum-least = omega arith;
  minimum-most = omega arith;
}

-- ---- one lane more

module _ (s : Session) (m : Chronon) (g : Good s) (n : NextLane s m.0) where
  -- its places: the new one, and the others
  cut-new : cut_at (with_lane s m) s.lanes ≡ m.0
  cut-new =
      ap (λ (c : Chronon). c.0)
      (get_or-set_same s.lasts s.lanes m (record { 0 = 0 }) (omega (arith, g.places, n.room)))

  cut-old : (i : ℕ) → i < s.lanes → cut_at (with_lane s m) i ≡ cut_at s i
  cut-old i h =
      ap (λ (c : Chronon). c.0)
      (get_or-set_other s.lasts s.lanes i m (record { 0 = 0 }) (λ e. absurd (omega arith)))

  -- the lane before is not the end, and lies below
  unended : s.complete ≡ false → 0 < s.lanes → last_cut s ≡ calendar_end → ⊥
  unended u h =
      eqb-false (last_cut s) calendar_end
      (ap (λ (b : Bool). b && eqb (last_cut s) calendar_end) (sym (lt-ltb 0 s.lanes h)) ∙ sym g.ended ∙ u)

  -- lane i before the new one is the last, or an earlier one
  last-is : (i : ℕ) → i + 1 ≡ s.lanes → cut_at s i ≡ last_cut s
  last-is i e = let at : i ≡ s.lanes - 1 = omega arith in ap (cut_at s) at ∙ sym (last-cut s)

  new_is : (i : ℕ) → i + 1 ≡ s.lanes → cut_at (with_lane s m) (i + 1) ≡ m.0
  new_is i e = ap (cut_at (with_lane s m)) e ∙ cut-new

  new-rises : (i : ℕ) → i + 1 < s.lanes + 1 → cut_at (with_lane s m) i < cut_at (with_lane s m) (i + 1)
  new-rises i h = ⊎_elim last earlier (le-or-lt s.lanes (i + 1))
    where
      last : s.lanes ≤ i + 1 → cut_at (with_lane s m) i < cut_at (with_lane s m) (i + 1)
      last l =
          let e : i + 1 ≡ s.lanes = omega arith in
          omega (arith, cut-old i (omega arith), last-is i e, new_is i e, n.above (omega arith))

      earlier : i + 1 < s.lanes → cut_at (with_lane s m) i < cut_at (with_lane s m) (i + 1)
      earlier l = omega (arith, cut-old i (omega arith), cut-old (i + 1) l, g.rises i l)

  new-before : s.complete ≡ false → (i : ℕ) → i + 1 < s.lanes + 1 → cut_at (with_lane s m) i ≡ calendar_end → ⊥
  new-before u i h e = ⊎_elim last earlier (le-or-lt s.lanes (i + 1))
    where
      was : cut_at s i ≡ calendar_end
      was = sym (cut-old i (omega arith)) ∙ e

      last : s.lanes ≤ i + 1 → ⊥
      last l = unended u (omega arith) (sym (last-is i (omega arith)) ∙ was)

      earlier : i + 1 < s.lanes → ⊥
      earlier l = g.before i l was

  new-ended : eqb m.0 calendar_end ≡ (ltb 0 (s.lanes + 1) && eqb (last_cut (with_lane s m)) calendar_end)
  new-ended =
      let at : s.lanes + 1 - 1 ≡ s.lanes = omega arith in
      let last : last_cut (with_lane s m) ≡ m.0 = last-cut (with_lane s m) ∙ ap (cut_at (with_lane s m)) at ∙ cut-new in
      sym
      (ap (λ (b : Bool). b && eqb (last_cut (with_lane s m)) calendar_end) (lt-ltb 0 (s.lanes + 1) (omega arith))
      ∙ ap (λ (k : ℕ). eqb k calendar_end) last)

  pub good-with : s.complete ≡ false → Good (with_lane s m)
  good-with u = record {
    places = length-set s.lasts s.lanes m ∙ g.places;
    most = omega (arith, n.room);
    rises = new-rises;
    ended = new-ended;
    before = new-before u;
    eighth = λ h. eq-eqb m.0 calendar_end (n.eighth (omega arith));
    minimum-least = g.minimum-least;
    minimum-most = g.minimum-most;
  }

-- ---- another minimum

pub good-least : (s : Session) (n : ℕ) → Good s → least_check s n ≡ 0 → Good (with_minimum s n)
good-least s n g e =
    let p = least-passed s n e in
    record {
      places = g.places;
      most = g.most;
      rises = g.rises;
      ended = g.ended;
      before = g.before;
      eighth = g.eighth;
      minimum-least = p.1.0;
      minimum-most = p.1.1;
    }

-- ---- a complete session's plan is legal

module _ (s : Session) (g : Good s) (done : s.complete ≡ true) where
  ending : (ltb 0 s.lanes && eqb (last_cut s) calendar_end) ≡ true
  ending = sym g.ended ∙ done

  pub some_lane : 0 < s.lanes
  some_lane = ltb-true 0 s.lanes (and_left (ltb 0 s.lanes) (eqb (last_cut s) calendar_end) ending)

  pub last_end : last_cut s ≡ calendar_end
  last_end = eqb-true (last_cut s) calendar_end (and_right (ltb 0 s.lanes) (eqb (last_cut s) calendar_end) ending)

  -- its last minutes rise all the way
  climb : (i : ℕ) → i < s.lanes → Rising s.lasts s.lanes i
  climb zero h = rising-start s.lasts s.lanes g.places (omega (arith, g.most)) h
  climb (suc i) h =
      let at : i + 1 < s.lanes = omega arith in
      subst (Rising s.lasts s.lanes) (add-one i)
      (rising_step s.lasts s.lanes i (climb i (omega arith)) (omega arith) (g.rises i at))

  covered : cover (cuts_of (plan_of s)) ≡ true
  unfolding cuts_of
  covered =
      let i = s.lanes - 1 in
      sym (rising-end s.lasts s.lanes i (climb i (omega (arith, some_lane))) (omega arith))
      ∙ eq-eqb (cut_at s i) calendar_end (sym (last-cut s) ∙ last_end)

  pub plan-legal : plan_number (plan_of s) ≡ 0
  plan-legal =
      legal-number (plan_of s)
      (record {
        least = omega (arith, some_lane);
        most = omega (arith, g.most);
        covered = covered;
        tuples-least = omega arith;
        tuples-most = omega arith;
        rows-least = omega arith;
        rows-most = omega arith;
        minimum-least = g.minimum-least;
        minimum-most = g.minimum-most;
      })

-- one that is not complete has room for the lane that completes it
pub lane-left : (s : Session) → Good s → s.complete ≡ false → s.lanes < wall_partitions
lane-left s g u =
    ⊎_elim (λ l. absurd (true≢false (sym (g.eighth l) ∙ u))) (λ l. l) (le-or-lt wall_partitions s.lanes)
