-- Lane lines: what may be the next lane, the check that answers, and the session with one lane more; and the check that
-- answers a `least` line.
-- Assumes nothing.
use mathlib.Core.Bool.{Bool, true, false, not, ◌&&◌, ◌||◌, and-false}
use mathlib.Core.List.{[]}
use mathlib.Core.Logic.{⊎_elim}
use mathlib.Core.Path.{◌≡◌, sym, ◌∙◌}
use Prim.Native.Nat.{ℕ, ◌-◌, ◌≤◌, ◌<◌}
use lib.Dec.{leb, ltb, eqb}
use lib.ListN.{get_or-map}
use borrow.Author.Tests.{leb-false, le-leb, lt-leb, lt-ltb, le-ltb, eq-eqb, ne_eqb, eqb-true, not-false}
use Rattle.lists.specs.Choice.{refuse_if, first_of}
use Rattle.lists.proofs.Choice.{and_both, or_left, or_right, or-none, or-neither-left, or-neither-right}
use Rattle.lists.proofs.Choice.{first-none, refuse-none, first_next, answer-last, pick_true, pick-false}
use Rattle.interval.specs.Time.{calendar_end}
use Rattle.interval.specs.declared.time.Chronon.{Chronon}
use Rattle.plan.specs.Plan.{most_minimum, minimum_check}
use Rattle.plan.proofs.Homes.{le-or-lt, minimum-is, read_at}
use Rattle.session_plan.specs.Lanes.{wall_partitions, with_lane, grown, last_cut, bad_lane, lane_check, least_check}
use Rattle.session_plan.specs.declared.Session.{Session}

-- the last minute of the lane before, as the code reads it
pub last-cut : (s : Session) → last_cut s ≡ read_at s.lasts (s.lanes - 1)
last-cut s = get_or-map (λ (m : Chronon). m.0) s.lasts (s.lanes - 1) (record { 0 = 0 })

-- ---- what may be the next lane

pub record NextLane (s : Session) (m : ℕ) : Type 0 where
  pub room : s.lanes < wall_partitions
  pub above : 0 < s.lanes → last_cut s < m
  pub eighth : 7 ≤ s.lanes → m ≡ calendar_end

-- the three conditions of `bad_lane`
abbrev low : Session → ℕ → Bool
low s m = ltb 0 s.lanes && leb m (last_cut s)

abbrev early : Session → ℕ → Bool
early s m = leb 7 s.lanes && not (eqb m calendar_end)

abbrev ninth : Session → Bool
ninth s = leb wall_partitions s.lanes

module _ (s : Session) (m : ℕ) where
  -- it may not: a ninth, one that is not above the one before, an eighth that is not the end
  pub bad-ninth : wall_partitions ≤ s.lanes → bad_lane s m ≡ true
  unfolding bad_lane
  bad-ninth h =
      or_right (low s m) (early s m || ninth s)
      (or_right (early s m) (ninth s) (le-leb wall_partitions s.lanes h))

  pub bad-low : 0 < s.lanes → m ≤ last_cut s → bad_lane s m ≡ true
  unfolding bad_lane
  bad-low h g =
      or_left (low s m) (early s m || ninth s)
      (and_both (ltb 0 s.lanes) (leb m (last_cut s)) (lt-ltb 0 s.lanes h) (le-leb m (last_cut s) g))

  pub bad-early : 7 ≤ s.lanes → (m ≡ calendar_end → ⊥) → bad_lane s m ≡ true
  unfolding bad_lane
  bad-early h g =
      or_right (low s m) (early s m || ninth s)
      (or_left (early s m) (ninth s) (rw (le-leb 7 s.lanes h, ne_eqb m calendar_end g)))

  -- it may
  not_low : (0 < s.lanes → last_cut s < m) → low s m ≡ false
  not_low h =
      ⊎_elim (λ g. rw (le-ltb 0 s.lanes g)) (λ g. rw (lt-ltb 0 s.lanes g, lt-leb m (last_cut s) (h g)))
      (le-or-lt s.lanes 0)

  not-early : (7 ≤ s.lanes → m ≡ calendar_end) → early s m ≡ false
  not-early h =
      ⊎_elim (λ g. rw (eq-eqb m calendar_end (h g), and-false)) (λ g. rw (lt-leb 7 s.lanes g))
      (le-or-lt 7 s.lanes)

  pub next-good : NextLane s m → bad_lane s m ≡ false
  unfolding bad_lane
  next-good n =
      or-none (low s m) (early s m || ninth s) (not_low n.above)
      (or-none (early s m) (ninth s) (not-early n.eighth) (lt-leb wall_partitions s.lanes n.room))

  -- and back
  low-none : low s m ≡ false → 0 < s.lanes → last_cut s < m
  low-none e h = leb-false m (last_cut s) (rw (lt-ltb 0 s.lanes h) at e)

  early-none : early s m ≡ false → 7 ≤ s.lanes → m ≡ calendar_end
  early-none e h = eqb-true m calendar_end (not-false (eqb m calendar_end) (rw (le-leb 7 s.lanes h) at e))

  pub good-next : bad_lane s m ≡ false → NextLane s m
  unfolding bad_lane
  good-next e =
      let f = or-neither-right (low s m) (early s m || ninth s) e in
      record {
        room = leb-false wall_partitions s.lanes (or-neither-right (early s m) (ninth s) f);
        above = low-none (or-neither-left (low s m) (early s m || ninth s) e);
        eighth = early-none (or-neither-left (early s m) (ninth s) f);
      }

  -- ---- the check that answers

  pub lane-late : s.complete ≡ true → 16 ≡ lane_check s m
  unfolding lane_check first_of
  lane-late e = rw e

  pub lane-bad : s.complete ≡ false → bad_lane s m ≡ true → 2 ≡ lane_check s m
  unfolding lane_check first_of
  lane-bad e h = rw (h, e)

  pub lane-good : s.complete ≡ false → NextLane s m → 0 ≡ lane_check s m
  unfolding lane_check first_of
  lane-good e n = rw (next-good n, e)

  -- a lane line that no check refuses
  pub lane-passed : lane_check s m ≡ 0 → (s.complete ≡ false) × NextLane s m
  unfolding lane_check
  lane-passed e =
      let a = first-none (refuse_if s.complete 16) _ e in
      let b = first-none (refuse_if (bad_lane s m) 2) [] a.1 in
      (refuse-none s.complete 15 a.0, good-next (refuse-none (bad_lane s m) 1 b.0))

-- ---- one lane more

-- what `with_lane` answers, where there is room and where there is none
pub lane-added : (s : Session) (m : Chronon) → s.lanes < wall_partitions → with_lane s m ≡ grown s m
lane-added s m h =
    sym (pick_true (ltb s.lanes wall_partitions) (with_lane s m) s (lt-ltb s.lanes wall_partitions h))

pub lane-beyond : (s : Session) (m : Chronon) → wall_partitions ≤ s.lanes → s ≡ grown s m
lane-beyond s m h =
    sym (pick-false (ltb s.lanes wall_partitions) (with_lane s m) s (le-ltb s.lanes wall_partitions h))

-- ---- a `least` line

module _ (s : Session) (n : ℕ) where
  -- the check that answers: 16 once the plan is complete, else the number's own
  pub least-late : s.complete ≡ true → 16 ≡ least_check s n
  unfolding least_check first_of
  least-late e = rw e

  pub least-open : (r : ℕ) → s.complete ≡ false → r ≡ minimum_check n → r ≡ least_check s n
  unfolding least_check
  least-open r e h = answer-last h ∙ sym (first_next (refuse_if s.complete 16) _ (rw e))

  -- a `least` line that no check refuses
  pub least-passed : least_check s n ≡ 0 → (s.complete ≡ false) × ((1 ≤ n) × (n ≤ most_minimum))
  unfolding least_check
  least-passed e =
      let a = first-none (refuse_if s.complete 16) _ e in
      let b = first-none (minimum_check n) [] a.1 in (
        refuse-none s.complete 15 a.0,
        minimum-is n b.0,
      )
