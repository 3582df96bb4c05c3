-- Closed cases that compute: the check of a `least` line at the ends of its range, before the plan is complete and
-- after; and the minimum of a session, through lane lines and `least` lines.
-- Assumes nothing.
use mathlib.Core.List.{List, [], ◌∷◌, map}
use mathlib.Core.Path.{◌≡◌, refl}
use Prim.Native.Nat.{ℕ}
use Rattle.lists.specs.Choice.{first_of}
use Rattle.plan.specs.Plan.{minimum_check}
use Rattle.session_plan.specs.Lanes.{fresh, plan_of, with_lane, with_minimum, least_check}
use Rattle.session_plan.specs.declared.Session.{Session}

-- a lane up to 34, and the plan complete
abbrev begun : Session
begun = with_lane fresh (record { 0 = 34 })

abbrev done : Session
done = with_lane begun (record { 0 = 99999999 })

abbrev ends : List ℕ
ends = 0 ∷ (1 ∷ (1440 ∷ (1441 ∷ (99999999 ∷ []))))

-- 18 out of range; once the plan is complete 16 for each of them, so before 18
pub least-cases :
    (map (least_check fresh) ends ≡ 18 ∷ (0 ∷ (0 ∷ (18 ∷ (18 ∷ [])))))
    × (map (least_check begun) ends ≡ 18 ∷ (0 ∷ (0 ∷ (18 ∷ (18 ∷ [])))))
    × (map (least_check done) ends ≡ 16 ∷ (16 ∷ (16 ∷ (16 ∷ (16 ∷ [])))))
unfolding first_of minimum_check least_check
least-cases = (refl, refl, refl)

-- 1 at first; the last of two, between two lane lines, counts, and a lane line keeps it
pub minimum-cases :
    ((plan_of done).minimum ≡ 1)
    × ((plan_of (with_lane (with_minimum (with_minimum begun 30) 15) (record { 0 = 99999999 }))).minimum ≡ 15)
minimum-cases = (refl, refl)
