-- The sessions that steps reach from `fresh`: every step keeps what such sessions are like (`Good`, in `session_plan`,
-- where a complete one's plan is legal). So the plan's checks never refuse a change in such a session, and a ninth lane
-- never comes up.
-- Assumes nothing.
use mathlib.Core.Bool.{true, false}
use mathlib.Core.Logic.{⊎_elim}
use mathlib.Core.Path.{◌≡◌, sym, subst}
use lib.Dec.{eqb}
use borrow.Author.Tests.{eqb-true, eqb-false}
use Rattle.lists.proofs.Choice.{bool_cases, first-none}
use Rattle.checks.specs.Stores.{Stores}
use Rattle.lines.specs.declared.Line.{Line}
use Rattle.lines.specs.declared.Line.TheVariants.{Lane, Least, Change, Malformed}
use Rattle.session_plan.specs.Lanes.{fresh, lane_check}
use Rattle.session_plan.specs.declared.Session.{Session}
use Rattle.session_plan.proofs.Lanes.{lane-passed}
use Rattle.session_plan.proofs.Plans.{Good, good-fresh, good-with, good-least}
use Rattle.session.specs.Session.{lane_number, step_number, session_with, session_after, Stepped, stepped_to, SteppedBy}
use Rattle.session.proofs.Steps.{after-refused, after-accepted}

-- the sessions, and the stores with them, that steps reach from `fresh` and lent words S₀, which nobody else writes in
pub data Reached (S₀ : Stores) : Session → Stores → Type 0 where
  begun : Reached S₀ fresh S₀
  then : {s : Session} {S S' : Stores} {line : Line} {r : Stepped} → Reached S₀ s S → SteppedBy s line S S' r
      → Reached S₀ (stepped_to s r) S'

-- ---- a step, and every session reached

-- the session that an accepted line makes
accepted-good : (s : Session) (line : Line) (S : Stores) → Good s → step_number s line S ≡ 0 → Good (session_with s line)
unfolding lane_number
accepted-good s (Lane m) S g z =
    let p = lane-passed s m.0 (first-none (lane_check s m.0) _ z).0 in
    good-with s m g p.1 p.0
accepted-good s (Least n) S g z = good-least s n g z
accepted-good s (Change w t) S g z = g
accepted-good s Malformed S g z = g

pub good-after : (s : Session) (line : Line) (S : Stores) → Good s → Good (session_after s line S)
good-after s line S g = ⊎_elim accepted refused (bool_cases (eqb (step_number s line S) 0))
  where
    accepted : eqb (step_number s line S) 0 ≡ true → Good (session_after s line S)
    accepted e =
        let z = eqb-true (step_number s line S) 0 e in
        subst Good (sym (after-accepted s line S z)) (accepted-good s line S g z)

    refused : eqb (step_number s line S) 0 ≡ false → Good (session_after s line S)
    refused e = subst Good (sym (after-refused s line S (eqb-false (step_number s line S) 0 e))) g

pub good-step : (s : Session) (line : Line) (S S' : Stores) (r : Stepped) → Good s → SteppedBy s line S S' r
    → Good (stepped_to s r)
good-step s line S S' r g h = subst Good (sym h.session) (good-after s line S g)

pub reached-good : {S₀ : Stores} {s : Session} {S : Stores} → Reached S₀ s S → Good s
reached-good begun = good-fresh
reached-good (then {s = s} {S = S} {S' = S'} {line = line} {r = r} x h) = good-step s line S S' r (reached-good x) h
