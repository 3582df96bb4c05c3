-- `plan::home` meets its contract: the partition is the place of the first cut in use that the chronon is not past.
-- Assumes nothing.
use mathlib.Core.List.{List}
use mathlib.Core.Path.{◌≡◌, refl, ◌∙◌, sym, ap}
use Prim.Native.Nat.{ℕ, ◌≤◌, ◌<◌}
use native.Mathlib.Omega.{arith}
use lib.ListN.{take, length, length-take}
use borrow.Author.Tests.{tests}
use Rattle.std.proofs.Common.{rules}
use Rattle.std.proofs.lemmas.Iterator.{YieldsList-from_slice, IsFirst-from_position, index_from_first}
use Rattle.std.specs.Option.{unwrap_or}
use Rattle.interval.specs.declared.time.Chronon.{Chronon}
use Rattle.plan.specs.Plan.{numbers, cuts_of, home_of, home}
use Rattle.plan.proofs.Homes.{home_here, home-past}
use Rattle.plan.proofs.PlanLoops.{in-use-cuts}
use Rattle.plan.proofs.home.Goals as goal

pub returns : goal.returns
unfolding home cuts_of home_of
returns c =
    let m = c.args.m.0 in
    let used = take c.min-used.result c.args.p.lasts in
    let found = IsFirst-from_position _ _ c.position-found.result (λ (last : Chronon). m ≤ last.0) (λ last. last.0 < m)
    c.position-found.ensures.ran (YieldsList-from_slice used cc)
    (λ x q k. search (rules, tests)) (λ x q k. search (rules, tests)) in
    let home-is = index_from_first (λ (cs : List Chronon). home_of (numbers cs) m) (λ (last : Chronon). m ≤ last.0)
    (λ last. last.0 < m) refl
    (λ last cs g. home_here last.0 (numbers cs) m g)
    (λ last cs g. omega (arith, home-past last.0 (numbers cs) m g)) used c.position-found.result found in
    let long : length used ≡ c.min-used.result = rw length-take (omega (arith, c.min-used.ensures)) in
    let same-cuts : numbers used ≡ cuts_of c.args.p = in-use-cuts c.args.p.count c.min-used.result c.args.p.lasts
    (omega arith) (omega (arith, c.min-used.ensures)) in
    c.unwrap_or.ensures
    ∙ ap (unwrap_or c.position-found.result) (sym long)
    ∙ sym home-is
    ∙ ap (λ (cs : List ℕ). home_of cs m) same-cuts
