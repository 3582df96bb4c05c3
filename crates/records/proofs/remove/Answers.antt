-- `records::remove` meets its contract: the last record's words go over record k, and are cleared where they are lent
-- (`removed-within`). Assumes nothing.
use mathlib.Core.List.{List}
use mathlib.Core.Path.{◌≡◌, ◌∙◌}
use Prim.Native.Nat.{ℕ, ◌+◌, ◌-◌, ◌≤◌, ◌<◌}
use native.Mathlib.Omega.{arith}
use lib.ListN.{length, length-set}
use Rattle.part.specs.Part.{room_of, counted}
use Rattle.part.proofs.Parts.{room-last}
use Rattle.records.proofs.Movers.{removed-within}
use Rattle.records.proofs.remove.Goals as goal

-- the last record lies within the part
inside : (w k : ℕ) (part : List ℕ) → k < counted part → room_of w (counted part) ≤ length part
    → room_of w (counted part - 1) + w ≤ length part
inside w k part h fits = omega (arith, room-last w (counted part) (omega arith))

pub overflow_sub-last : goal.overflow_sub-last
unfolding counted
overflow_sub-last c = omega arith

pub overflow_sub-part : goal.overflow_sub-part
unfolding counted
overflow_sub-part c = omega arith

pub overflow_mul-at : goal.overflow_mul-at
unfolding counted
overflow_mul-at c =
    omega (arith, inside c.args.width c.args.k c.args.part.now c.requires.k_bound c.requires.part_in_bounds)

pub overflow_add-at : goal.overflow_add-at
unfolding counted
overflow_add-at c =
    omega (arith, inside c.args.width c.args.k c.args.part.now c.requires.k_bound c.requires.part_in_bounds)

pub overflow_add-end : goal.overflow_add-end
unfolding counted
overflow_add-end c =
    omega (arith, inside c.args.width c.args.k c.args.part.now c.requires.k_bound c.requires.part_in_bounds)

pub copy_within-requires-clause-in_bounds : goal.copy_within-requires-clause-in_bounds
unfolding counted
copy_within-requires-clause-in_bounds c =
    simp length-set (inside c.args.width c.args.k c.args.part.now c.requires.k_bound c.requires.part_in_bounds)

pub offset_bounds-part-at : goal.offset_bounds-part-at
unfolding counted
offset_bounds-part-at c =
    omega (arith, inside c.args.width c.args.k c.args.part.now c.requires.k_bound c.requires.part_in_bounds)

pub slice_bounds-fill-end : goal.slice_bounds-fill-end
unfolding counted
slice_bounds-fill-end c =
    let long : length c.copy_within.new.self ≡ length c.args.part.now = c.copy_within.ensures.len ∙ simp length-set in
    omega (arith, inside c.args.width c.args.k c.args.part.now c.requires.k_bound c.requires.part_in_bounds, long)

pub returns : goal.returns
unfolding counted
returns c =
    removed-within c.args.width c.args.k c.args.part.now c.copy_within.new.self c.fill.new.self c.requires.k_bound
    c.requires.part_in_bounds c.copy_within.ensures.after (c.fill.ensures.after λ y e. e)
