-- `store::tuple_room` meets its contract: a legal plan's capacity is small.
-- Assumes nothing.
use native.Mathlib.Omega.{arith}
use Rattle.plan.proofs.Homes.{legal-plan}
use Rattle.store.proofs.tuple_room.Goals as goal

pub overflow_mul-result : goal.overflow_mul-result
overflow_mul-result c = record { fits = omega (arith, (legal-plan c.args.p c.requires).tuples-most) }

pub overflow_add-result : goal.overflow_add-result
overflow_add-result c = record { fits = omega (arith, (legal-plan c.args.p c.requires).tuples-most) }
