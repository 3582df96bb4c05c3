-- The two tuple stores under a legal plan, past checks 1 to 5.
use Rattle.std.specs.Prelude.{true, List, ◌≡◌, ℕ, ◌*◌, length}
use Rattle.plan.specs.Plan.{plan_number}
use Rattle.plan.specs.declared.Partitioning.{Partitioning}
use Rattle.store.specs.Store.{tuple_room, sound_tuples}

pub record Sides (p : Partitioning) (outer inner : List ℕ) : Type 0 where
  pub legal : plan_number p ≡ 0
  pub outer_long : length outer ≡ p.count * tuple_room p
  pub inner_long : length inner ≡ p.count * tuple_room p
  pub outer_sound : sound_tuples p outer ≡ true
  pub inner_sound : sound_tuples p inner ≡ true
