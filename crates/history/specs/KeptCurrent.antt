-- Demand 3, stated. It is proved in proofs/Current.antt (`kept-current`).
use Rattle.std.specs.Prelude.{true, false, List, ◌∷◌, ◌≡◌, ℕ, ◌<◌, length}
use Rattle.std.proofs.Math.Option.{Option, some}
use Rattle.interval.specs.declared.tuple.Tuple.{Tuple}
use Rattle.plan.specs.Plan.{plan_number}
use Rattle.plan.specs.declared.Partitioning.{Partitioning}
use Rattle.store.specs.Store.{row_part, TuplesHeld, RowsHeld}
use Rattle.rows.specs.Join.{join_of}
use Rattle.sweep_count.specs.Pairs.{touches}
use Rattle.checks.specs.Stores.{Stores, fits, sound}
use Rattle.refusal.specs.Refusal.{answer_number}
use Rattle.checks.specs.Answer.{Answer}
use Rattle.join.specs.Opening.{Opened}
use Rattle.history.specs.Machine.{Call, insert, delete, sweep, repartition, Told, Machine, machine_after}
use Rattle.history.specs.Runs.{Run, fresh, then}

-- "stores 1 and 2 hold exactly the machine's drawings and spots, each in the lane it belongs to, and each lane of store
-- 3 exactly the machine's rows that belong to it: each as often as the machine has it, in some order. All three stores
-- are sound. Lanes, lengths and soundness go by the machine's plan in force"
pub record Current (m : Machine) (p : Partitioning) (s : Stores) : Type 0 where
  pub in_force : p ≡ m.plan
  pub long : fits p s ≡ true
  pub all_sound : sound p s ≡ true
  pub outer : TuplesHeld p s.outer m.outer
  pub inner : TuplesHeld p s.inner m.inner
  pub rows : RowsHeld p s.rows (join_of p.minimum m.outer m.inner)

-- "each accepted change left untouched every rows lane that shares no minute with the changed span"
abbrev pub Untouched : Partitioning → Tuple → List ℕ → List ℕ → Type 0
Untouched p t ws ws' = (i : ℕ) → i < p.count → touches p i t ≡ false → row_part p ws' i ≡ row_part p ws i

-- what is owed of one call of a list: of an accepted insert or delete, that frame, by the cuts in force at that call;
-- of a repartition, accepted or not, that "the plan that a recut returns equals it, after that recut, in every part"
abbrev pub Owed : Partitioning → Stores → Call → ℕ → Partitioning → Stores → Option Machine → Type 0
Owed p s (insert side t) number p' s' after = number ≡ 0 → Untouched p t s.rows s'.rows
Owed p s (delete side t) number p' s' after = number ≡ 0 → Untouched p t s.rows s'.rows
Owed p s sweep number p' s' after = Unit {0}
Owed p s (repartition new) number p' s' after = (m : Machine) → after ≡ some m → p' ≡ m.plan

abbrev pub AllOwed : {p₀ : Partitioning} {s₀ : Stores} {ts : List Told} {p : Partitioning} {s : Stores}
    → Run p₀ s₀ ts p s → Type 0
AllOwed fresh = Unit {0}
AllOwed {p₀ = p₀} (then {ts = ts} {p = p} {p' = p'} {s = s} {s' = s'} {c = c} {a = a} r st) =
    AllOwed r × Owed p s c (answer_number a) p' s' (machine_after p₀ (record { call = c; number = (answer_number a) } ∷ ts))

-- Demand 3: for every legal plan (of 64 places), every accepted open, every list of calls after it: the machine has not
-- failed, the stores hold what it holds, and each call gave what is owed of it.
abbrev pub KeptCurrent : Type 0
KeptCurrent =
    (p : Partitioning) → length p.lasts ≡ 64 → plan_number p ≡ 0
    → (s s₀ : Stores) (a : Answer) → Opened p s s₀ a → answer_number a ≡ 0
    → (ts : List Told) (p' : Partitioning) (s' : Stores) (run : Run p s₀ ts p' s')
    → (m : Machine) × (machine_after p ts ≡ some m) × Current m p' s' × AllOwed run
