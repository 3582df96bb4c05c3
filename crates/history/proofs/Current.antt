-- Demand 3, proved: after every list of calls on a freshly opened wall the stores hold what the machine holds.
-- Assumes nothing.
use mathlib.Core.List.{List, [], ◌∷◌}
use mathlib.Core.Logic.{◌⊎◌, inl, inr, ⊎_elim}
use mathlib.Core.Option.{some}
use mathlib.Core.Path.{◌≡◌, refl, sym, ◌∙◌, ap}
use Prim.Native.Nat.{ℕ}
use lib.Dec.{eqb}
use lib.ListN.{length}
use borrow.Author.Tests.{eqb-true, eqb-false}
use Rattle.lists.proofs.Choice.{bool_cases}
use Rattle.plan.specs.Plan.{most_partitions, plan_number}
use Rattle.plan.specs.declared.Partitioning.{Partitioning}
use Rattle.rows.proofs.Joins.{join-empty-left}
use Rattle.checks.specs.Stores.{Stores}
use Rattle.refusal.specs.Refusal.{answer_number}
use Rattle.checks.specs.Answer.{Answer}
use Rattle.checks.proofs.Checks.{fitting}
use Rattle.join.specs.Opening.{Opened}
use Rattle.store.proofs.StoreLoops.{tuples-given, rows-given}
use Rattle.history.specs.Machine.{Call, Told, Machine, told, next, machine_after}
use Rattle.history.specs.Runs.{Step, inserted, deleted, swept, repartitioned, Run, fresh, then}
use Rattle.history.specs.KeptCurrent.{AllOwed, KeptCurrent}
use Rattle.history.proofs.Held.{tuples-held-none, rows-held-none}
use Rattle.history.proofs.Kept.{Kept, Done, kept-current-now}
use Rattle.history.proofs.Inserts.{insert-done}
use Rattle.history.proofs.Deletes.{delete-done}
use Rattle.history.proofs.Sweeps.{sweep-done}
use Rattle.history.proofs.Repartitions.{repartition-done}

-- ---- open

-- the machine at first
abbrev pub first : Partitioning → Machine
first p = record { plan = p; outer = []; inner = [] }

pub opened-kept : (p : Partitioning) → length p.lasts ≡ most_partitions → plan_number p ≡ 0
    → (s s₀ : Stores) (a : Answer)
    → Opened p s s₀ a → answer_number a ≡ 0 → Kept (first p) p s₀
opened-kept p places legal s s₀ a o z =
    let f = fitting p (length s.outer) (length s.inner) (length s.rows) (sym o.number ∙ z) in
    rw (o.accepted z)
    (record {
      in_force = refl;
      places = places;
      legal = legal;
      outer = rw (tuples-given p (length s.outer) f.outer).1 (tuples-held-none p);
      inner = rw (tuples-given p (length s.inner) f.inner).1 (tuples-held-none p);
      rows = rw ((rows-given p (length s.rows) f.rows).1, join-empty-left) (rows-held-none p);
    })

-- ---- one call

zero_or_not : (n : ℕ) → (n ≡ 0) ⊎ (n ≡ 0 → ⊥)
zero_or_not n = ⊎_elim (λ e. inl (eqb-true n 0 e)) (λ e. inr (eqb-false n 0 e)) (bool_cases (eqb n 0))

pub step-done : {p p' : Partitioning} {s s' : Stores} {c : Call} {a : Answer} (m : Machine) → Kept m p s
    → Step p s c a p' s' → Done m p s c (answer_number a) p' s'
step-done m k (inserted {p = p} {side = side} {t = t} {s = s} {s' = s'} {a = a} h) =
    insert-done m p side t s s' a k h (zero_or_not (answer_number a))
step-done m k (deleted {p = p} {side = side} {t = t} {s = s} {s' = s'} {a = a} h) =
    delete-done m p side t s s' a k h (zero_or_not (answer_number a))
step-done m k (swept {p = p} {s = s} {s' = s'} {a = a} c d c' d' h) =
    sweep-done m p s s' c d c' d' a k h (zero_or_not (answer_number a))
step-done m k (repartitioned {p = p} {p' = p'} {new = new} {s = s} {s' = s'} {a = a} long h) =
    repartition-done m p p' new s s' a k long h (zero_or_not (answer_number a))

-- ---- every list of calls

-- the machine after one call more
pub machine-next : (p : Partitioning) (t : Told) (ts : List Told) (m n : Machine) → machine_after p ts ≡ some m
    → told t m ≡ some n → machine_after p (t ∷ ts) ≡ some n
machine-next p t ts m n e h = ap (next t) e ∙ h

-- what every list of calls keeps
pub run-kept : {p₀ : Partitioning} {s₀ : Stores} {ts : List Told} {p : Partitioning} {s : Stores}
    → Kept (first p₀) p₀ s₀ → (run : Run p₀ s₀ ts p s)
    → (m : Machine) × (machine_after p₀ ts ≡ some m) × Kept m p s × AllOwed run
run-kept {p₀ = p₀} k fresh = (first p₀, refl, k, tt)
run-kept {p₀ = p₀} k (then {ts = ts} {p = p} {p' = p'} {s = s} {s' = s'} {c = c} {a = a} r st) =
    let h = run-kept k r in
    let d = step-done h.0 h.2 st in
    let e = machine-next p₀ (record { call = c; number = (answer_number a) }) ts h.0 d.after h.1 d.machine in
    (d.after, e, d.kept, (h.3, rw e d.owed))

pub kept-current : KeptCurrent
kept-current p places legal s s₀ a o z ts p' s' run =
    let h = run-kept (opened-kept p places legal s s₀ a o z) run in
    (h.0, h.1, kept-current-now h.0 p' s' h.2, h.3)
