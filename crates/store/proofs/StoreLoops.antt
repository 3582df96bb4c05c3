-- The partitions of a store, one after the other, and its lengths: a test of every partition; a length that the plan
-- gives; a partition lent to a writer, and back.
-- Assumes nothing.
use mathlib.Core.Bool.{Bool, true, false, ◌&&◌}
use mathlib.Core.List.{List, ◌++◌}
use mathlib.Core.Path.{◌≡◌, sym, ◌∙◌, ap}
use Prim.Native.Nat.{ℕ, ◌+◌, ◌-◌, ◌*◌, ◌≤◌, ◌<◌}
use native.Mathlib.Nat.{sub-zero, mul-le-mul, lt_of_le_of_lt, add-sub_cancel_left}
use native.Mathlib.Omega.{arith}
use lib.ListN.{length, take, drop}
use lib.Dec.{eqb, lit<}
use mir.Syntax.{w64}
use mir.Val.{Fits}
use borrow.Author.Tests.{eqb-true, eq-eqb}
use borrow.Rule.Slice.PartMut.{put_mid}
use Rattle.lists.specs.Members.{all, below, up_from}
use Rattle.lists.specs.Words.{part_at, on_part}
use Rattle.lists.proofs.Parts.{length_part}
use Rattle.lists.proofs.Choice.{and_left, and_right, and_both}
use Rattle.lists.proofs.Below.{up_next, up-end}
use Rattle.plan.specs.Plan.{plan_number, legal_plan}
use Rattle.plan.specs.declared.Partitioning.{Partitioning}
use Rattle.plan.proofs.Homes.{legal-plan, plan-legal-test, test-plan-legal}
use Rattle.part.specs.Part.{room_of, counted, appended}
use Rattle.store.specs.Store.{tuple_room, row_room, fits_tuples, fits_rows, on_partition}

-- ---- a test of every partition: those from i on decide

pub record Turn (answer decides next : Bool) : Type 0 where
  pub fails : answer ≡ false → false ≡ decides
  pub goes : answer ≡ true → decides ≡ next

module _ (f : ℕ → Bool) (n : ℕ) where
  pub below-start : all f (below n) ≡ all f (up_from 0 (n - 0))
  below-start = rw sub-zero

  pub below-turn : (i : ℕ) (answer : Bool) → i < n → answer ≡ f i → all f (below n) ≡ all f (up_from i (n - i))
      → Turn answer (all f (below n)) (all f (up_from (i + 1) (n - (i + 1))))
  below-turn i answer h e inv = record {
    fails = λ z. sym (inv ∙ ap (all f) (up_next i n h) ∙ ap (λ (b : Bool). b && rest) (sym e ∙ z));
    goes = λ t. inv ∙ ap (all f) (up_next i n h) ∙ ap (λ (b : Bool). b && rest) (sym e ∙ t);
  }
    where
      rest : Bool
      rest = all f (up_from (i + 1) (n - (i + 1)))

  pub below_end : (i : ℕ) → n ≤ i → all f (below n) ≡ all f (up_from i (n - i)) → true ≡ all f (below n)
  below_end i h inv = sym (inv ∙ ap (all f) (up-end i n h))

-- ---- lengths

-- 64 partitions of at most 20,481 words fit a machine's word
pub length-fits : (n room : ℕ) → n ≤ 64 → room ≤ 20481 → Fits w64 (n * room)
length-fits n room h g = record { fits = lt_of_le_of_lt (mul-le-mul h g) (lit< tt) }

-- so do the words of a legal plan's tuple store and of its rows store
pub tuples-fit : (p : Partitioning) → plan_number p ≡ 0 → Fits w64 (p.count * tuple_room p)
tuples-fit p h = length-fits p.count _ (legal-plan p h).most (omega (arith, (legal-plan p h).tuples-most))

pub rows_fit : (p : Partitioning) → plan_number p ≡ 0 → Fits w64 (p.count * row_room p)
rows_fit p h = length-fits p.count _ (legal-plan p h).most (omega (arith, (legal-plan p h).rows-most))

-- a length fits exactly if the plan is legal and the length is what it gives
abbrev Given : Partitioning → ℕ → ℕ → Type 0
Given p n room = (plan_number p ≡ 0) × (n ≡ p.count * room)

module _ (p : Partitioning) (n room : ℕ) where
  fit-given : (legal_plan p && eqb n (p.count * room)) ≡ true → Given p n room
  fit-given h = (
    test-plan-legal p (and_left (legal_plan p) (eqb n (p.count * room)) h),
    eqb-true n (p.count * room) (and_right (legal_plan p) (eqb n (p.count * room)) h),
  )

  given-fit : Given p n room → (legal_plan p && eqb n (p.count * room)) ≡ true
  given-fit g = and_both (legal_plan p) _ (plan-legal-test p g.0) (eq-eqb n (p.count * room) g.1)

module _ (p : Partitioning) (n : ℕ) where
  pub tuples-given : fits_tuples p n ≡ true → Given p n (tuple_room p)
  unfolding fits_tuples
  tuples-given h = fit-given p n (tuple_room p) h

  pub given-tuples : Given p n (tuple_room p) → fits_tuples p n ≡ true
  unfolding fits_tuples
  given-tuples g = given-fit p n (tuple_room p) g

  pub rows-given : fits_rows p n ≡ true → Given p n (row_room p)
  unfolding fits_rows
  rows-given h = fit-given p n (row_room p) h

  pub given-rows : Given p n (row_room p) → fits_rows p n ≡ true
  unfolding fits_rows
  given-rows g = given-fit p n (row_room p) g

-- ---- a partition lent to a writer, and back

-- the part that the code lends, `&mut store[at..at + room]`
abbrev pub lent : ℕ → ℕ → List ℕ → List ℕ
lent at room ws = take (at + room - at) (drop at ws)

pub lent_is : (at room : ℕ) (ws : List ℕ) → lent at room ws ≡ part_at at room ws
lent_is at room ws = ap (λ (k : ℕ). take k (drop at ws)) (add-sub_cancel_left at room)

-- the records that a writer asks room for have it
pub lent-room : (n at room : ℕ) (ws : List ℕ) → at + room ≤ length ws → n ≤ room → n ≤ length (lent at room ws)
lent-room n at room ws h g = rw (lent_is at room ws) (omega (arith, length_part at room ws h))

-- so has one record more, of that width
pub lent-append : (w at room : ℕ) (ws : List ℕ) → at + room ≤ length ws
    → room_of w (counted (part_at at room ws) + 1) ≤ room
    → room_of w (counted (lent at room ws) + 1) ≤ length (lent at room ws)
lent-append w at room ws h g = lent-room _ at room ws h (rw (lent_is at room ws) g)

-- what the writer left, put back
pub put_back : (f : List ℕ → List ℕ) (at room : ℕ) (ws ys : List ℕ) → ys ≡ f (lent at room ws)
    → put_mid at (at + room - at) ws ys ≡ on_part at room f ws
put_back f at room ws ys e =
    rw (e, lent_is at room ws)
    (ap (λ (k : ℕ). take at ws ++ (f (part_at at room ws) ++ drop k (drop at ws))) (add-sub_cancel_left at room))

-- what an append to partition i left, put back
pub lent_back : (w i room : ℕ) (r ws : List ℕ) {ys : List ℕ} → ys ≡ appended w r (lent (i * room) room ws)
    → put_mid (i * room) (i * room + room - i * room) ws ys ≡ on_partition room i (appended w r) ws
lent_back w i room r ws e = put_back (appended w r) (i * room) room ws _ e
