-- The loop of `cuts_of`: `Listed`, the first i places are a plan's last chronons, with its laws.
-- Assumes nothing.
use mathlib.Core.List.{List}
use mathlib.Core.Path.{◌≡◌, sym, ◌∙◌}
use Prim.Native.Nat.{ℕ, ◌+◌, ◌≤◌, ◌<◌}
use native.Mathlib.Omega.{arith}
use lib.ListN.{length, get_or, take, set, length-set}
use lib.Seq.{get_or-take, get_or-set_same, get_or-set_other, ext_get_or, length-take-le}
use borrow.Author.Count.{below_none, below_more}
use Rattle.plan.specs.Plan.{most_partitions, plan_number, cuts_of}
use Rattle.plan.specs.declared.Partitioning.{Partitioning}
use Rattle.plan.proofs.Homes.{read_at, legal-plan, length-cuts, cut_at}

pub record Listed (q : Partitioning) (i : ℕ) (cuts : List ℕ) : Type 0 where
  pub places : length q.lasts ≡ most_partitions
  pub most : q.count ≤ most_partitions
  pub long : length cuts ≡ most_partitions
  pub upto : i ≤ q.count
  pub each : (j : ℕ) → j < i → get_or cuts j 0 ≡ read_at q.lasts j

module _ (q : Partitioning) where
  pub listed-none : (cuts : List ℕ) → plan_number q ≡ 0 → length q.lasts ≡ most_partitions
      → length cuts ≡ most_partitions → Listed q 0 cuts
  listed-none cuts legal e l = record {
    places = e;
    most = (legal-plan q legal).most;
    long = l;
    upto = omega arith;
    each = below_none _;
  }

  pub listed_more : (i : ℕ) (cuts : List ℕ) → i < q.count → Listed q i cuts
      → Listed q (i + 1) (set cuts i (read_at q.lasts i))
  listed_more i cuts h s = record {
    places = s.places;
    most = s.most;
    long = length-set cuts i (read_at q.lasts i) ∙ s.long;
    upto = omega arith;
    each =
        below_more _ i
        (λ j l.
        get_or-set_other cuts i j (read_at q.lasts i) 0 (λ e. omega arith)
        ∙ s.each j l)
        (get_or-set_same cuts i (read_at q.lasts i) 0 (omega (arith, s.long, s.most)));
  }

  pub listed-all : (i : ℕ) (cuts : List ℕ) → q.count ≤ i → Listed q i cuts → take q.count cuts ≡ cuts_of q
  listed-all i cuts h s =
      ext_get_or 0 (take q.count cuts) (cuts_of q) (long ∙ sym (length-cuts q s.places s.most))
      (λ j l. at j (omega (arith, long)))
    where
      long : length (take q.count cuts) ≡ q.count
      long = length-take-le q.count cuts (omega (arith, s.long, s.most))

      at : (j : ℕ) → j < q.count → get_or (take q.count cuts) j 0 ≡ get_or (cuts_of q) j 0
      at j l = get_or-take q.count cuts j 0 l ∙ s.each j (omega arith) ∙ sym (cut_at q j l)
