-- Whether a partition would get more records than its capacity: the counts as a list, and the parts of the two arrays
-- that `overfull` lends.
-- Assumes nothing.
use mathlib.Core.Bool.{Bool, true, ◌||◌}
use mathlib.Core.List.{List, [], ◌∷◌, ◌++◌, map}
use mathlib.Core.Path.{◌≡◌, refl, sym, ◌∙◌, ap, subst}
use Prim.Native.Nat.{ℕ, zero, suc, ◌+◌, ◌≤◌, ◌<◌}
use native.Mathlib.Omega.{arith}
use lib.Dec.{ltb}
use lib.ListN.{length, get_or, take, drop, length-take, length-map}
use lib.Seq.{get_or-take, ext_get_or, length-take-le, take_at}
use Rattle.std.specs.List.{list_any}
use Rattle.lists.specs.Members.{any, up_from, below}
use Rattle.lists.specs.Words.{zeros}
use Rattle.lists.proofs.Members.{any-map}
use Rattle.lists.proofs.Below.{length-below}
use Rattle.lists.proofs.Words.{zeros-get_or}
use Rattle.plan.specs.Plan.{most_partitions, plan_number, cuts_of}
use Rattle.plan.specs.declared.Partitioning.{Partitioning}
use Rattle.plan.proofs.Homes.{legal-plan, length-cuts}
use Rattle.moves.specs.Moves.{stored_records, Counts}
use Rattle.move_count.specs.Crowding.{held_at, overfull, Homed, Countable, Tallied}

-- std's test of some member is that of the definitions
list-any-is : (p : ℕ → Bool) (xs : List ℕ) → list_any p xs ≡ any p xs
list-any-is p [] = refl
list-any-is p (x ∷ xs) = ap (λ (b : Bool). p x || b) (list-any-is p xs)

-- ---- the counts as a list

map-up : (f : ℕ → ℕ) (a n i : ℕ) → i < n → get_or (map f (up_from a n)) i 0 ≡ f (a + i)
map-up f a zero i l = absurd (omega arith)
map-up f a (suc n) zero l = ap f (omega arith)
map-up f a (suc n) (suc i) l = map-up f (suc a) n i (omega arith) ∙ ap f (omega arith)

numbers-are : (f : ℕ → ℕ) (n : ℕ) (xs : List ℕ) → length xs ≡ n → ((i : ℕ) → i < n → get_or xs i 0 ≡ f i)
    → xs ≡ map f (below n)
numbers-are f n xs e each =
    ext_get_or 0 xs (map f (below n)) (e ∙ sym (length-map (below n) f ∙ length-below n))
    (λ i l. each i (omega arith) ∙ ap f (omega arith) ∙ sym (map-up f 0 n i (omega arith)))

-- ---- the arrays that `overfull` lends: their first places, as many as the plan has partitions

-- of one with 64 places
pub lent-counts : (q : Partitioning) (counts : List ℕ) → plan_number q ≡ 0 → length counts ≡ most_partitions
    → length (take q.count counts) ≡ q.count
lent-counts q counts legal e = length-take-le q.count counts (omega (arith, (legal-plan q legal).most))

-- of one in which the plan's cuts are listed
module _ (q : Partitioning) (cuts : List ℕ) (legal : plan_number q ≡ 0) (places : length q.lasts ≡ most_partitions)
    (listed : take q.count cuts ≡ cuts_of q) where
  cuts-long : length (cuts_of q) ≡ q.count
  cuts-long = length-cuts q places (legal-plan q legal).most

  pub lent-cuts : length (take q.count cuts) ≡ q.count
  lent-cuts = ap length listed ∙ cuts-long

  pub lent-within : q.count ≤ length cuts
  lent-within = omega (arith, lent-cuts, length-take q.count cuts)

  module _ (w room : ℕ) (ws counts : List ℕ) where
    -- both are what counting a store's records asks
    pub lent-countable : length counts ≡ most_partitions → zeros counts ≡ true → 1 ≤ w
        → Counts w room q.count ws → Homed w (cuts_of q) (stored_records w room q.count ws)
        → Countable w room ws (take q.count cuts) (take q.count counts)
    lent-countable e z wide inside homes = record {
      wide = wide;
      covered = rw listed (legal-plan q legal).covered;
      places = lent-counts q counts legal e ∙ sym lent-cuts;
      none = λ i b. get_or-take q.count counts i 0 (omega (arith, lent-cuts)) ∙ zeros-get_or counts z i;
      inside = rw lent-cuts inside;
      homes =
          rw listed (subst (λ (n : ℕ). Homed w (cuts_of q) (stored_records w room n ws)) (sym cuts-long) homes);
    }

    -- the counts `now` are put back over the zeros, and read from there
    module _ (now : List ℕ) (t : Tallied w room ws (take q.count cuts) now) where
      told_back : take q.count (now ++ drop q.count counts) ≡ now
      told_back = take_at now (drop q.count counts) q.count (t.long ∙ lent-cuts)

      pub told-long : length (take q.count (now ++ drop q.count counts)) ≡ q.count
      told-long = ap length told_back ∙ t.long ∙ lent-cuts

      pub told-within : q.count ≤ length (now ++ drop q.count counts)
      told-within = omega (arith, told-long, length-take q.count (now ++ drop q.count counts))

      -- whether one of them passes the capacity
      pub told-overfull : (capacity : ℕ)
          → list_any (λ c. ltb capacity c) (take q.count (now ++ drop q.count counts)) ≡ overfull w room q capacity ws
      unfolding overfull
      told-overfull capacity =
          list-any-is (λ c. ltb capacity c) (take q.count (now ++ drop q.count counts))
          ∙ ap (any (λ c. ltb capacity c)) (told_back ∙ numbers-are held q.count now (t.long ∙ lent-cuts) each)
          ∙ any-map (λ c. ltb capacity c) held (below q.count)
        where
          held : ℕ → ℕ
          held = held_at w (cuts_of q) (stored_records w room q.count ws)

          each : (i : ℕ) → i < q.count → get_or now i 0 ≡ held i
          each i l = rw (lent-cuts, listed) at (t.each i (omega (arith, lent-cuts)))
