-- The loop of `plan::covers`, which goes up the cuts in use.
-- In order: the cuts in use; what the loop has still to see; `Rising`, its invariant, with its laws; `Spliced`, what
-- new cuts put in one by one leave, with its laws.
-- Assumes nothing.
use mathlib.Core.Bool.{false}
use mathlib.Core.List.{List, [], ◌∷◌, ◌++◌}
use mathlib.Core.Logic.{⊎_elim}
use mathlib.Core.Path.{◌≡◌, refl, sym, ◌∙◌, ap}
use Prim.Native.Nat.{ℕ, zero, suc, ◌+◌, ◌-◌, ◌≤◌, ◌<◌, min}
use native.Mathlib.Nat.{suc-add}
use native.Mathlib.Numerals.{add-one}
use native.Mathlib.Omega.{arith}
use lib.ListN.{length, get_or, take, drop, set, length-take, length-map, drop_of_length-le}
use lib.Seq.{drop-cons, take_all}
use lib.Dec.{eqb}
use Rattle.std.proofs.lemmas.List.{take-map}
use borrow.Author.Tests.{lt-ltb, le-ltb}
use Rattle.interval.specs.Time.{calendar_end}
use Rattle.interval.specs.declared.time.Chronon.{Chronon}
use Rattle.plan.specs.Plan.{most_partitions, numbers, cover}
use Rattle.plan.proofs.Homes.{le-or-lt, read_at, number_at}

-- ---- the cuts in use: of 64 places, the first n

abbrev pub in_use : ℕ → List Chronon → List ℕ
in_use n lasts = take n (numbers lasts)

length-in-use : (n : ℕ) (lasts : List Chronon) → length lasts ≡ most_partitions → n ≤ most_partitions
    → length (in_use n lasts) ≡ n
length-in-use n lasts e l = simp (length-take, length-map) (omega arith)

-- the cuts that a plan with this count has: past 64 they are all 64
pub in-use-is : (count used : ℕ) (lasts : List Chronon) → length lasts ≡ most_partitions
    → used ≡ min count most_partitions
    → in_use used lasts ≡ in_use count lasts
in-use-is count used lasts e is = ⊎_elim few many (le-or-lt count most_partitions)
  where
    few : count ≤ most_partitions → in_use used lasts ≡ in_use count lasts
    few g = let same : used ≡ count = omega arith in rw same

    whole : (k : ℕ) → most_partitions ≤ k → in_use k lasts ≡ numbers lasts
    whole k g = take_all k (numbers lasts) (rw length-map (omega arith))

    many : most_partitions < count → in_use used lasts ≡ in_use count lasts
    many g = whole used (omega arith) ∙ sym (whole count (omega arith))

-- the same, of the places in use
pub in-use-cuts : (count used : ℕ) (lasts : List Chronon) → length lasts ≡ most_partitions
    → used ≡ min count most_partitions
    → numbers (take used lasts) ≡ in_use count lasts
in-use-cuts count used lasts e is =
    sym (take-map (λ (m : Chronon). m.0) used lasts) ∙ in-use-is count used lasts e is

-- ---- what a loop that goes up a list of cuts has still to see

two-left : (cs : List ℕ) (i : ℕ) → i + 1 < length cs
    → drop i cs ≡ get_or cs i 0 ∷ (get_or cs (i + 1) 0 ∷ drop (suc (i + 1)) cs)
two-left cs i l =
    drop-cons cs i 0 (omega arith)
    ∙ ap (λ (r : List ℕ). get_or cs i 0 ∷ r) (ap (λ (k : ℕ). drop k cs) (sym (add-one i)) ∙ drop-cons cs (i + 1) 0 l)

-- whether they cover: the next two rise, they do not, and one is left
cover-next : (cs : List ℕ) (i : ℕ) → i + 1 < length cs → get_or cs i 0 < get_or cs (i + 1) 0
    → cover (drop i cs) ≡ cover (drop (i + 1) cs)
unfolding cover
cover-next cs i l g = rw (two-left cs i l, drop-cons cs (i + 1) 0 l, lt-ltb (get_or cs i 0) (get_or cs (i + 1) 0) g)

cover-stop : (cs : List ℕ) (i : ℕ) → i + 1 < length cs → get_or cs (i + 1) 0 ≤ get_or cs i 0 → cover (drop i cs) ≡ false
unfolding cover
cover-stop cs i l g = rw (two-left cs i l, le-ltb (get_or cs i 0) (get_or cs (i + 1) 0) g)

cover-end : (cs : List ℕ) (i : ℕ) → i + 1 ≡ length cs → cover (drop i cs) ≡ eqb (get_or cs i 0) calendar_end
unfolding cover
cover-end cs i e = rw (drop-cons cs i 0 (omega arith), drop_of_length-le cs {i = suc i} (omega arith))

-- ---- `covers`: the first i + 1 cuts rise, and what is left is whether those from i on cover

pub record Rising (lasts : List Chronon) (used i : ℕ) : Type 0 where
  pub long : length lasts ≡ most_partitions
  pub most : used ≤ most_partitions
  pub within : i < used
  pub left : cover (in_use used lasts) ≡ cover (drop i (in_use used lasts))

-- no cut is passed
pub rising-start : (lasts : List Chronon) (used : ℕ) → length lasts ≡ most_partitions → used ≤ most_partitions
    → 0 < used → Rising lasts used 0
rising-start lasts used e l g = record { long = e; most = l; within = g; left = refl }

module _ (lasts : List Chronon) (used i : ℕ) (r : Rising lasts used i) where
  -- how many they are, and the next two, as the code reads them
  cuts-long : length (in_use used lasts) ≡ used
  cuts-long = length-in-use used lasts r.long r.most

  next-cuts : i < used - 1
      → (get_or (in_use used lasts) i 0 ≡ read_at lasts i) × (get_or (in_use used lasts) (i + 1) 0 ≡ read_at lasts (i + 1))
  next-cuts l = (number_at used lasts i (omega arith), number_at used lasts (i + 1) (omega arith))

  -- the next two rise
  pub rising_step : i < used - 1 → read_at lasts i < read_at lasts (i + 1) → Rising lasts used (i + 1)
  rising_step l g = record {
    long = r.long;
    most = r.most;
    within = omega arith;
    left = r.left
        ∙ cover-next (in_use used lasts) i (omega (arith, cuts-long)) (omega (arith, next-cuts l));
  }

  -- they do not
  pub rising-stop : i < used - 1 → read_at lasts (i + 1) ≤ read_at lasts i → false ≡ cover (in_use used lasts)
  rising-stop l g =
      sym (r.left ∙ cover-stop (in_use used lasts) i (omega (arith, cuts-long)) (omega (arith, next-cuts l)))

  -- one is left
  pub rising-end : used - 1 ≤ i → eqb (read_at lasts i) calendar_end ≡ cover (in_use used lasts)
  rising-end l =
      rw (← number_at used lasts i r.within)
      (sym (r.left ∙ cover-end (in_use used lasts) i (omega (arith, cuts-long))))

-- ---- new last chronons put into the first places, one after the other. `with_cuts` copies them at once, and no proof
-- goes through these laws: they say that it comes to the same, and docs/TRACE.md cites them

pub record Spliced (new old : List Chronon) (used i : ℕ) (lasts : List Chronon) : Type 0 where
  pub long : length new ≡ most_partitions
  pub long-old : length old ≡ most_partitions
  pub few : used ≤ most_partitions
  pub upto : i ≤ used
  pub mixed : lasts ≡ take i new ++ drop i old

pub spliced-start : (new old : List Chronon) (used : ℕ) → length new ≡ most_partitions → length old ≡ most_partitions
    → used ≤ most_partitions
    → Spliced new old used 0 old
spliced-start new old used a b l =
    record { long = a; long-old = b; few = l; upto = omega arith; mixed = refl }

-- one place more
splice : {A : Type 0} (new old : List A) (i : ℕ) (d : A) → i < length new → i < length old
    → set (take i new ++ drop i old) i (get_or new i d) ≡ take (i + 1) new ++ drop (i + 1) old
splice [] old i d l m = absurd (omega arith)
splice (x ∷ new) [] i d l m = absurd (omega arith)
splice (x ∷ new) (y ∷ old) zero d l m = refl
splice (x ∷ new) (y ∷ old) (suc i) d l m =
    simp suc-add (ap (λ r. x ∷ r) (splice new old i d (omega arith) (omega arith)))

pub spliced-step : (new old : List Chronon) (used i : ℕ) (lasts : List Chronon) → i < used
    → Spliced new old used i lasts
    → Spliced new old used (i + 1) (set lasts i (get_or new i (record { 0 = 0 })))
spliced-step new old used i lasts l s = record {
  long = s.long;
  long-old = s.long-old;
  few = s.few;
  upto = omega arith;
  mixed =
      ap (λ (r : List Chronon). set r i (get_or new i (record { 0 = 0 }))) s.mixed
      ∙ splice new old i (record { 0 = 0 }) (omega (arith, s.long, s.few)) (omega (arith, s.long-old, s.few));
}

-- past 64 all places are new
pub spliced-end : (new old : List Chronon) (used count i : ℕ) (lasts : List Chronon)
    → used ≡ min count most_partitions → used ≤ i
    → Spliced new old used i lasts → lasts ≡ take count new ++ drop count old
spliced-end new old used count i lasts is g s =
    let e : i ≡ used = omega (arith, s.upto) in
    s.mixed ∙ ap (λ (k : ℕ). take k new ++ drop k old) e ∙ ⊎_elim few many (le-or-lt count most_partitions)
  where
    few : count ≤ most_partitions → take used new ++ drop used old ≡ take count new ++ drop count old
    few l = let same : used ≡ count = omega arith in rw same

    many : most_partitions < count → take used new ++ drop used old ≡ take count new ++ drop count old
    many l =
        let same : used ≡ most_partitions = omega arith in
        rw (
          take_all used new (omega (arith, s.long)),
          take_all count new (omega (arith, s.long)),
          drop_of_length-le old {i = used} (omega (arith, s.long-old)),
          drop_of_length-le old {i = count} (omega (arith, s.long-old)),
        )
