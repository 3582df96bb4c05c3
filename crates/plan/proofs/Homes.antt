-- Laws of plans: cuts that cover the calendar, the partition of a chronon, legal plans.
-- In order: covering cuts; the partition of a chronon, and when it is partition i; where a partition starts; the order
-- of partitions; an interval that a partition does not touch; the cuts of a plan; a legal plan; the check that answers.
-- Assumes nothing.
use mathlib.Core.Bool.{Bool, true, false, not, ◌&&◌, ◌||◌, false≢true}
use mathlib.Core.List.{List, [], ◌∷◌}
use mathlib.Core.Logic.{◌⊎◌, inl, inr, ⊎_elim}
use mathlib.Core.Path.{◌≡◌, refl, sym, ◌∙◌, ap}
use Prim.Native.Nat.{ℕ, zero, suc, ◌+◌, ◌-◌, ◌≤◌, ◌<◌, min}
use native.Mathlib.Nat.{zero-lt-suc, not-suc-le-zero, le_of_suc-le-suc, le_of_eq, le_of_lt, eq-or-lt_of_le}
use native.Mathlib.Numerals.{add-one}
use native.Mathlib.Omega.{arith}
use lib.ListN.{length, get_or, take, length-take, length-map, get_or-map}
use lib.Seq.{get_or-take}
use lib.Dec.{leb, ltb, eqb}
use borrow.Author.Tests.{leb-true, leb-false, le-leb, lt-leb, ltb-true, ltb-false, lt-ltb, le-ltb, eqb-true, eq-eqb}
use borrow.Author.Tests.{not-false}
use Rattle.lists.specs.Choice.{refuse_if, first_of}
use Rattle.lists.proofs.Choice.{bool_cases, and_left, and_right, and_both, same_test, pick_true, pick-false}
use Rattle.lists.proofs.Choice.{or_left, or_right, or-none, or-neither-left, or-neither-right, refuse-none, first-none}
use Rattle.lists.proofs.Choice.{first_next, answer-last}
use Rattle.interval.specs.Time.{calendar_end}
use Rattle.interval.specs.declared.time.Chronon.{Chronon}
use Rattle.plan.specs.Plan.{outside, numbers, cuts_of, cover, plan_number, legal_plan, home_of, start_of}
use Rattle.plan.specs.Plan.{most_partitions, most_tuples, most_rows, most_minimum, minimum_check}
use Rattle.plan.specs.declared.Partitioning.{Partitioning}

-- one number is at most another, or greater
pub le-or-lt : (m n : ℕ) → (m ≤ n) ⊎ (n < m)
le-or-lt m n = ⊎_elim (λ e. inl (leb-true m n e)) (λ e. inr (leb-false m n e)) (bool_cases (leb m n))

-- ---- covering cuts

-- there is one
pub cover-some : (cs : List ℕ) → cover cs ≡ true → 0 < length cs
unfolding cover
cover-some [] h = absurd (false≢true h)
cover-some (c ∷ cs) h = zero-lt-suc (length cs)

-- the first two rise, and those after the first cover too
next-rises : (c e : ℕ) (cs : List ℕ) → cover (c ∷ (e ∷ cs)) ≡ true → (c < e) × (cover (e ∷ cs) ≡ true)
unfolding cover
next-rises c e cs h =
    (ltb-true c e (and_left (ltb c e) (cover (e ∷ cs)) h), and_right (ltb c e) (cover (e ∷ cs)) h)

-- the last is the calendar's end
pub cover-last : (cs : List ℕ) → cover cs ≡ true → get_or cs (length cs - 1) 0 ≡ calendar_end
unfolding cover
cover-last [] h = absurd (false≢true h)
cover-last (c ∷ []) h = eqb-true c calendar_end h
cover-last (c ∷ (e ∷ cs)) h =
    let l : length (c ∷ (e ∷ cs)) - 1 ≡ suc (length (e ∷ cs) - 1) = omega arith in
    rw l (cover-last (e ∷ cs) (next-rises c e cs h).1)

-- they rise: of two of them the later is greater
pub cover-rises : (cs : List ℕ) → cover cs ≡ true → (i j : ℕ) → i < j → j < length cs → get_or cs i 0 < get_or cs j 0
cover-rises [] h i j l b = absurd (not-suc-le-zero b)
cover-rises (c ∷ []) h i j l b = absurd (omega arith)
cover-rises (c ∷ (e ∷ cs)) h zero zero l b = absurd (omega arith)
cover-rises (c ∷ (e ∷ cs)) h zero (suc zero) l b = (next-rises c e cs h).0
cover-rises (c ∷ (e ∷ cs)) h zero (suc (suc j)) l b =
    let n = next-rises c e cs h in
    omega (arith, cover-rises (e ∷ cs) n.1 zero (suc j) (omega arith) (le_of_suc-le-suc b))
cover-rises (c ∷ (e ∷ cs)) h (suc i) zero l b = absurd (omega arith)
cover-rises (c ∷ (e ∷ cs)) h (suc i) (suc j) l b =
    cover-rises (e ∷ cs) (next-rises c e cs h).1 i j (le_of_suc-le-suc l) (le_of_suc-le-suc b)

-- a later one, or the same, is no less
pub cover-order : (cs : List ℕ) → cover cs ≡ true → (i j : ℕ) → i ≤ j → j < length cs → get_or cs i 0 ≤ get_or cs j 0
cover-order cs h i j l b =
    ⊎_elim (λ e. le_of_eq (ap (λ (k : ℕ). get_or cs k 0) e)) (λ g. le_of_lt (cover-rises cs h i j g b)) (eq-or-lt_of_le l)

-- none lies past the calendar's end
pub cut_most : (cs : List ℕ) → cover cs ≡ true → (i : ℕ) → i < length cs → get_or cs i 0 ≤ calendar_end
cut_most cs h i b =
    omega (arith, cover-last cs h, cover-order cs h i (length cs - 1) (omega arith) (omega arith))

-- ---- the partition of a chronon

-- it is the first where the chronon is not past the first cut
pub home_here : (c : ℕ) (cs : List ℕ) (m : ℕ) → m ≤ c → home_of (c ∷ cs) m ≡ 0
unfolding home_of
home_here c cs m l = pick_true (leb m c) 0 (suc (home_of cs m)) (le-leb m c l)

-- else it is one more than among the other cuts
pub home-past : (c : ℕ) (cs : List ℕ) (m : ℕ) → c < m → home_of (c ∷ cs) m ≡ suc (home_of cs m)
unfolding home_of
home-past c cs m l = pick-false (leb m c) 0 (suc (home_of cs m)) (lt-leb m c l)

-- it is one of them, or their number
pub home-most : (cs : List ℕ) (m : ℕ) → home_of cs m ≤ length cs
unfolding home_of
home-most [] m = omega arith
home-most (c ∷ cs) m =
    ⊎_elim (λ l. omega (arith, home_here c cs m l)) (λ l. omega (arith, home-past c cs m l, home-most cs m))
    (le-or-lt m c)

-- every chronon of the calendar has one
pub home-within : (cs : List ℕ) → cover cs ≡ true → (m : ℕ) → m ≤ calendar_end → home_of cs m < length cs
unfolding cover
home-within [] h m l = absurd (false≢true h)
home-within (c ∷ []) h m l = omega (arith, home_here c [] m (omega (arith, eqb-true c calendar_end h)))
home-within (c ∷ (e ∷ cs)) h m l =
    let n = home-within (e ∷ cs) (next-rises c e cs h).1 m l in
    ⊎_elim (λ g. omega (arith, home_here c (e ∷ cs) m g)) (λ g. omega (arith, home-past c (e ∷ cs) m g))
    (le-or-lt m c)

-- with one more cut, before m, in front, a partition that starts no later than m still does
start-past : (c : ℕ) (cs : List ℕ) (k m : ℕ) → c < m → start_of cs k ≤ m → start_of (c ∷ cs) (suc k) ≤ m
unfolding start_of
start-past c cs zero m l h = omega arith
start-past c cs (suc k) m l h = h

-- the chronon lies in it
pub is_home : (cs : List ℕ) (m : ℕ) → home_of cs m < length cs
    → (start_of cs (home_of cs m) ≤ m) × (m ≤ get_or cs (home_of cs m) 0)
unfolding start_of
is_home [] m l = absurd (not-suc-le-zero l)
is_home (c ∷ cs) m l =
    ⊎_elim (λ g. rw (home_here c cs m g) (omega arith, g))
    (λ g.
    let rest = is_home cs m (omega (arith, home-past c cs m g)) in
    rw (home-past c cs m g) (start-past c cs (home_of cs m) m g rest.0, rest.1))
    (le-or-lt m c)

-- it is i where every partition before i ends before the chronon, and i does not
home_at : (cs : List ℕ) (i m : ℕ) → i < length cs → ((j : ℕ) → j < i → get_or cs j 0 < m) → m ≤ get_or cs i 0
    → home_of cs m ≡ i
home_at [] i m b below l = absurd (not-suc-le-zero b)
home_at (c ∷ cs) zero m b below l = home_here c cs m l
home_at (c ∷ cs) (suc i) m b below l =
    home-past c cs m (below 0 (omega arith))
    ∙ ap suc (home_at cs i m (le_of_suc-le-suc b) (λ j g. below (suc j) (omega arith)) l)

-- it is i where the chronon lies in i
pub home-is : (cs : List ℕ) → cover cs ≡ true → (i m : ℕ) → i < length cs → start_of cs i ≤ m → m ≤ get_or cs i 0
    → home_of cs m ≡ i
unfolding start_of
home-is cs h i m b lo hi = home_at cs i m b (before i b lo) hi
  where
    before : (k : ℕ) → k < length cs → start_of cs k ≤ m → (j : ℕ) → j < k → get_or cs j 0 < m
    before zero g l j f = absurd (not-suc-le-zero f)
    before (suc k) g l j f = omega (arith, cover-order cs h j k (omega arith) (omega arith))

-- so a test of partition i's two ends tells whether it is i
pub home-test : (cs : List ℕ) → cover cs ≡ true → (i m : ℕ) → i < length cs
    → eqb (home_of cs m) i ≡ (leb (start_of cs i) m && leb m (get_or cs i 0))
home-test cs h i m b = same_test (eqb (home_of cs m) i) (leb (start_of cs i) m && leb m (get_or cs i 0)) to back
  where
    to : eqb (home_of cs m) i ≡ true → (leb (start_of cs i) m && leb m (get_or cs i 0)) ≡ true
    to e =
        let is : home_of cs m ≡ i = eqb-true (home_of cs m) i e in
        let ends = rw is at (is_home cs m (omega arith)) in
        and_both (leb (start_of cs i) m) (leb m (get_or cs i 0)) (le-leb (start_of cs i) m ends.0)
        (le-leb m (get_or cs i 0) ends.1)

    back : (leb (start_of cs i) m && leb m (get_or cs i 0)) ≡ true → eqb (home_of cs m) i ≡ true
    back e =
        eq-eqb (home_of cs m) i
        (home-is cs h i m b
        (leb-true (start_of cs i) m (and_left (leb (start_of cs i) m) (leb m (get_or cs i 0)) e))
        (leb-true m (get_or cs i 0) (and_right (leb (start_of cs i) m) (leb m (get_or cs i 0)) e)))

-- ---- where a partition starts

-- the one after i starts one chronon after i ends
pub start-next : (cs : List ℕ) (i : ℕ) → start_of cs (i + 1) ≡ get_or cs i 0 + 1
unfolding start_of
start-next cs i = ap (start_of cs) (add-one i)

-- i starts one chronon after the one before it ends
pub start-after : (cs : List ℕ) (i : ℕ) → 0 < i → start_of cs i ≡ get_or cs (i - 1) 0 + 1
start-after cs i l = let e : i ≡ (i - 1) + 1 = omega arith in ap (start_of cs) e ∙ start-next cs (i - 1)

-- ---- the order of partitions is that of chronons

-- a later chronon has no earlier partition
pub home-rises : (cs : List ℕ) (m n : ℕ) → m ≤ n → home_of cs m ≤ home_of cs n
unfolding home_of
home-rises [] m n l = omega arith
home-rises (c ∷ cs) m n l =
    ⊎_elim (λ g. omega (arith, home_here c cs m g))
    (λ g. omega (arith, home-past c cs m g, home-past c cs n (omega arith), home-rises cs m n l))
    (le-or-lt m c)

-- a chronon past a cut lies in a later partition
pub home-above : (cs : List ℕ) → cover cs ≡ true → (i m : ℕ) → i < length cs → get_or cs i 0 < m → i < home_of cs m
home-above cs h i m b g =
    ⊎_elim
    (λ e. absurd (omega (arith, (is_home cs m (omega arith)).1, cover-order cs h (home_of cs m) i e b)))
    (λ e. e) (le-or-lt (home_of cs m) i)

-- one that is not lies in that partition, or in an earlier one
pub home_by : (cs : List ℕ) → cover cs ≡ true → (i m : ℕ) → i < length cs → m ≤ get_or cs i 0 → home_of cs m ≤ i
home_by cs h i m b g = ⊎_elim (λ e. e) (λ e. absurd (later e)) (le-or-lt (home_of cs m) i)
  where
    later : i < home_of cs m → ⊥
    later e =
        let inside = home-within cs h m (omega (arith, cut_most cs h i b)) in
        omega (
          arith,
          (is_home cs m inside).0,
          start-after cs (home_of cs m) (omega arith),
          cover-order cs h i (home_of cs m - 1) (omega arith) (omega arith),
        )

-- the earlier of two chronons has the earlier of their partitions
pub home-min : (cs : List ℕ) (m n : ℕ) → home_of cs (min m n) ≡ min (home_of cs m) (home_of cs n)
home-min cs m n = ⊎_elim first second (le-or-lt m n)
  where
    first : m ≤ n → home_of cs (min m n) ≡ min (home_of cs m) (home_of cs n)
    first l = let e : min m n ≡ m = omega arith in rw e (omega (arith, home-rises cs m n l))

    second : n < m → home_of cs (min m n) ≡ min (home_of cs m) (home_of cs n)
    second l = let e : min m n ≡ n = omega arith in rw e (omega (arith, home-rises cs n m (omega arith)))

-- ---- an interval that a partition does not touch

-- where the interval from a to b does not touch partition i, none of its chronons is in i
pub apart-home : (cs : List ℕ) (i a b : ℕ) → i < length cs → (leb (start_of cs i) b && leb a (get_or cs i 0)) ≡ false
    → (m : ℕ) → a ≤ m → m ≤ b → home_of cs m ≡ i → ⊥
apart-home cs i a b l apart m lo hi is =
    let ends = rw is at (is_home cs m (omega arith)) in
    false≢true
    (sym apart
    ∙ and_both (leb (start_of cs i) b) (leb a (get_or cs i 0)) (le-leb (start_of cs i) b (omega arith))
    (le-leb a (get_or cs i 0) (omega arith)))

-- ---- the cuts of a plan

-- as many as the plan has partitions
pub length-cuts : (p : Partitioning) → length p.lasts ≡ most_partitions → p.count ≤ most_partitions
    → length (cuts_of p) ≡ p.count
unfolding cuts_of
length-cuts p e l = simp (length-take, length-map) (omega arith)

-- place i, as the code reads it
abbrev pub read_at : List Chronon → ℕ → ℕ
read_at lasts i = (get_or lasts i (record { 0 = 0 })).0

-- it is cut i of the first n places
pub number_at : (n : ℕ) (lasts : List Chronon) (i : ℕ) → i < n → get_or (take n (numbers lasts)) i 0 ≡ read_at lasts i
number_at n lasts i l =
    get_or-take n (numbers lasts) i 0 l ∙ get_or-map (λ (m : Chronon). m.0) lasts i (record { 0 = 0 })

-- it is cut i of a plan
pub cut_at : (p : Partitioning) (i : ℕ) → i < p.count → get_or (cuts_of p) i 0 ≡ read_at p.lasts i
unfolding cuts_of
cut_at p i l = number_at p.count p.lasts i l

-- ---- a legal plan

-- what the checks of a plan ask
pub record LegalPlan (p : Partitioning) : Type 0 where
  pub least : 1 ≤ p.count
  pub most : p.count ≤ most_partitions
  pub covered : cover (cuts_of p) ≡ true
  pub tuples-least : 1 ≤ p.tuples
  pub tuples-most : p.tuples ≤ most_tuples
  pub rows-least : 1 ≤ p.rows
  pub rows-most : p.rows ≤ most_rows
  pub minimum-least : 1 ≤ p.minimum
  pub minimum-most : p.minimum ≤ most_minimum

-- a number that is not outside its bounds lies within them
pub within-is : (least most n : ℕ) → outside least most n ≡ false → (least ≤ n) × (n ≤ most)
within-is least most n e = (
  ltb-false n least (or-neither-left (ltb n least) (ltb most n) e),
  ltb-false most n (or-neither-right (ltb n least) (ltb most n) e),
)

-- a number within its bounds is not outside them
pub is_within : (least most n : ℕ) → least ≤ n → n ≤ most → outside least most n ≡ false
is_within least most n lo hi = or-none (ltb n least) (ltb most n) (le-ltb n least lo) (le-ltb most n hi)

-- one below them is outside
pub is_below : (least most n : ℕ) → n < least → outside least most n ≡ true
is_below least most n l = or_left (ltb n least) (ltb most n) (lt-ltb n least l)

-- one above them is outside
pub is-above : (least most n : ℕ) → most < n → outside least most n ≡ true
is-above least most n l = or_right (ltb n least) (ltb most n) (lt-ltb most n l)

-- where check 3 does not apply
sizes-are : (p : Partitioning) → refuse_if (outside 1 most_tuples p.tuples || outside 1 most_rows p.rows) 3 ≡ 0
    → ((1 ≤ p.tuples) × (p.tuples ≤ most_tuples)) × ((1 ≤ p.rows) × (p.rows ≤ most_rows))
sizes-are p e =
    let t : Bool = outside 1 most_tuples p.tuples in
    let r : Bool = outside 1 most_rows p.rows in
    let h = refuse-none (t || r) 2 e in (
      within-is 1 most_tuples p.tuples (or-neither-left t r h),
      within-is 1 most_rows p.rows (or-neither-right t r h),
    )

-- where check 18 does not apply, and where its bounds hold
pub minimum-is : (minimum : ℕ) → minimum_check minimum ≡ 0 → (1 ≤ minimum) × (minimum ≤ most_minimum)
unfolding minimum_check
minimum-is minimum e = within-is 1 most_minimum minimum (refuse-none (outside 1 most_minimum minimum) 17 e)

pub is-minimum : (minimum : ℕ) → 1 ≤ minimum → minimum ≤ most_minimum → minimum_check minimum ≡ 0
unfolding minimum_check
is-minimum minimum lo hi = rw (is_within 1 most_minimum minimum lo hi)

-- a plan to which no check applies
pub legal-plan : (p : Partitioning) → plan_number p ≡ 0 → LegalPlan p
unfolding plan_number
legal-plan p h =
    let a = first-none _ _ h in
    let b = first-none _ _ a.1 in
    let count = within-is 1 most_partitions p.count (refuse-none (outside 1 most_partitions p.count) 0 a.0) in
    let d = first-none _ _ b.1 in
    let sizes = sizes-are p d.0 in
    let minimum = minimum-is p.minimum (first-none _ _ d.1).0 in
    record {
      least = count.0;
      most = count.1;
      covered = not-false (cover (cuts_of p)) (refuse-none (not (cover (cuts_of p))) 1 b.0);
      tuples-least = sizes.0.0;
      tuples-most = sizes.0.1;
      rows-least = sizes.1.0;
      rows-most = sizes.1.1;
      minimum-least = minimum.0;
      minimum-most = minimum.1;
    }

-- no check applies to it
pub plan-legal : (p : Partitioning) → LegalPlan p → plan_number p ≡ 0
unfolding plan_number first_of
plan-legal p l =
    let count = is_within 1 most_partitions p.count l.least l.most in
    let tuples = is_within 1 most_tuples p.tuples l.tuples-least l.tuples-most in
    let rows = is_within 1 most_rows p.rows l.rows-least l.rows-most in
    rw (count, l.covered, tuples, rows, is-minimum p.minimum l.minimum-least l.minimum-most)

-- a plan's number 0 as a test that holds
pub plan-legal-test : (p : Partitioning) → plan_number p ≡ 0 → legal_plan p ≡ true
unfolding legal_plan
plan-legal-test p e = eq-eqb (plan_number p) 0 e

-- and back
pub test-plan-legal : (p : Partitioning) → legal_plan p ≡ true → plan_number p ≡ 0
unfolding legal_plan
test-plan-legal p h = eqb-true (plan_number p) 0 h

-- ---- the first check that applies answers

module _ (p : Partitioning) where
  -- check 1
  pub count-answers : outside 1 most_partitions p.count ≡ true → 1 ≡ plan_number p
  unfolding plan_number first_of
  count-answers e = rw e

  -- check 2, where check 1 does not apply
  pub cuts-answer : outside 1 most_partitions p.count ≡ false → cover (cuts_of p) ≡ false → 2 ≡ plan_number p
  unfolding plan_number first_of
  cuts-answer e h = rw (e, h)

  -- check 3, where neither does
  pub sizes-answer : outside 1 most_partitions p.count ≡ false → cover (cuts_of p) ≡ true
      → (outside 1 most_tuples p.tuples || outside 1 most_rows p.rows) ≡ true → 3 ≡ plan_number p
  unfolding plan_number first_of
  sizes-answer e h g = rw (e, h, g)

  -- check 18, where none of them does
  pub minimum-answers : outside 1 most_partitions p.count ≡ false → cover (cuts_of p) ≡ true
      → (outside 1 most_tuples p.tuples || outside 1 most_rows p.rows) ≡ false
      → minimum_check p.minimum ≡ plan_number p
  unfolding plan_number
  minimum-answers e h g =
      let m : ℕ = minimum_check p.minimum in
      answer-last {r = m} {m = m} refl
      ∙ sym
      (first_next (refuse_if (outside 1 most_partitions p.count) 1) _ (rw e)
      ∙ first_next (refuse_if (not (cover (cuts_of p))) 2) _ (rw h)
      ∙ first_next (refuse_if (outside 1 most_tuples p.tuples || outside 1 most_rows p.rows) 3) _ (rw g))
