-- The gaps of a tuple are its longest uncovered stretches, each once, rising; no other list is (specs/Longest).
-- In order: laws of a longest stretch; the uncovered stretch from a minute on; the longest stretches from a minute on:
-- past the last minute, at a covered minute, at an uncovered one, and at any; `GapsAreLongest`; two rising lists with
-- the same members; `OnlyGaps`.
-- Assumes nothing.
use mathlib.Core.Bool.{true, false, true≢false, false≢true}
use mathlib.Core.List.{List, [], ◌∷◌}
use mathlib.Core.Logic.{◌⊎◌, inl, inr, ⊎_elim}
use mathlib.Core.Path.{◌≡◌, refl, sym, ◌∙◌}
use Prim.Native.Nat.{ℕ, zero, suc, ◌+◌, ◌-◌, ◌≤◌, ◌<◌}
use native.Mathlib.Numerals.{add-one}
use native.Mathlib.Omega.{arith}
use lib.Dec.{eqb, ltb}
use borrow.Author.Tests.{ltb-true, lt-ltb, eq-eqb}
use Rattle.lists.specs.Members.{any}
use Rattle.lists.proofs.Choice.{bool_cases, and_left, and_right, and_both, or_left, or_right, same_test}
use Rattle.interval.specs.Time.{span}
use Rattle.interval.specs.Tuple.{from, to, during, same_interval}
use Rattle.interval.specs.declared.time.Interval.{Interval}
use Rattle.interval.specs.declared.tuple.Tuple.{Tuple}
use Rattle.interval.specs.declared.tuple.Row.{Row}
use Rattle.interval.proofs.Overlap.{contains-is, is-contains}
use Rattle.interval.proofs.Tuples.{same-interval-is}
use Rattle.plan.proofs.Homes.{le-or-lt}
use Rattle.coverage.specs.Gaps.{chronon, covered, gaps_of}
use Rattle.coverage.specs.Longest.{Longest, GapsAre, GapsAreLongest, OnlyGaps, rising}
use Rattle.coverage.proofs.Stretches.{gaps_from, gaps-whole, gaps-end, gaps-covered, gaps-take}

-- the first of a list is a member
is-first : (v : Interval) (vs : List Interval) → any (same_interval v) (v ∷ vs) ≡ true
is-first v vs = or_left (same_interval v v) (any (same_interval v) vs) (same-interval-is.itself v)

-- ---- a longest stretch

module _ (d : Tuple) (rs : List Row) where
  -- its minutes are uncovered
  longest-free : (v : Interval) → Longest d rs v → (m : ℕ) → v.first.0 ≤ m → m ≤ v.last.0 → covered rs m ≡ false
  longest-free v g m lo hi = g.free m (is-contains v (chronon m) lo hi)

  -- two that start together end together
  not-longer : (u v : Interval) → u.first.0 ≡ v.first.0 → Longest d rs u → Longest d rs v → u.last.0 ≤ v.last.0
  not-longer u v e g h = omega (arith, more)
    where
      more : v.last.0 < u.last.0 → ⊥
      more l = true≢false (sym (h.right (omega arith)) ∙ longest-free u g (suc v.last.0) (omega arith) l)

-- the tuple from minute m on
abbrev since : Tuple → ℕ → Tuple
since d m = during d (span m (to d))

module _ (d : Tuple) (rs : List Row) where
  -- a longest stretch from a minute on is one from a later minute on, if it starts there or later; and from an earlier
  -- minute on, if the minute before it is covered where that is earlier than the later one
  longest-later : (m n : ℕ) (v : Interval) → m ≤ n → n ≤ v.first.0 → Longest (since d m) rs v
      → Longest (since d n) rs v
  longest-later m n v l s g = record {
    some = g.some;
    starts = s;
    stops = g.stops;
    free = g.free;
    left = λ k e lo. g.left k e (omega arith);
    right = g.right;
  }

  longest-earlier : (m n : ℕ) (v : Interval) → m ≤ n → ((k : ℕ) → suc k ≡ v.first.0 → k < n → covered rs k ≡ true)
      → Longest (since d n) rs v → Longest (since d m) rs v
  longest-earlier m n v l h g = record {
    some = g.some;
    starts = omega arith;
    stops = g.stops;
    free = g.free;
    left = λ k e lo. ⊎_elim (g.left k e) (h k e) (le-or-lt n k);
    right = g.right;
  }

-- ---- the uncovered stretch from minute m on: it ends at e

record Uncovered (d : Tuple) (rs : List Row) (m e : ℕ) : Type 0 where
  some : m ≤ e
  stops : e ≤ to d
  free : (x : ℕ) → m ≤ x → x ≤ e → covered rs x ≡ false
  next : e < to d → covered rs (e + 1) ≡ true

module _ (d : Tuple) (rs : List Row) where
  uncovered-one : (m : ℕ) → m ≤ to d → covered rs m ≡ false → (m < to d → covered rs (m + 1) ≡ true)
      → Uncovered d rs m m
  uncovered-one m l h n = record {
    some = omega arith;
    stops = l;
    free = λ x lo hi. let e : x ≡ m = omega arith in rw e h;
    next = n;
  }

  uncovered-more : (m e : ℕ) → covered rs m ≡ false → Uncovered d rs (m + 1) e → Uncovered d rs m e
  uncovered-more m e h u = record {
    some = omega arith;
    stops = u.stops;
    free = λ x lo hi.
        ⊎_elim (λ l. u.free x (omega arith) hi) (λ l. let q : x ≡ m = omega arith in rw q h) (le-or-lt (m + 1) x);
    next = u.next;
  }

  uncovered-from : (k m : ℕ) → m + k ≡ to d → covered rs m ≡ false → (e : ℕ) × Uncovered d rs m e
  uncovered-from zero m q h = (m, uncovered-one m (omega arith) h (λ l. absurd (omega arith)))
  uncovered-from (suc k) m q h =
      ⊎_elim (λ c. (m, uncovered-one m (omega arith) h (λ l. c)))
      (λ c. let r = uncovered-from k (m + 1) (omega arith) c in (r.0, uncovered-more m r.0 h r.1))
      (bool_cases (covered rs (m + 1)))

module _ (d : Tuple) (rs : List Row) (m e : ℕ) (u : Uncovered d rs m e) where
  -- it is a longest one from m on
  uncovered-longest : Longest (since d m) rs (span m e)
  uncovered-longest = record {
    some = u.some;
    starts = omega arith;
    stops = u.stops;
    free = λ x h. let i = contains-is (span m e) (chronon x) h in u.free x i.0 i.1;
    left = λ k q lo. absurd (omega arith);
    right = λ l. rw (← add-one e) (u.next l);
  }

  -- any from m on that starts in it is it
  uncovered-start : (v : Interval) → Longest (since d m) rs v → v.first.0 ≤ e → v.first.0 ≡ m
  uncovered-start v g h = omega (arith, inside)
    where
      inside : m < v.first.0 → ⊥
      inside l =
          let k : ℕ = v.first.0 - 1 in
          true≢false (sym (g.left k (omega arith) (omega arith)) ∙ u.free k (omega arith) (omega arith))

  uncovered-only : (v : Interval) → Longest (since d m) rs v → v.first.0 ≤ e → same_interval v (span m e) ≡ true
  unfolding same_interval
  uncovered-only v g h =
      let q = uncovered-start v g h in
      let a = not-longer (since d m) rs v (span m e) q g uncovered-longest in
      let b = not-longer (since d m) rs (span m e) v (sym q) uncovered-longest g in
      and_both (eqb v.first.0 m) (eqb v.last.0 e) (eq-eqb v.first.0 m q)
      (eq-eqb v.last.0 e (omega arith))

  -- one from the minute after it on starts later than that
  uncovered-then : (v : Interval) → Longest (since d (e + 1)) rs v → suc e < v.first.0
  uncovered-then v g = omega (arith, meets)
    where
      meets : v.first.0 < suc (suc e) → ⊥
      meets l =
          true≢false
          (sym (u.next (omega arith)) ∙ longest-free (since d (e + 1)) rs v g (e + 1) (omega arith) (omega arith))

-- ---- the longest stretches from minute m on

module _ (d : Tuple) (rs : List Row) where
  -- past the last minute there is none
  gaps-none : (m : ℕ) → to d < m → GapsAre (since d m) rs []
  unfolding rising
  gaps-none m l = record {
    each = λ v h. absurd (false≢true h);
    every = λ v g. absurd (omega arith);
    order = refl;
  }

  -- from a covered minute on they are those from the next on
  gaps-past : (m : ℕ) (vs : List Interval) → covered rs m ≡ true → GapsAre (since d (m + 1)) rs vs
      → GapsAre (since d m) rs vs
  gaps-past m vs c g = record {
    each = λ v h. longest-earlier d rs m (m + 1) v (omega arith) (at v (g.each v h)) (g.each v h);
    every = λ v l. g.every v (longest-later d rs m (m + 1) v (omega arith) (after v l) l);
    order = g.order;
  }
    where
      at : (v : Interval) → Longest (since d (m + 1)) rs v → (k : ℕ) → suc k ≡ v.first.0 → k < m + 1
          → covered rs k ≡ true
      at v l k e h = let q : k ≡ m = omega arith in rw q c

      after : (v : Interval) → Longest (since d m) rs v → m + 1 ≤ v.first.0
      after v l = omega (arith, meets)
        where
          meets : v.first.0 < m + 1 → ⊥
          meets h = true≢false (sym c ∙ longest-free (since d m) rs v l m (omega arith) (omega arith))

-- from an uncovered minute m on, the uncovered stretch m .. e is the first, and the others are those from the minute
-- after it on
module _ (d : Tuple) (rs : List Row) (m e : ℕ) (u : Uncovered d rs m e) (vs : List Interval)
    (g : GapsAre (since d (e + 1)) rs vs) where
  then-each : (v : Interval) → any (same_interval v) (span m e ∷ vs) ≡ true → Longest (since d m) rs v
  then-each v h =
      ⊎_elim (λ q. rw (same-interval-is.equal v (span m e) q) (uncovered-longest d rs m e u)) later
      (bool_cases (same_interval v (span m e)))
    where
      later : same_interval v (span m e) ≡ false → Longest (since d m) rs v
      later n =
          let l = g.each v (rw n at h) in
          longest-earlier d rs m (e + 1) v (omega arith)
          (λ k q i. absurd (omega (arith, uncovered-then d rs m e u v l))) l

  then-every : (v : Interval) → Longest (since d m) rs v → any (same_interval v) (span m e ∷ vs) ≡ true
  then-every v l =
      ⊎_elim (λ h. or_left (same_interval v (span m e)) (any (same_interval v) vs) (uncovered-only d rs m e u v l h))
      (λ h. or_right (same_interval v (span m e)) (any (same_interval v) vs) (g.every v (later h)))
      (le-or-lt v.first.0 e)
    where
      later : e < v.first.0 → Longest (since d (e + 1)) rs v
      later h = longest-later d rs m (e + 1) v (omega arith) (omega arith) l

then-order : (d : Tuple) (rs : List Row) (m e : ℕ) → Uncovered d rs m e → (vs : List Interval)
    → GapsAre (since d (e + 1)) rs vs → rising (span m e ∷ vs) ≡ true
unfolding rising
then-order d rs m e u [] g = refl
then-order d rs m e u (v ∷ vs) g =
    let l = g.each v (is-first v vs) in
    and_both (ltb (suc e) v.first.0) (rising (v ∷ vs))
    (lt-ltb (suc e) v.first.0 (uncovered-then d rs m e u v l)) g.order

module _ (d : Tuple) (rs : List Row) where
  gaps-then : (m e : ℕ) (vs : List Interval) → Uncovered d rs m e → GapsAre (since d (e + 1)) rs vs
      → GapsAre (since d m) rs (span m e ∷ vs)
  gaps-then m e vs u g = record {
    each = then-each d rs m e u vs g;
    every = then-every d rs m e u vs g;
    order = then-order d rs m e u vs g;
  }

  -- so from any minute on, where they are known from every later one on
  gaps-step : (m : ℕ) → ((n : ℕ) → m < n → GapsAre (since d n) rs (gaps_from d rs n))
      → GapsAre (since d m) rs (gaps_from d rs m)
  gaps-step m later = ⊎_elim inside (λ l. rw (gaps-end d rs m l) (gaps-none d rs m l)) (le-or-lt m (to d))
    where
      taken : (e : ℕ) → Uncovered d rs m e → GapsAre (since d m) rs (gaps_from d rs m)
      taken e u =
          rw (gaps-take d rs m e u.some u.stops u.free u.next)
          (gaps-then m e (gaps_from d rs (e + 1)) u (later (e + 1) (omega arith)))

      inside : m ≤ to d → GapsAre (since d m) rs (gaps_from d rs m)
      inside l =
          ⊎_elim
          (λ c. rw (gaps-covered d rs m c) (gaps-past d rs m (gaps_from d rs (m + 1)) c (later (m + 1) (omega arith))))
          (λ c. let r = uncovered-from d rs (to d - m) m (omega arith) c in taken r.0 r.1)
          (bool_cases (covered rs m))

  gaps-since : (n m : ℕ) → to d < m + n → GapsAre (since d m) rs (gaps_from d rs m)
  gaps-since zero m l = rw (gaps-end d rs m (omega arith)) (gaps-none d rs m (omega arith))
  gaps-since (suc n) m l = gaps-step m (λ k h. gaps-since n k (omega arith))

pub gaps-are-longest : GapsAreLongest
gaps-are-longest d rs = rw (gaps-whole d rs) (gaps-since d rs (suc (to d)) (from d) (omega arith))

-- ---- two rising lists with the same members

-- a rising list of intervals that have a minute
record Ordered (vs : List Interval) : Type 0 where
  full : (v : Interval) → any (same_interval v) vs ≡ true → v.first.0 ≤ v.last.0
  order : rising vs ≡ true

-- without its first member it is one too
ordered-rest : (v : Interval) (vs : List Interval) → Ordered (v ∷ vs) → Ordered vs
unfolding rising
ordered-rest v [] o = record { full = λ u h. absurd (false≢true h); order = refl }
ordered-rest v (w ∷ ws) o = record {
  full = λ u h. o.full u (or_right (same_interval u v) (any (same_interval u) (w ∷ ws)) h);
  order = and_right (ltb (suc v.last.0) w.first.0) (rising (w ∷ ws)) o.order;
}

-- the members after the first start later
ordered-later : (v : Interval) (vs : List Interval) → Ordered (v ∷ vs) → (u : Interval)
    → any (same_interval u) vs ≡ true → v.first.0 < u.first.0
unfolding rising
ordered-later v [] o u h = absurd (false≢true h)
ordered-later v (w ∷ ws) o u h =
    ⊎_elim (λ q. rw (same-interval-is.equal u w q) next)
    (λ n. omega (arith, next, ordered-later w ws (ordered-rest v (w ∷ ws) o) u (rw n at h)))
    (bool_cases (same_interval u w))
  where
    next : v.first.0 < w.first.0
    next =
        let l = ltb-true (suc v.last.0) w.first.0 (and_left _ (rising (w ∷ ws)) o.order) in
        omega (arith, o.full v (is-first v (w ∷ ws)))

-- a member is the first or starts later
first-or-later : (v : Interval) (vs : List Interval) → Ordered (v ∷ vs) → (u : Interval)
    → any (same_interval u) (v ∷ vs) ≡ true → (u ≡ v) ⊎ (v.first.0 < u.first.0)
first-or-later v vs o u h =
    ⊎_elim (λ q. inl (same-interval-is.equal u v q)) (λ n. inr (ordered-later v vs o u (rw n at h)))
    (bool_cases (same_interval u v))

module _ (v w : Interval) (vs ws : List Interval) (o : Ordered (v ∷ vs)) (p : Ordered (w ∷ ws)) where
  -- each list's first member is one of the other
  same_first : any (same_interval v) (w ∷ ws) ≡ true → any (same_interval w) (v ∷ vs) ≡ true → v ≡ w
  same_first h k =
      ⊎_elim (λ q. q)
      (λ l. ⊎_elim (λ q. sym q) (λ m. absurd (omega arith)) (first-or-later v vs o w k))
      (first-or-later w ws p v h)

  -- a later member of the first list is a later one of the second
  same-later : v ≡ w → (u : Interval) → any (same_interval u) vs ≡ true → any (same_interval u) (w ∷ ws) ≡ true
      → any (same_interval u) ws ≡ true
  same-later e u h k =
      ⊎_elim (λ q. absurd (itself (same-interval-is.equal u w q ∙ sym e))) (λ n. rw n at k)
      (bool_cases (same_interval u w))
    where
      itself : u ≡ v → ⊥
      itself q = omega (arith, ordered-later v vs o v (rw q at h))

same_rest : (v w : Interval) (vs ws : List Interval) → Ordered (v ∷ vs) → Ordered (w ∷ ws) → v ≡ w → (u : Interval)
    → any (same_interval u) (v ∷ vs) ≡ any (same_interval u) (w ∷ ws)
    → any (same_interval u) vs ≡ any (same_interval u) ws
same_rest v w vs ws o p e u h =
    same_test (any (same_interval u) vs) (any (same_interval u) ws)
    (λ k. same-later v w vs ws o p e u k (sym h ∙ or_right (same_interval u v) (any (same_interval u) vs) k))
    (λ k. same-later w v ws vs p o (sym e) u k (h ∙ or_right (same_interval u w) (any (same_interval u) ws) k))

-- so they are equal
ordered_same : (vs ws : List Interval) → Ordered vs → Ordered ws
    → ((u : Interval) → any (same_interval u) vs ≡ any (same_interval u) ws) → vs ≡ ws
ordered_same [] [] o p h = refl
ordered_same [] (w ∷ ws) o p h = absurd (false≢true (h w ∙ is-first w ws))
ordered_same (v ∷ vs) [] o p h = absurd (false≢true (sym (h v) ∙ is-first v vs))
ordered_same (v ∷ vs) (w ∷ ws) o p h =
    let e = same_first v w vs ws o p (sym (h v) ∙ is-first v vs) (h w ∙ is-first w ws) in
    let r =
    ordered_same vs ws (ordered-rest v vs o) (ordered-rest w ws p) (λ u. same_rest v w vs ws o p e u (h u)) in
    rw (e, r)

module _ (d : Tuple) (rs : List Row) (vs : List Interval) (g : GapsAre d rs vs) where
  gaps-ordered : Ordered vs
  gaps-ordered = record { full = λ v h. (g.each v h).some; order = g.order }

  gaps-same : (ws : List Interval) → GapsAre d rs ws → (u : Interval)
      → any (same_interval u) vs ≡ any (same_interval u) ws
  gaps-same ws k u =
      same_test (any (same_interval u) vs) (any (same_interval u) ws) (λ h. k.every u (g.each u h))
      (λ h. g.every u (k.each u h))

pub only-gaps : OnlyGaps
only-gaps d rs vs g =
    let k = gaps-are-longest d rs in
    ordered_same vs (gaps_of d rs) (gaps-ordered d rs vs g) (gaps-ordered d rs (gaps_of d rs) k)
    (gaps-same d rs vs g (gaps_of d rs) k)
