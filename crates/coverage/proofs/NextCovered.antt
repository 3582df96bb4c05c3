-- Laws of the next covered stretch (specs/NextCovered).
-- In order: the cases of `nearer`; `nearest` of a list after another, of rows that end too early, along the loops; the
-- rows of a tuple, from the partition of a minute up. What it says of the minutes is in Nearest.
-- Assumes nothing.
use mathlib.Core.Bool.{true}
use mathlib.Core.List.{List, [], ◌∷◌, ◌++◌, append-nil}
use mathlib.Core.Logic.{⊎_elim}
use mathlib.Core.Path.{◌≡◌, refl, sym, ap, ◌∙◌}
use Prim.Native.Nat.{ℕ, ◌+◌, ◌-◌, ◌≤◌, ◌<◌, max}
use native.Mathlib.Nat.{zero-add}
use native.Mathlib.Omega.{arith}
use lib.Dec.{ltb, eqb}
use borrow.Author.Tests.{ltb-true, eqb-true, lt-ltb, le-ltb}
use Rattle.lists.specs.Members.{all, gather, up_from, below}
use Rattle.lists.proofs.Choice.{and_left, and_right}
use Rattle.lists.proofs.Members.{all-imply}
use Rattle.lists.proofs.Gather.{all-gather, gather_append}
use Rattle.lists.proofs.Below.{up_next, up-end, up_split, below_all}
use Rattle.interval.specs.Time.{span}
use Rattle.interval.specs.Tuple.{to, row_to, legal_tuple}
use Rattle.interval.specs.declared.time.Interval.{Interval}
use Rattle.interval.specs.declared.tuple.Tuple.{Tuple}
use Rattle.interval.specs.declared.tuple.Row.{Row}
use Rattle.plan.specs.Plan.{cuts_of, home}
use Rattle.plan.specs.declared.Partitioning.{Partitioning}
use Rattle.plan.proofs.Homes.{home-rises, le-or-lt}
use Rattle.part.specs.Part.{tuples_in}
use Rattle.store.specs.Store.{tuple_room, tuple_part, tuple_at_home, sound_tuples, stored_tuples}
use Rattle.store.proofs.Stores.{tuples-at-home, sound-tuples-at}
use Rattle.rows.specs.Join.{orient, made_with}
use Rattle.rows.specs.Partners.{made_at, made_from}
use Rattle.rows.specs.declared.Side.TheVariants.{Outer}
use Rattle.rows.proofs.Joins.{join-outer-more, join-empty-left, made_all, orient-last}
use Rattle.rows.proofs.JoinsStored.{home-count, made-stored}
use Rattle.coverage.specs.Gaps.{rows_of}
use Rattle.coverage.specs.NextCovered.{nearer, nearest, beyond, next_covered}

-- an interval by its two minutes
pub span-is : (v : Interval) {first last : ℕ} → v.first.0 ≡ first → v.last.0 ≡ last → v ≡ span first last
span-is v e f = λ i. record { first = record { 0 = e i }; last = record { 0 = f i } }

-- ---- the cases of `nearer`, where `start` is the later of m and the row's first minute

module _ (m : ℕ) (best v : Interval) where
  pub nearer-early : v.last.0 < m → nearer m best v ≡ best
  unfolding nearer
  nearer-early l = rw (lt-ltb v.last.0 m l)

  pub nearer-later : m ≤ v.last.0 → best.first.0 < max m v.first.0 → nearer m best v ≡ best
  unfolding nearer
  nearer-later l h = rw (le-ltb v.last.0 m l, lt-ltb best.first.0 (max m v.first.0) h)

  pub nearer-first : m ≤ v.last.0 → max m v.first.0 < best.first.0
      → nearer m best v ≡ span (max m v.first.0) v.last.0
  unfolding nearer
  nearer-first l h =
      let not-later : max m v.first.0 ≤ best.first.0 = omega arith in
      rw (
        le-ltb v.last.0 m l,
        le-ltb best.first.0 (max m v.first.0) not-later,
        lt-ltb (max m v.first.0) best.first.0 h,
      )

  pub nearer-both : m ≤ v.last.0 → max m v.first.0 ≡ best.first.0
      → nearer m best v ≡ span (max m v.first.0) (max best.last.0 v.last.0)
  unfolding nearer
  nearer-both l e =
      let not-later : max m v.first.0 ≤ best.first.0 = omega arith in
      let not_first : best.first.0 ≤ max m v.first.0 = omega arith in
      rw (
        le-ltb v.last.0 m l,
        le-ltb best.first.0 (max m v.first.0) not-later,
        le-ltb (max m v.first.0) best.first.0 not_first,
      )

-- ---- `nearest` of a list after another, of rows that end too early

pub nearest-append : (m : ℕ) (best : Interval) (rs ss : List Row)
    → nearest m best (rs ++ ss) ≡ nearest m (nearest m best rs) ss
nearest-append m best [] ss = refl
nearest-append m best (r ∷ rs) ss = nearest-append m (nearer m best r.valid) rs ss

nearest-early : (m : ℕ) (best : Interval) (rs : List Row) → all (λ r. ltb (row_to r) m) rs ≡ true
    → nearest m best rs ≡ best
nearest-early m best [] h = refl
nearest-early m best (r ∷ rs) h =
    let here = ltb-true (row_to r) m (and_left (ltb (row_to r) m) (all (λ r. ltb (row_to r) m) rs) h) in
    rw (nearer-early m best r.valid here)
    (nearest-early m best rs (and_right (ltb (row_to r) m) (all (λ r. ltb (row_to r) m) rs) h))

-- ---- along the partitions from j on below n

module _ (minimum : ℕ) (d : Tuple) (room : ℕ) (inner : List ℕ) (m n : ℕ) where
  -- what is left from partition j on
  abbrev pub left_from : ℕ → Interval → Interval
  left_from j found = nearest m found (made_from minimum Outer d room inner j (n - j))

  pub from_next : (j : ℕ) → j < n → (found : Interval)
      → left_from j found ≡ left_from (j + 1) (nearest m found (made_at minimum Outer d room inner j))
  unfolding made_from
  from_next j l found = rw (up_next j n l) (nearest-append m found (made_at minimum Outer d room inner j) _)

  pub from_end : (j : ℕ) → n ≤ j → (found : Interval) → left_from j found ≡ found
  unfolding made_from
  from_end j l found = rw (up-end j n l)

-- ---- the rows of a tuple, from the partition of a minute up

pub rows-of-made : (p : Partitioning) (inner : List ℕ) (d : Tuple)
    → rows_of p inner d ≡ made_with p.minimum Outer d (stored_tuples p inner)
rows-of-made p inner d =
    join-outer-more p.minimum d [] (stored_tuples p inner)
    ∙ rw (join-empty-left p.minimum (stored_tuples p inner)) (append-nil _)

module _ (p : Partitioning) (inner : List ℕ) (sound : sound_tuples p inner ≡ true) (d : Tuple) (m : ℕ) where
  -- the rows that d makes with a partition before that of m end before m
  early : (j : ℕ) → j < home p m
      → all (λ r. ltb (row_to r) m) (made_at p.minimum Outer d (tuple_room p) inner j) ≡ true
  unfolding made_at tuple_at_home home
  early j l =
      made_all (λ r. ltb (row_to r) m) (tuple_at_home p j) p.minimum Outer d (tuples_in (tuple_part p inner j)) at
      (tuples-at-home p j (tuple_part p inner j) (sound-tuples-at p inner sound j (omega (arith, home-count p m))))
    where
      at : (u : Tuple) → tuple_at_home p j u ≡ true
          → all (λ r. ltb (row_to r) m) (orient p.minimum Outer d u) ≡ true
      at u e =
          let is = eqb-true (home p (to u)) j (and_right (legal_tuple u) (eqb (home p (to u)) j) e) in
          let before : to u < m =
          ⊎_elim (λ g. absurd (omega (arith, home-rises (cuts_of p) m (to u) g))) (λ g. g) (le-or-lt m (to u)) in
          all-imply (λ r. eqb (row_to r) _) (λ r. ltb (row_to r) m) (orient p.minimum Outer d u)
          (λ r q. lt-ltb (row_to r) m (omega (arith, eqb-true (row_to r) _ q))) (orient-last p.minimum Outer d u)

  -- so the nearest of the others is the nearest of all
  pub next-from-home : nearest m (beyond d)
      (made_from p.minimum Outer d (tuple_room p) inner (home p m) (p.count - home p m))
      ≡ next_covered d (rows_of p inner d) m
  unfolding next_covered made_from
  next-from-home =
      let low = home p m in
      let made = made_at p.minimum Outer d (tuple_room p) inner in
      let whole : p.count ≡ low + (p.count - low) = omega (arith, home-count p m) in
      let none : nearest m (beyond d) (gather made (below low)) ≡ beyond d =
      nearest-early m (beyond d) (gather made (below low))
      (all-gather (λ r. ltb (row_to r) m) made (below low) ∙ below_all _ low early) in
      sym (ap (nearest m (beyond d)) (rows-of-made p inner d ∙ made-stored p inner Outer d)
      ∙ ap (λ (k : ℕ). nearest m (beyond d) (gather made (below k))) whole
      ∙ ap (λ (js : List ℕ). nearest m (beyond d) (gather made js)) (up_split 0 low (p.count - low))
      ∙ ap (nearest m (beyond d)) (gather_append made (below low) (up_from (0 + low) (p.count - low)))
      ∙ nearest-append m (beyond d) (gather made (below low)) _
      ∙ rw (none, zero-add))
