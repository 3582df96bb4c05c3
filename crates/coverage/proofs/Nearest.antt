-- What the next covered stretch (specs/NextCovered) says of the minutes: none before it is covered, each of it is.
-- In order: a row and a minute; `Nearest`, of no row yet, with one row more, and of all rows; the gaps of a tuple from
-- a minute on, by the next covered stretch from there.
-- Assumes nothing.
use mathlib.Core.Bool.{Bool, true, false, ◌&&◌, ◌||◌, and-false, or-false}
use mathlib.Core.List.{List, [], ◌∷◌}
use mathlib.Core.Logic.{⊎_elim}
use mathlib.Core.Path.{◌≡◌, refl, sym, ap, ◌∙◌}
use Prim.Native.Nat.{ℕ, suc, ◌+◌, ◌-◌, ◌≤◌, ◌<◌, max}
use native.Mathlib.Omega.{arith}
use lib.Dec.{leb}
use borrow.Author.Tests.{leb-true, le-leb, lt-leb}
use Rattle.lists.specs.Members.{all}
use Rattle.lists.proofs.Choice.{and_left, and_right, and_both, or_left, or_right, or-none}
use Rattle.interval.specs.Time.{span, contains}
use Rattle.interval.specs.Tuple.{to, row_to}
use Rattle.interval.specs.declared.time.Interval.{Interval}
use Rattle.interval.specs.declared.tuple.Tuple.{Tuple}
use Rattle.interval.specs.declared.tuple.Row.{Row}
use Rattle.interval.proofs.Overlap.{is-contains}
use Rattle.plan.specs.declared.Partitioning.{Partitioning}
use Rattle.plan.proofs.Homes.{le-or-lt}
use Rattle.store.specs.Store.{stored_tuples}
use Rattle.rows.specs.declared.Side.TheVariants.{Outer}
use Rattle.rows.proofs.Joins.{common, pair-all, made_each}
use Rattle.coverage.specs.Gaps.{chronon, rows_of, covered}
use Rattle.coverage.specs.NextCovered.{nearer, nearest, next_covered}
use Rattle.coverage.proofs.Stretches.{gaps_from, gaps-end, gaps-skip, gaps-take}
use Rattle.coverage.proofs.NextCovered.{nearer-early, nearer-later, nearer-first, nearer-both, rows-of-made}

-- ---- a row and a minute

-- a row that begins no later than it ends, and ends by minute e
abbrev ends : ℕ → Row → Bool
ends e r = leb r.valid.first.0 (row_to r) && leb (row_to r) e

-- minutes before and after an interval are not in it
before-it : (v : Interval) (x : ℕ) → x < v.first.0 → contains v (chronon x) ≡ false
unfolding contains
before-it v x l = rw (lt-leb v.first.0 x l)

after-it : (v : Interval) (x : ℕ) → v.last.0 < x → contains v (chronon x) ≡ false
unfolding contains
after-it v x l = rw (lt-leb x v.last.0 l) (and-false (leb v.first.0 x))

-- ---- of the stretch v, found from minute m on, where the rows seen cover the minutes that pass the test `hung`, and
-- the tuple ends at e

pub record Nearest (m e : ℕ) (hung : ℕ → Bool) (v : Interval) : Type 0 where
  pub after : m ≤ v.first.0
  pub forward : v.first.0 ≤ v.last.0
  pub most : v.last.0 ≤ suc e
  pub free : (x : ℕ) → m ≤ x → x < v.first.0 → hung x ≡ false
  pub held : v.first.0 ≤ e → (x : ℕ) → v.first.0 ≤ x → x ≤ v.last.0 → hung x ≡ true

module _ (m e : ℕ) where
  -- the same minutes
  same-minutes : (f g : ℕ → Bool) (v : Interval) → ((x : ℕ) → f x ≡ g x) → Nearest m e f v → Nearest m e g v
  same-minutes f g v h n = record {
    after = n.after;
    forward = n.forward;
    most = n.most;
    free = λ x a b. sym (h x) ∙ n.free x a b;
    held = λ i x a b. sym (h x) ∙ n.held i x a b;
  }

  -- no row yet
  none_yet : m ≤ suc e → Nearest m e (λ x. false) (span (e + 1) (e + 1))
  none_yet l = record {
    after = omega arith;
    forward = omega arith;
    most = omega arith;
    free = λ x a b. refl;
    held = λ i. absurd (omega arith);
  }

  -- one row more
  module _ (hung : ℕ → Bool) (best : Interval) (n : Nearest m e hung best) (r : Row) (lo : r.valid.first.0 ≤ row_to r)
      (hi : row_to r ≤ e) where
    with_row : ℕ → Bool
    with_row x = contains r.valid (chronon x) || hung x

    -- what is found stays where the row covers no minute before it
    stays : ((x : ℕ) → m ≤ x → x < best.first.0 → contains r.valid (chronon x) ≡ false)
        → Nearest m e with_row best
    unfolding with_row
    stays h = record {
      after = n.after;
      forward = n.forward;
      most = n.most;
      free = λ x a b. or-none (contains r.valid (chronon x)) (hung x) (h x a b) (n.free x a b);
      held = λ i x a b. or_right (contains r.valid (chronon x)) (hung x) (n.held i x a b);
    }

    -- the row starts first
    first : m ≤ row_to r → max m r.valid.first.0 < best.first.0
        → Nearest m e with_row (span (max m r.valid.first.0) (row_to r))
    unfolding with_row
    first l h = record {
      after = omega arith;
      forward = omega arith;
      most = omega arith;
      free = λ x a b.
          or-none (contains r.valid (chronon x)) (hung x) (before-it r.valid x (omega arith))
          (n.free x a (omega arith));
      held = λ i x a b.
          or_left (contains r.valid (chronon x)) (hung x)
          (is-contains r.valid (chronon x) (omega arith) (omega arith));
    }

    -- both start together
    both : m ≤ row_to r → max m r.valid.first.0 ≡ best.first.0
        → Nearest m e with_row (span (max m r.valid.first.0) (max best.last.0 (row_to r)))
    unfolding with_row
    both l h = record {
      after = omega arith;
      forward = omega (arith, n.forward);
      most = omega (arith, n.most);
      free = λ x a b.
          or-none (contains r.valid (chronon x)) (hung x) (before-it r.valid x (omega arith))
          (n.free x a (omega arith));
      held = λ i x a b. ⊎_elim (in_row x a) (in-best x a b) (le-or-lt x (row_to r));
    }
      where
        in_row : (x : ℕ) → max m r.valid.first.0 ≤ x → x ≤ row_to r
            → (contains r.valid (chronon x) || hung x) ≡ true
        in_row x a g =
            or_left (contains r.valid (chronon x)) (hung x)
            (is-contains r.valid (chronon x) (omega arith) g)

        in-best : (x : ℕ) → max m r.valid.first.0 ≤ x → x ≤ max best.last.0 (row_to r) → row_to r < x
            → (contains r.valid (chronon x) || hung x) ≡ true
        in-best x a b g =
            or_right (contains r.valid (chronon x)) (hung x)
            (n.held (omega arith) x (omega arith) (omega arith))

    one_more : Nearest m e with_row (nearer m best r.valid)
    one_more = ⊎_elim reaches early (le-or-lt m (row_to r))
      where
        early : row_to r < m → Nearest m e with_row (nearer m best r.valid)
        early l =
            rw (nearer-early m best r.valid l) (stays (λ x a b. after-it r.valid x (omega arith)))

        reaches : m ≤ row_to r → Nearest m e with_row (nearer m best r.valid)
        reaches l =
            ⊎_elim
            (λ g. ⊎_elim
            (λ k.
            let q : max m r.valid.first.0 ≡ best.first.0 = omega arith in
            rw (nearer-both m best r.valid l q) (both l q))
            (λ k. rw (nearer-first m best r.valid l k) (first l k))
            (le-or-lt best.first.0 (max m r.valid.first.0)))
            (λ g.
            rw (nearer-later m best r.valid l g)
            (stays (λ x a b. before-it r.valid x (omega (arith, n.after)))))
            (le-or-lt (max m r.valid.first.0) best.first.0)

  -- all rows of a list
  many_more : (rs : List Row) → all (ends e) rs ≡ true → (hung : ℕ → Bool) (best : Interval) → Nearest m e hung best
      → Nearest m e (λ x. covered rs x || hung x) (nearest m best rs)
  unfolding covered with_row
  many_more [] h hung best n = n
  many_more (r ∷ rs) h hung best n =
      let here = and_left (ends e r) (all (ends e) rs) h in
      let lo = leb-true r.valid.first.0 (row_to r)
      (and_left (leb r.valid.first.0 (row_to r)) (leb (row_to r) e) here) in
      let hi = leb-true (row_to r) e (and_right (leb r.valid.first.0 (row_to r)) (leb (row_to r) e) here) in
      same-minutes (λ x. covered rs x || with_row hung best n r lo hi x) (λ x. covered (r ∷ rs) x || hung x)
      (nearest m (nearer m best r.valid) rs)
      (λ x. exchanged (contains r.valid (chronon x)) (covered rs x) (hung x))
      (many_more rs (and_right (ends e r) (all (ends e) rs) h) (with_row hung best n r lo hi)
      (nearer m best r.valid) (one_more hung best n r lo hi))
    where
      exchanged : (a b c : Bool) → (b || (a || c)) ≡ ((a || b) || c)
      exchanged true true c = refl
      exchanged true false c = refl
      exchanged false true c = refl
      exchanged false false c = refl

-- the rows that a tuple makes end by its last minute
rows_end : (p : Partitioning) (inner : List ℕ) (d : Tuple) → all (ends (to d)) (rows_of p inner d) ≡ true
rows_end p inner d =
    rw (rows-of-made p inner d)
    (made_each (ends (to d)) p.minimum Outer d (stored_tuples p inner)
    (λ u. pair-all p.minimum (ends (to d)) d u (λ o.
    let v = common d u in
    and_both (leb v.first.0 v.last.0) (leb v.last.0 (to d)) (le-leb v.first.0 v.last.0 o.meet)
    (le-leb v.last.0 (to d) (omega arith)))))

-- ---- the gaps of a tuple from minute m on, by the next covered stretch v from there

module _ (p : Partitioning) (inner : List ℕ) (d : Tuple) (m : ℕ) (v : Interval)
    (e : v ≡ next_covered d (rows_of p inner d) m) (l : m ≤ to d) where
  pub next-is : Nearest m (to d) (covered (rows_of p inner d)) v
  unfolding next_covered
  next-is =
      rw e
      (same-minutes m (to d) (λ x. covered (rows_of p inner d) x || false) (covered (rows_of p inner d)) _
      (λ x. or-false (covered (rows_of p inner d) x))
      (many_more m (to d) (rows_of p inner d) (rows_end p inner d) (λ x. false) _ (none_yet m (to d) (omega arith))))

  -- what comes after the stretch
  passed : gaps_from d (rows_of p inner d) v.first.0 ≡ gaps_from d (rows_of p inner d) (v.last.0 + 1)
  passed =
      ⊎_elim
      (λ i. gaps-skip d (rows_of p inner d) v.first.0 v.last.0 next-is.forward (next-is.held i))
      (λ o.
      gaps-end d (rows_of p inner d) v.first.0 o
      ∙ sym (gaps-end d (rows_of p inner d) (v.last.0 + 1) (omega (arith, next-is.forward))))
      (le-or-lt v.first.0 (to d))

  -- it starts at m: no gap before it
  pub no_gap : v.first.0 ≤ m → gaps_from d (rows_of p inner d) m ≡ gaps_from d (rows_of p inner d) (v.last.0 + 1)
  no_gap h =
      let s : m ≡ v.first.0 = omega (arith, next-is.after) in
      rw s passed

  -- it starts later: the gap ends where it starts
  pub one-gap : m < v.first.0
      → gaps_from d (rows_of p inner d) m ≡ span m (v.first.0 - 1) ∷ gaps_from d (rows_of p inner d) (v.last.0 + 1)
  one-gap h =
      let next : v.first.0 - 1 + 1 ≡ v.first.0 = omega arith in
      gaps-take d (rows_of p inner d) m (v.first.0 - 1) (omega arith) (omega (arith, next-is.forward, next-is.most))
      (λ x a b. next-is.free x a (omega arith))
      (λ i. rw next (next-is.held (omega arith) v.first.0 (omega arith) next-is.forward))
      ∙ rw next (ap (λ (vs : List Interval). span m (v.first.0 - 1) ∷ vs) passed)
