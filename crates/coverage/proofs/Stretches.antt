-- Laws of gaps_of (specs/Gaps), by `gaps_from`: the gaps of a tuple from a minute on.
-- In order: one more minute before a list of stretches; the gaps from the first minute on, past the last one, from an
-- uncovered and from a covered minute on; where the first of them starts; a covered stretch passed, an uncovered one
-- taken; how many there are at most.
-- Assumes nothing.
use mathlib.Core.Bool.{Bool, true, false, not}
use mathlib.Core.List.{List, [], ◌∷◌}
use mathlib.Core.Logic.{⊎_elim}
use mathlib.Core.Path.{◌≡◌, refl, ◌∙◌}
use Prim.Native.Nat.{ℕ, zero, suc, ◌+◌, ◌-◌, ◌≤◌, ◌<◌}
use native.Mathlib.Numerals.{add-one}
use native.Mathlib.Omega.{arith}
use lib.Dec.{eqb}
use lib.ListN.{length}
use borrow.Author.Tests.{eq-eqb, ne_eqb}
use Rattle.lists.specs.Choice.{pick}
use Rattle.lists.specs.Members.{keep, up_from}
use Rattle.lists.proofs.Tally.{keep-most}
use Rattle.lists.proofs.Below.{length_up, up_next, up-end}
use Rattle.interval.specs.Time.{span}
use Rattle.interval.specs.Tuple.{from, to}
use Rattle.interval.specs.declared.time.Interval.{Interval}
use Rattle.interval.specs.declared.tuple.Tuple.{Tuple}
use Rattle.interval.specs.declared.tuple.Row.{Row}
use Rattle.plan.proofs.Homes.{le-or-lt}
use Rattle.coverage.specs.Gaps.{covered, minutes_in, minutes_of, before, stretches, gaps_of}

-- the gaps of a tuple from minute m on
unfoldable pub gaps_from : Tuple → List Row → ℕ → List Interval
gaps_from d rs m = stretches (keep (λ m. not (covered rs m)) (up_from m (suc (to d) - m)))

-- the first stretch of a list, if any, starts at m or later
abbrev StartsFrom : ℕ → List Interval → Type 0
StartsFrom m [] = Unit {0}
StartsFrom m (v ∷ vs) = m ≤ v.first.0

-- one more minute before a list: it starts there; it is a stretch of its own where the list starts later; it lengthens
-- the stretch that it adjoins
before-starts : (m : ℕ) (vs : List Interval) → StartsFrom m (before m vs)
before-starts m [] = omega arith
before-starts m (v ∷ vs) = go (eqb (suc m) v.first.0)
  where
    go : (b : Bool) → StartsFrom m (pick b (span m v.last.0 ∷ vs) (span m m ∷ (v ∷ vs)))
    go true = omega arith
    go false = omega arith

before-apart : (m : ℕ) (vs : List Interval) → StartsFrom (suc (m + 1)) vs → before m vs ≡ span m m ∷ vs
before-apart m [] h = refl
before-apart m (v ∷ vs) h = rw (ne_eqb (suc m) v.first.0 (omega arith))

before-adjoins : (m e : ℕ) (vs : List Interval) → before m (span (m + 1) e ∷ vs) ≡ span m e ∷ vs
before-adjoins m e vs = rw (eq-eqb (suc m) (m + 1) (omega arith))

-- it makes one more stretch at most
pub before-length : (m : ℕ) (vs : List Interval) → length (before m vs) ≤ suc (length vs)
before-length m [] = omega arith
before-length m (v ∷ vs) = go (eqb (suc m) v.first.0)
  where
    go : (b : Bool) → length (pick b (span m v.last.0 ∷ vs) (span m m ∷ (v ∷ vs))) ≤ suc (suc (length vs))
    go true = omega arith
    go false = omega arith

stretches-length : (ms : List ℕ) → length (stretches ms) ≤ length ms
unfolding stretches
stretches-length [] = omega arith
stretches-length (m ∷ ms) = omega (arith, before-length m (stretches ms), stretches-length ms)

-- the stretches of minutes from m on start at m or later
starts-earlier : (m : ℕ) (vs : List Interval) → StartsFrom (suc m) vs → StartsFrom m vs
starts-earlier m [] h = tt
starts-earlier m (v ∷ vs) h = omega arith

kept-start : (p : ℕ → Bool) (m n : ℕ) → StartsFrom m (stretches (keep p (up_from m n)))
unfolding stretches
kept-start p m zero = tt
kept-start p m (suc n) = go (p m) (kept-start p (suc m) n)
  where
    rest : List ℕ
    rest = keep p (up_from (suc m) n)

    go : (b : Bool) → StartsFrom (suc m) (stretches rest) → StartsFrom m (stretches (pick b (m ∷ rest) rest))
    go true h = before-starts m (stretches rest)
    go false h = starts-earlier m (stretches rest) h

module _ (d : Tuple) (rs : List Row) where
  -- all gaps are those from the first minute on; past the last minute there is none
  pub gaps-whole : gaps_of d rs ≡ gaps_from d rs (from d)
  unfolding gaps_of gaps_from minutes_of
  gaps-whole = refl

  pub gaps-end : (m : ℕ) → to d < m → gaps_from d rs m ≡ []
  unfolding gaps_from stretches
  gaps-end m l = rw (up-end m (suc (to d)) l)

  -- an uncovered minute is the first of them; a covered one is in none
  gaps-free : (m : ℕ) → m ≤ to d → covered rs m ≡ false → gaps_from d rs m ≡ before m (gaps_from d rs (m + 1))
  unfolding gaps_from stretches
  gaps-free m l e = rw (up_next m (suc (to d)) (omega arith), e)

  pub gaps-covered : (m : ℕ) → covered rs m ≡ true → gaps_from d rs m ≡ gaps_from d rs (m + 1)
  unfolding gaps_from
  gaps-covered m e = ⊎_elim inside past (le-or-lt m (to d))
    where
      inside : m ≤ to d → gaps_from d rs m ≡ gaps_from d rs (m + 1)
      inside l = rw (up_next m (suc (to d)) (omega arith), e)

      past : to d < m → gaps_from d rs m ≡ gaps_from d rs (m + 1)
      past l = rw (gaps-end m l, gaps-end (m + 1) (omega arith))

  -- the first of them starts at m or later, and later where m is covered or past the last minute
  gaps-start : (m : ℕ) → StartsFrom m (gaps_from d rs m)
  unfolding gaps_from
  gaps-start m = kept-start (λ m. not (covered rs m)) m (suc (to d) - m)

  gaps-later : (m : ℕ) → (m ≤ to d → covered rs m ≡ true) → StartsFrom (suc m) (gaps_from d rs m)
  gaps-later m h = ⊎_elim inside (λ l. rw (gaps-end m l) tt) (le-or-lt m (to d))
    where
      inside : m ≤ to d → StartsFrom (suc m) (gaps_from d rs m)
      inside l = rw (gaps-covered m (h l), ← add-one m) (gaps-start (m + 1))

  -- a covered stretch m .. e is passed
  pub gaps-skip : (m e : ℕ) → m ≤ e → ((x : ℕ) → m ≤ x → x ≤ e → covered rs x ≡ true)
      → gaps_from d rs m ≡ gaps_from d rs (e + 1)
  gaps-skip m e l = on (e - m) m (omega arith)
    where
      on : (k m : ℕ) → e ≡ m + k → ((x : ℕ) → m ≤ x → x ≤ e → covered rs x ≡ true)
          → gaps_from d rs m ≡ gaps_from d rs (e + 1)
      on zero m q h =
          let p : e ≡ m = omega arith in
          rw p (gaps-covered m (h m (omega arith) (omega arith)))
      on (suc k) m q h =
          gaps-covered m (h m (omega arith) (omega arith))
          ∙ on k (m + 1) (omega arith) (λ x lo hi. h x (omega arith) hi)

  -- an uncovered stretch m .. e, after which a covered minute or none comes, is taken
  pub gaps-take : (m e : ℕ) → m ≤ e → e ≤ to d → ((x : ℕ) → m ≤ x → x ≤ e → covered rs x ≡ false)
      → (e < to d → covered rs (e + 1) ≡ true) → gaps_from d rs m ≡ span m e ∷ gaps_from d rs (e + 1)
  gaps-take m e l hi free next = on (e - m) m (omega arith) free
    where
      on : (k m : ℕ) → e ≡ m + k → ((x : ℕ) → m ≤ x → x ≤ e → covered rs x ≡ false)
          → gaps_from d rs m ≡ span m e ∷ gaps_from d rs (e + 1)
      on zero m q h =
          let p : m ≡ e = omega arith in
          rw p
          (gaps-free e hi (h e (omega arith) (omega arith))
          ∙ before-apart e (gaps_from d rs (e + 1)) (gaps-later (e + 1) (λ i. next (omega arith))))
      on (suc k) m q h =
          rw (gaps-free m (omega arith) (h m (omega arith) (omega arith)))
          (rw (on k (m + 1) (omega arith) (λ x lo hi. h x (omega arith) hi))
          (before-adjoins m e (gaps_from d rs (e + 1))))

  -- no more gaps than minutes
  pub gaps-few : length (gaps_of d rs) ≤ minutes_in d.valid
  unfolding gaps_of minutes_of
  gaps-few =
      omega (
        arith,
        stretches-length (keep (λ m. not (covered rs m)) (minutes_of d)),
        keep-most (λ m. not (covered rs m)) (minutes_of d),
        length_up (from d) (minutes_in d.valid),
      )
