-- Records counted at their homes.
-- In order: how many of a list of records are at home in a partition; a record's last word; `Counting`, the invariant
-- of `count_part`, with its laws; the records of a store, partition after partition; `Summing`, the invariant of
-- `count_store`, with its laws.
-- Assumes nothing.
use mathlib.Core.Bool.{true, false}
use mathlib.Core.List.{List, [], ◌++◌}
use mathlib.Core.Logic.{⊎_elim}
use mathlib.Core.Path.{◌≡◌, refl, sym, ◌∙◌, ap}
use Prim.Native.Nat.{ℕ, zero, suc, ◌+◌, ◌*◌, ◌^◌, ◌≤◌, ◌<◌}
use native.Mathlib.Numerals.{add-one}
use native.Mathlib.Omega.{arith}
use lib.Dec.{eqb}
use lib.ListN.{length, get_or, drop, set, length-set, length-append}
use lib.Seq.{get_or-set_same, get_or-set_other}
use borrow.Author.Tests.{ltb-true, eqb-true, eqb-false}
use Rattle.lists.specs.Choice.{pick}
use Rattle.lists.specs.Members.{below}
use Rattle.lists.proofs.Choice.{bool_cases}
use Rattle.lists.proofs.Members.{all-get_or}
use Rattle.lists.proofs.Tally.{tally-le, tally-append, tally-end, tally-next}
use Rattle.lists.proofs.Gather.{all-gather}
use Rattle.lists.proofs.Below.{all-below}
use Rattle.lists.proofs.Parts.{start-next, start-le, start-within, length_part}
use Rattle.plan.specs.Plan.{home_of}
use Rattle.part.specs.Part.{counted, records_in}
use Rattle.part.proofs.Parts.{length-records-in, record-in, record-part}
use Rattle.store.specs.Store.{partition_at}
use Rattle.moves.specs.Moves.{last_of, stored_records, Counts}
use Rattle.moves.proofs.Runs.{last_word}
use Rattle.moves.proofs.Compacting.{stored_next}
use Rattle.move_count.specs.Crowding.{held_at, Homed, PartCountable, PartTallied, Countable, Tallied}

-- ---- how many of a list of records are at home in partition i

-- one at home there counts, another does not
abbrev here : ℕ → List ℕ → List ℕ → ℕ → ℕ
here w cuts r i = pick (eqb (home_of cuts (last_of w r)) i) 1 0

module _ (w : ℕ) (cuts : List ℕ) where
  held-most : (rs : List (List ℕ)) (i : ℕ) → held_at w cuts rs i ≤ length rs
  unfolding held_at
  held-most rs i = tally-le _ rs

  held-append : (rs ss : List (List ℕ)) (i : ℕ)
      → held_at w cuts (rs ++ ss) i ≡ held_at w cuts rs i + held_at w cuts ss i
  unfolding held_at
  held-append rs ss i = tally-append _ rs ss

  held-end : (rs : List (List ℕ)) (i k : ℕ) → length rs ≤ k → held_at w cuts (drop k rs) i ≡ 0
  unfolding held_at
  held-end rs i k h = tally-end _ rs k h

  held_next : (rs : List (List ℕ)) (i k : ℕ) → k < length rs
      → held_at w cuts (drop k rs) i ≡ here w cuts (get_or rs k []) i + held_at w cuts (drop (k + 1) rs) i
  unfolding held_at
  held_next rs i k h = tally-next _ rs k [] h

-- ---- a record's last word

-- that of record k is the word before record k + 1
last-in : (w k : ℕ) (part : List ℕ) → 1 ≤ w → k < counted part
    → last_of w (get_or (records_in w part) k []) ≡ get_or part (w * (k + 1)) 0
last-in w k part h l = rw (record-in w k part [] l, record-part w k part) (last_word w k part h)

-- record k has a home
pub home-of : (w k : ℕ) (part cuts : List ℕ) → 1 ≤ w → k < counted part → Homed w cuts (records_in w part)
    → home_of cuts (get_or part (w * (k + 1)) 0) < length cuts
home-of w k part cuts h l homes =
    rw (← last-in w k part h l)
    (ltb-true _ _ (all-get_or _ (records_in w part) [] homes k (omega (arith, length-records-in w part))))

-- ---- `count_part`: the first k records are counted, and the others are still to be counted

pub record Counting (w : ℕ) (part cuts counts : List ℕ) (k : ℕ) (now : List ℕ) : Type 0 where
  pub upto : k ≤ counted part
  pub long : length now ≡ length counts
  pub each : (i : ℕ) → i < length cuts
      → get_or now i 0 + held_at w cuts (drop k (records_in w part)) i
      ≡ get_or counts i 0 + held_at w cuts (records_in w part) i

module _ (w : ℕ) (part cuts counts : List ℕ) where
  pub counting-none : Counting w part cuts counts 0 counts
  counting-none = record { upto = omega arith; long = refl; each = λ i l. refl }

  module _ (c : PartCountable w part cuts counts) (k : ℕ) (now : List ℕ) (s : Counting w part cuts counts k now) where
    -- the next record
    abbrev next : List ℕ
    next = get_or (records_in w part) k []

    module _ (l : k < counted part) (home : ℕ) (is : home ≡ home_of cuts (get_or part (w * (k + 1)) 0)) where
      pub counting-home : home < length now
      counting-home =
          omega (arith, is, s.long, c.places, home-of w k part cuts c.wide l c.homes)

      -- what it adds to a count: 1 to its home's
      adds : (i : ℕ) → get_or (set now home (get_or now home 0 + 1)) i 0 ≡ get_or now i 0 + here w cuts next i
      adds i = ⊎_elim at other (bool_cases (eqb (home_of cuts (last_of w next)) i))
        where
          same : home ≡ home_of cuts (last_of w next)
          same = is ∙ ap (home_of cuts) (sym (last-in w k part c.wide l))

          at : eqb (home_of cuts (last_of w next)) i ≡ true
              → get_or (set now home (get_or now home 0 + 1)) i 0 ≡ get_or now i 0 + here w cuts next i
          at e =
              let i-is : home ≡ i = same ∙ eqb-true _ i e in
              rw (e, ← i-is) (get_or-set_same now home (get_or now home 0 + 1) 0 counting-home)

          other : eqb (home_of cuts (last_of w next)) i ≡ false
              → get_or (set now home (get_or now home 0 + 1)) i 0 ≡ get_or now i 0 + here w cuts next i
          other e =
              rw e
              (get_or-set_other now home i (get_or now home 0 + 1) 0 (λ g. eqb-false _ i e (sym same ∙ sym g))
              ∙ omega arith)

      pub counting_more : Counting w part cuts counts (k + 1) (set now home (get_or now home 0 + 1))
      counting_more = record {
        upto = omega arith;
        long = length-set now home (get_or now home 0 + 1) ∙ s.long;
        each = λ i b. omega (
          arith,
          adds i,
          s.each i b,
          held_next w cuts (records_in w part) i k (omega (arith, length-records-in w part)),
        );
      }

      -- the count that is written fits a word
      pub counting-fits : get_or now home 0 + 1 < 2 ^ 64
      counting-fits =
          let b : home < length cuts = omega (arith, counting-home, s.long, c.places) in
          omega (
            arith,
            get_or-set_same now home (get_or now home 0 + 1) 0 counting-home,
            counting_more.each home b,
            held-most w cuts (records_in w part) home,
            length-records-in w part,
            c.room home b,
          )

  pub counting-all : (k : ℕ) (now : List ℕ) → counted part ≤ k → Counting w part cuts counts k now
      → PartTallied w part cuts counts now
  counting-all k now h s = record {
    long = s.long;
    each = λ i b. omega (
      arith,
      s.each i b,
      held-end w cuts (records_in w part) i k (omega (arith, length-records-in w part)),
    );
  }

-- ---- the records of a store, partition after partition

module _ (w room : ℕ) (ws : List ℕ) where
  stored-none : stored_records w room 0 ws ≡ []
  unfolding stored_records
  stored-none = refl

  -- those of n partitions have a home each: those of each partition do
  stored-homed : (n : ℕ) (cuts : List ℕ) → Homed w cuts (stored_records w room n ws) → (j : ℕ) → j < n
      → Homed w cuts (records_in w (partition_at room ws j))
  unfolding stored_records
  stored-homed n cuts h j l = all-below _ n (sym (all-gather _ _ (below n)) ∙ h) j l

  module _ (n : ℕ) (c : Counts w room n ws) where
    part-inside : (j : ℕ) → j < n → j * room + room ≤ length ws
    part-inside j l = omega (arith, start-within j n room l, c.long)

    part-most : 1 ≤ w → (j : ℕ) → j < n → counted (partition_at room ws j) ≤ room
    part-most wide j l = omega (arith, c.within j l, start-le 1 w (counted (partition_at room ws j)) wide)

    -- those of j partitions are no more than the partitions' words
    stored-most : 1 ≤ w → (j : ℕ) → j ≤ n → length (stored_records w room j ws) ≤ j * room
    stored-most wide zero l = omega (arith, ap length stored-none)
    stored-most wide (suc j) l =
        let part : List ℕ = partition_at room ws j in
        rw (← add-one j, stored_next w room j ws, length-append)
        (omega (
          arith,
          stored-most wide j (omega arith),
          length-records-in w part,
          part-most wide j (omega arith),
          start-next j room,
        ))

-- ---- `count_store`: the records of the first j partitions are counted

pub record Summing (w room : ℕ) (ws cuts : List ℕ) (j : ℕ) (counts : List ℕ) : Type 0 where
  pub upto : j ≤ length cuts
  pub long : length counts ≡ length cuts
  pub each : (i : ℕ) → i < length cuts → get_or counts i 0 ≡ held_at w cuts (stored_records w room j ws) i

module _ (w room : ℕ) (ws cuts : List ℕ) where
  pub summing-none : (counts : List ℕ) → Countable w room ws cuts counts → Summing w room ws cuts 0 counts
  unfolding held_at
  summing-none counts c = record {
    upto = omega arith;
    long = c.places;
    each = λ i b. rw (stored-none w room ws) (c.none i b);
  }

  pub summing-inside : (counts : List ℕ) → Countable w room ws cuts counts → (j : ℕ) → j < length cuts
      → j * room + room ≤ length ws
  summing-inside counts c = part-inside w room ws (length cuts) c.inside

  module _ (j : ℕ) (counts part : List ℕ) (l : j < length cuts) (is : part ≡ partition_at room ws j)
      (s : Summing w room ws cuts j counts) where
    -- partition j's records can be counted
    pub summing-part : (first : List ℕ) → Countable w room ws cuts first → length ws < 2 ^ 64
        → PartCountable w part cuts counts
    summing-part first c small = rw is record {
      wide = c.wide;
      covered = c.covered;
      places = s.long;
      within = rw (length_part (j * room) room ws inside) (c.inside.within j l);
      homes = stored-homed w room ws (length cuts) cuts c.homes j l;
      room = λ i b. omega (
        arith,
        s.each i b,
        held-most w cuts (stored_records w room j ws) i,
        stored-most w room ws (length cuts) c.inside c.wide j s.upto,
        part-most w room ws (length cuts) c.inside c.wide j l,
        inside,
      );
    }
      where
        inside : j * room + room ≤ length ws
        inside = summing-inside first c j l

    -- they are counted
    pub summing-more : (counts' : List ℕ) → PartTallied w part cuts counts counts'
        → Summing w room ws cuts (j + 1) counts'
    summing-more counts' t = record {
      upto = omega arith;
      long = t.long ∙ s.long;
      each = λ i b. rw (stored_next w room j ws)
          (omega (
            arith,
            t.each i b,
            s.each i b,
            held-append w cuts (stored_records w room j ws) (records_in w (partition_at room ws j)) i,
            ap (λ (p : List ℕ). held_at w cuts (records_in w p) i) is,
          ));
    }

  pub summing-all : (j : ℕ) (counts : List ℕ) → length cuts ≤ j → Summing w room ws cuts j counts
      → Tallied w room ws cuts counts
  summing-all j counts h s =
      let end : j ≡ length cuts = omega (arith, s.upto) in
      record { long = s.long; each = rw end at s.each }
