-- Going down the checks of plan and stores: one check of three tests, three checks of one number, checks 4 and 5 of one
-- store, and what a passed list of checks says.
-- Assumes nothing.
use mathlib.Core.Bool.{Bool, true, false, not, ◌&&◌}
use mathlib.Core.List.{List, [], ◌∷◌, ◌++◌}
use mathlib.Core.Path.{◌≡◌, refl, ap}
use Prim.Native.Nat.{ℕ, zero, suc}
use lib.ListN.{length}
use borrow.Author.Tests.{not-false}
use Rattle.lists.specs.Choice.{refuse_if, or_else, first_of}
use Rattle.lists.proofs.Choice.{first-none, refuse-none, refusal-met, refusal-passed}
use Rattle.plan.specs.Plan.{plan_number}
use Rattle.plan.specs.declared.Partitioning.{Partitioning}
use Rattle.store.specs.Store.{fits_tuples, fits_rows, sound_tuples, sound_rows}
use Rattle.store.specs.Sides.{Sides}
use Rattle.store.proofs.StoreLoops.{tuples-given, rows-given, given-rows}
use Rattle.checks.specs.Stores.{Stores, fits_all, sound, tuples_length, rows_length, tuples_unsound, rows_unsound}
use Rattle.checks.specs.Stores.{lengths_number, open_number, store_number, rows_number, SoundStore}
use Rattle.checks.specs.Stores.{sides_lengths, sides_unsound, sides_number}

-- one check, by an answer to its test that holds, and by one that fails
pub check-none : (n : ℕ) {answer b : Bool} → answer ≡ b → answer ≡ true → 0 ≡ refuse_if (not b) n
check-none n e t = refusal-passed n (ap not e) (ap not t)

pub check-met : (n : ℕ) {answer b : Bool} → answer ≡ b → answer ≡ false → n ≡ refuse_if (not b) n
check-met n e f = refusal-met n (ap not e) (ap not f)

-- three tests that hold
pub all_hold : (a b c : Bool) → a ≡ true → b ≡ true → c ≡ true → (a && (b && c)) ≡ true
all_hold a b c d e f = rw (d, e, f)

-- a check that gave 0
pub check-passed : (b : Bool) (n : ℕ) → refuse_if (not b) (suc n) ≡ 0 → b ≡ true
check-passed b n e = not-false b (refuse-none (not b) n e)

-- checks that are handed on together, with those after them, are all the checks
first-split : (ms ns : List ℕ) → first_of (first_of ms ∷ ns) ≡ first_of (ms ++ ns)
unfolding first_of
first-split [] ns = refl
first-split (zero ∷ ms) ns = first-split ms ns
first-split (suc m ∷ ms) ns = refl

-- so check 4 of the two tuple stores and that of the rows store are that of the three stores, and so is check 5
pub lengths-from-sides : (p : Partitioning) (outer inner rows : ℕ)
    → first_of (sides_lengths p outer inner ∷ (rows_length p rows ∷ [])) ≡ lengths_number p outer inner rows
unfolding sides_lengths lengths_number
lengths-from-sides p outer inner rows =
    first-split (plan_number p ∷ (tuples_length p outer ∷ (tuples_length p inner ∷ []))) (rows_length p rows ∷ [])

pub stores-from-sides : (p : Partitioning) (s : Stores)
    → first_of (open_number p s ∷ (sides_unsound p s.outer s.inner ∷ (rows_unsound p s.rows ∷ []))) ≡ store_number p s
unfolding sides_unsound store_number first_of
stores-from-sides p s =
    ap (or_else (open_number p s))
    (first-split (tuples_unsound p s.outer ∷ (tuples_unsound p s.inner ∷ [])) (rows_unsound p s.rows ∷ []))

-- three checks of one number are one check of three tests
three-checks : (n : ℕ) (a b c : Bool)
    → first_of (refuse_if (not a) (suc n) ∷ (refuse_if (not b) (suc n) ∷ (refuse_if (not c) (suc n) ∷ [])))
    ≡ first_of (refuse_if (not (a && (b && c))) (suc n) ∷ [])
unfolding first_of
three-checks n false b c = refl
three-checks n true false c = refl
three-checks n true true false = refl
three-checks n true true true = refl

-- so check 4 of the three stores is whether all lengths fit, and check 5 whether all stores are sound
pub lengths-are : (p : Partitioning) (outer inner rows : ℕ)
    → lengths_number p outer inner rows ≡ first_of (plan_number p ∷ (refuse_if (not (fits_all p outer inner rows)) 4 ∷ []))
unfolding lengths_number tuples_length rows_length fits_all first_of
lengths-are p outer inner rows =
    ap (or_else (plan_number p)) (three-checks 3 (fits_tuples p outer) (fits_tuples p inner) (fits_rows p rows))

pub stores-are : (p : Partitioning) (s : Stores)
    → store_number p s ≡ first_of (open_number p s ∷ (refuse_if (not (sound p s)) 5 ∷ []))
unfolding store_number tuples_unsound rows_unsound sound first_of
stores-are p s =
    ap (or_else (open_number p s))
    (three-checks 4 (sound_tuples p s.outer) (sound_tuples p s.inner) (sound_rows p s.rows))

-- checks 4 and 5 of one store: 0 exactly if its length fits, if it is sound
module _ (p : Partitioning) (n : ℕ) where
  pub tuples-fit : tuples_length p n ≡ 0 → fits_tuples p n ≡ true
  unfolding tuples_length
  tuples-fit e = check-passed (fits_tuples p n) 3 e

  pub fit-tuples : fits_tuples p n ≡ true → tuples_length p n ≡ 0
  unfolding tuples_length
  fit-tuples h = rw h

  pub rows_fit : rows_length p n ≡ 0 → fits_rows p n ≡ true
  unfolding rows_length
  rows_fit e = check-passed (fits_rows p n) 3 e

  pub fit-rows : fits_rows p n ≡ true → rows_length p n ≡ 0
  unfolding rows_length
  fit-rows h = rw h

module _ (p : Partitioning) (ws : List ℕ) where
  pub tuples-sound : tuples_unsound p ws ≡ 0 → sound_tuples p ws ≡ true
  unfolding tuples_unsound
  tuples-sound e = check-passed (sound_tuples p ws) 4 e

  pub sound-tuples : sound_tuples p ws ≡ true → tuples_unsound p ws ≡ 0
  unfolding tuples_unsound
  sound-tuples h = rw h

  pub rows-sound : rows_unsound p ws ≡ 0 → sound_rows p ws ≡ true
  unfolding rows_unsound
  rows-sound e = check-passed (sound_rows p ws) 4 e

  pub sound-rows : sound_rows p ws ≡ true → rows_unsound p ws ≡ 0
  unfolding rows_unsound
  sound-rows h = rw h

-- what checks 1 to 4 say where they pass
pub record Fitting (p : Partitioning) (o i r : ℕ) : Type 0 where
  pub legal : plan_number p ≡ 0
  pub outer : fits_tuples p o ≡ true
  pub inner : fits_tuples p i ≡ true
  pub rows : fits_rows p r ≡ true

pub fitting : (p : Partitioning) (outer inner rows : ℕ) → lengths_number p outer inner rows ≡ 0
    → Fitting p outer inner rows
unfolding lengths_number
fitting p outer inner rows e =
    let a = first-none (plan_number p) _ e in
    let o = first-none (tuples_length p outer) _ a.1 in
    let i = first-none (tuples_length p inner) _ o.1 in
    let r = first-none (rows_length p rows) [] i.1 in
    record {
      legal = a.0;
      outer = tuples-fit p outer o.0;
      inner = tuples-fit p inner i.0;
      rows = rows_fit p rows r.0;
    }

-- and checks 1 to 5
pub record Ready (p : Partitioning) (s : Stores) : Type 0 where
  pub fits : Fitting p (length s.outer) (length s.inner) (length s.rows)
  pub outer : sound_tuples p s.outer ≡ true
  pub inner : sound_tuples p s.inner ≡ true
  pub rows : sound_rows p s.rows ≡ true

pub ready : (p : Partitioning) (s : Stores) → store_number p s ≡ 0 → Ready p s
unfolding store_number
ready p s e =
    let a = first-none (open_number p s) _ e in
    let o = first-none (tuples_unsound p s.outer) _ a.1 in
    let i = first-none (tuples_unsound p s.inner) _ o.1 in
    let r = first-none (rows_unsound p s.rows) [] i.1 in
    record {
      fits = fitting p (length s.outer) (length s.inner) (length s.rows) a.0;
      outer = tuples-sound p s.outer o.0;
      inner = tuples-sound p s.inner i.0;
      rows = rows-sound p s.rows r.0;
    }

-- and those of the two tuple stores alone
pub sides-fit : (p : Partitioning) (outer inner : ℕ) → sides_lengths p outer inner ≡ 0
    → (plan_number p ≡ 0) × (fits_tuples p outer ≡ true) × (fits_tuples p inner ≡ true)
unfolding sides_lengths
sides-fit p outer inner e =
    let a = first-none (plan_number p) _ e in
    let o = first-none (tuples_length p outer) _ a.1 in
    let i = first-none (tuples_length p inner) [] o.1 in (a.0, tuples-fit p outer o.0, tuples-fit p inner i.0)

pub sides-known : (p : Partitioning) (outer inner : List ℕ) → sides_lengths p (length outer) (length inner) ≡ 0
    → sides_unsound p outer inner ≡ 0 → Sides p outer inner
unfolding sides_unsound
sides-known p outer inner e u =
    let fits = sides-fit p (length outer) (length inner) e in
    let o = first-none (tuples_unsound p outer) _ u in
    let i = first-none (tuples_unsound p inner) [] o.1 in
    record {
      legal = fits.0;
      outer_long = (tuples-given p (length outer) fits.1).1;
      inner_long = (tuples-given p (length inner) fits.2).1;
      outer_sound = tuples-sound p outer o.0;
      inner_sound = tuples-sound p inner i.0;
    }

pub sides-passed : (p : Partitioning) (outer inner : List ℕ) → sides_number p outer inner ≡ 0 → Sides p outer inner
unfolding sides_number
sides-passed p outer inner e =
    let a = first-none (sides_lengths p (length outer) (length inner)) _ e in
    sides-known p outer inner a.0 (first-none (sides_unsound p outer inner) [] a.1).0

-- and those of the rows store alone; and back
pub sound-store : (p : Partitioning) (rows : List ℕ) → rows_number p rows ≡ 0 → SoundStore p rows
unfolding rows_number
sound-store p rows e =
    let a = first-none (plan_number p) _ e in
    let l = first-none (rows_length p (length rows)) _ a.1 in
    let s = first-none (rows_unsound p rows) [] l.1 in
    record {
      legal = a.0;
      long = (rows-given p (length rows) (rows_fit p (length rows) l.0)).1;
      sound = rows-sound p rows s.0;
    }

pub store-sound : (p : Partitioning) (rows : List ℕ) → SoundStore p rows → rows_number p rows ≡ 0
unfolding rows_number first_of
store-sound p rows s =
    rw (
      s.legal,
      fit-rows p (length rows) (given-rows p (length rows) (s.legal, s.long)),
      sound-rows p rows s.sound,
    )
