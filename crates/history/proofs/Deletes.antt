-- Delete keeps the stores current: the machine has an equal tuple, the own store holds one less, and the rows store the
-- rows less that the tuple makes with the other side; a partition that the tuple does not touch keeps every word.
-- Assumes nothing.
use mathlib.Core.Bool.{Bool, true, false, not, ◌||◌}
use mathlib.Core.List.{List, [], ◌∷◌, ◌++◌}
use mathlib.Core.Logic.{◌⊎◌, inl, inr}
use mathlib.Core.Option.{some, none}
use mathlib.Core.Path.{◌≡◌, refl, sym, ◌∙◌, ap}
use Prim.Native.Nat.{ℕ, ◌≤◌, ◌<◌}
use native.Mathlib.Omega.{arith}
use lib.Dec.{eqb}
use lib.ListN.{length}
use borrow.Author.Tests.{eq-eqb, not-false}
use Rattle.lists.specs.Choice.{refuse_if, pick}
use Rattle.lists.specs.Members.{any, keep, without}
use Rattle.lists.specs.Same.{IsEquality, Same}
use Rattle.lists.proofs.Choice.{first-none, refuse-none, pick_true, or_left, or_right}
use Rattle.lists.proofs.Tally.{tally-append, place_found, place_is}
use Rattle.lists.proofs.Same.{same-uncons, take-out, any_same}
use Rattle.interval.specs.Tuple.{to, tuple_width, tuple_of, tuple_number, same_tuple, same_row}
use Rattle.interval.specs.declared.tuple.Tuple.{Tuple}
use Rattle.interval.specs.declared.tuple.Row.{Row}
use Rattle.interval.proofs.Tuples.{same-tuple-is}
use Rattle.plan.specs.Plan.{home}
use Rattle.plan.specs.declared.Partitioning.{Partitioning}
use Rattle.part.specs.Part.{room_of, counted, tuples_in, rows_in, tuple_at, removed, place_of_tuple}
use Rattle.part.proofs.Parts.{length_removed, length-tuples, tuple-in, tuples-removed, sound-removed, sound-room}
use Rattle.store.specs.Store.{tuple_room, tuple_part, row_part, tuple_at_home, sound_tuple_part, sound_rows}
use Rattle.store.specs.Store.{stored_tuples, tuples_at, rows_at}
use Rattle.store.proofs.Stores.{on-length, on_same, on-other, partition-length, sound-tuples-at, sound-tuples-on}
use Rattle.store.proofs.Stores.{stored_more, tuples-stored-at}
use Rattle.rows.specs.declared.Side.{Side}
use Rattle.rows.specs.declared.Side.TheVariants.{Outer, Inner}
use Rattle.rows.proofs.Joins.{rows-at-append}
use Rattle.checks.specs.Stores.{Stores, store_number}
use Rattle.refusal.specs.Refusal.{answer_number}
use Rattle.checks.specs.Answer.{Answer}
use Rattle.insertion.specs.Changes.{Grown}
use Rattle.deletion.specs.Deletes.{deleted}
use Rattle.join.specs.Changes.{own_store, other_store, delete_number, Deleted}
use Rattle.history.specs.Machine.{delete, Machine, own_tuples, take_out}
use Rattle.history.proofs.Changes.{home-in-plan, join-made, untouched}
use Rattle.history.proofs.Held.{TupleStore, RowStore, Wall, join-from-same, rows-held-same}
use Rattle.history.proofs.Kept.{Kept, Done, other_tuples, with_own, kept_from, kept-with}
use Rattle.history.proofs.Kept.{told-accepted, done_refused}

-- ---- helpers on lists

-- a member that passes a test is among those that do
any-kept : {A : Type 0} (same : A → A → Bool) → IsEquality same → (q : A → Bool) (x : A) (xs : List A) → q x ≡ true
    → any (same x) xs ≡ true → any (same x) (keep q xs) ≡ true
any-kept same law q x [] h e = e
any-kept {A} same law q x (y ∷ xs) h e = go (same x y) refl e (any-kept same law q x xs h)
  where
    later : (b : Bool) → any (same x) (keep q xs) ≡ true → any (same x) (pick b (y ∷ keep q xs) (keep q xs)) ≡ true
    later true r = or_right (same x y) (any (same x) (keep q xs)) r
    later false r = r

    go : (b : Bool) → same x y ≡ b → (b || any (same x) xs) ≡ true
        → (any (same x) xs ≡ true → any (same x) (keep q xs) ≡ true) → any (same x) (keep q (y ∷ xs)) ≡ true
    go true s e rest =
        rw (pick_true (q y) (y ∷ keep q xs) (keep q xs) (ap q (sym (law.equal x y s)) ∙ h))
        (or_left (same x y) (any (same x) (keep q xs)) s)
    go false s e rest = later (q y) (rest e)

-- the same rows after both of two lists, taken off
same-cut : (xs ys zs : List Row) → Same same_row (xs ++ zs) (ys ++ zs) → Same same_row xs ys
same-cut xs ys zs h = λ r. omega (arith, h r, tally-append (same_row r) xs zs, tally-append (same_row r) ys zs)

-- ---- the own store

module _ (p : Partitioning) (t : Tuple) (ws : List ℕ) (ts : List Tuple) (h : TupleStore p ws ts)
    (within : home p (to t) < p.count) (there : any (same_tuple t) (stored_tuples p ws) ≡ true) where
  -- the tuple's partition, its first place there, and the partition without that record
  abbrev part : List ℕ
  part = tuple_part p ws (home p (to t))

  abbrev place : ℕ
  place = place_of_tuple t part

  abbrev less : List ℕ → List ℕ
  less = removed tuple_width place

  part-long : length part ≡ tuple_room p
  part-long = partition-length (tuple_room p) p.count (home p (to t)) ws h.long within

  less-long : length (less part) ≡ tuple_room p
  less-long = length_removed tuple_width place part ∙ part-long

  -- it stands in its partition
  in-part : any (same_tuple t) (tuples_in part) ≡ true
  unfolding tuples_at
  in-part =
      rw (← tuples-stored-at p ws h.sound (home p (to t)) within)
      (any-kept same_tuple same-tuple-is (λ (u : Tuple). eqb (home p (to u)) (home p (to t))) t (stored_tuples p ws)
      (eq-eqb (home p (to t)) (home p (to t)) refl) there)

  place-counted : place < counted part
  unfolding place_of_tuple
  place-counted = rw (length-tuples part) at (place_found (same_tuple t) (tuples_in part) in-part)

  at_place : tuple_at part place ≡ t
  unfolding place_of_tuple
  at_place =
      sym (tuple-in place part t place-counted)
      ∙ sym (same-tuple-is.equal t _ (place_is (same_tuple t) (tuples_in part) t in-part))

  roomy : room_of tuple_width (counted part) ≤ length part
  unfolding sound_tuple_part
  roomy =
      sound-room tuple_width p.tuples (λ ws. tuple_at_home p (home p (to t)) (tuple_of ws)) part
      (sound-tuples-at p ws h.sound (home p (to t)) within) part-long

  less-tuples : Same same_tuple (tuples_in part) (t ∷ tuples_in (less part))
  less-tuples = rw at_place at (tuples-removed place part place-counted roomy)

  less-sound : sound_tuple_part p (home p (to t)) (less part) ≡ true
  unfolding sound_tuple_part
  less-sound =
      sound-removed tuple_width p.tuples (λ ws. tuple_at_home p (home p (to t)) (tuple_of ws)) place part
      (sound-tuples-at p ws h.sound (home p (to t)) within) part-long place-counted

  less-stored : Same same_tuple (stored_tuples p ws) (t ∷ stored_tuples p (deleted p t ws))
  unfolding stored_tuples
  less-stored =
      let at = home p (to t) in
      stored_more same_tuple (λ i. tuples_in (tuple_part p (deleted p t ws) i)) (λ i. tuples_in (tuple_part p ws i))
      p.count at t within
      (λ j l ne. ap tuples_in (sym (on-other (tuple_room p) p.count at less ws h.long within less-long j l ne)))
      (rw (on_same (tuple_room p) p.count at less ws h.long within less-long) less-tuples)

  -- the list that the store holds has it too
  pub among : any (same_tuple t) ts ≡ true
  among = sym (any_same same_tuple same-tuple-is (same_tuple t) (stored_tuples p ws) ts h.held) ∙ there

  -- the store holds what it held, without one such tuple
  pub deleted-held : TupleStore p (deleted p t ws) (without (same_tuple t) ts)
  deleted-held = record {
    long = on-length (tuple_room p) p.count (home p (to t)) less ws h.long within less-long ∙ h.long;
    sound = sound-tuples-on p (home p (to t)) less ws h.long within less-long h.sound less-sound;
    held =
        same-uncons same_tuple t (stored_tuples p (deleted p t ws)) (without (same_tuple t) ts)
        (λ u. sym (less-stored u) ∙ h.held u ∙ take-out same_tuple same-tuple-is t ts among u);
  }

-- ---- the rows store

-- shrunk by the rows `gone`: grown by them it is the store before
pub shrunk-held : (p : Partitioning) (ws ws' : List ℕ) (rs gone : List Row) → RowStore p ws (rs ++ gone)
    → Grown p ws' gone ws → sound_rows p ws' ≡ true → RowStore p ws' rs
shrunk-held p ws ws' rs gone h g s = record {
  long = sym g.long ∙ h.long;
  sound = s;
  held = λ i l.
      same-cut (rows_in (row_part p ws' i)) (rows_at p i rs) (rows_at p i gone)
      (rw (← rows-at-append p i rs gone) (λ r. sym (g.held i l r) ∙ h.held i l r));
}

-- ---- the call

-- what the tuple's checks and 11 say where the call is accepted
passed : (p : Partitioning) (side : Side) (t : Tuple) (s : Stores) → delete_number p side t s ≡ 0
    → (tuple_number t ≡ 0) × (any (same_tuple t) (stored_tuples p (own_store side s)) ≡ true)
unfolding delete_number
passed p side t s e =
    let there = any (same_tuple t) (stored_tuples p (own_store side s)) in
    let a = first-none (store_number p s) _ e in
    let b = first-none (tuple_number t) _ a.1 in
    let c = first-none (refuse_if (not there) 11) _ b.1 in
    (b.0, not-false there (refuse-none (not there) 10 c.0))

module _ (m : Machine) (p : Partitioning) (side : Side) (t : Tuple) (s s' : Stores) (a : Answer) (k : Kept m p s)
    (called : Deleted p side t s s' a) where
  abbrev rest : List Tuple
  rest = without (same_tuple t) (own_tuples side m)

  -- the machine has one
  has_one : answer_number a ≡ 0 → any (same_tuple t) (own_tuples side m) ≡ true
  has_one z =
      let e = passed p side t s (sym called.number ∙ z) in
      among p t (own_store side s) (own_tuples side m) (kept_from side m p s k).mine
      (home-in-plan p k.legal k.places t e.0) e.1

  -- the stores after an accepted delete, seen from the tuple's side
  accepted-wall : answer_number a ≡ 0
      → Wall p side (own_store side s') (other_store side s') s'.rows rest (other_tuples side m)
  accepted-wall z =
      let w = kept_from side m p s k in
      let r = called.accepted z in
      let e = passed p side t s (sym called.number ∙ z) in
      let within = home-in-plan p k.legal k.places t e.0 in
      record {
        mine = rw r.own (deleted-held p t (own_store side s) (own_tuples side m) w.mine within e.1);
        theirs = rw r.other w.theirs;
        made-rows =
            shrunk-held p s.rows s'.rows _ _
            (rows-held-same p s.rows _ _ w.made-rows
            (λ q.
            join-from-same p.minimum side (own_tuples side m) (t ∷ rest) (other_tuples side m)
            (take-out same_tuple same-tuple-is t (own_tuples side m) (has_one z)) q
            ∙ join-made p side t rest (other_tuples side m) (other_store side s) w.theirs q))
            r.rows r.sound;
      }

  take-is : (side : Side) → any (same_tuple t) (own_tuples side m) ≡ true
      → take_out side t m ≡ some (with_own side (without (same_tuple t) (own_tuples side m)) m)
  take-is Outer e = pick_true (any (same_tuple t) m.outer) _ none e
  take-is Inner e = pick_true (any (same_tuple t) m.inner) _ none e

  -- accepted or refused
  pub delete-done : (answer_number a ≡ 0) ⊎ (answer_number a ≡ 0 → ⊥) → Done m p s (delete side t) (answer_number a) p s'
  delete-done (inl z) = record {
    after = with_own side rest m;
    machine = told-accepted (delete side t) (answer_number a) m z ∙ take-is side (has_one z);
    kept = kept-with side rest m p s s' k (accepted-wall z);
    owed = λ e i l apart.
        sym
        (untouched p k.legal k.places side t (other_store side s) s'.rows s.rows (called.accepted z).rows
        i l apart);
  }
  delete-done (inr ne) =
      done_refused m p p s s' (delete side t) (answer_number a) ne k refl (called.refused ne).kept (λ e. absurd (ne e))
