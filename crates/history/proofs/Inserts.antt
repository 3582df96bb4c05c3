-- Insert keeps the stores current: the own store holds one tuple more, the rows store what the tuple makes with the
-- other side more, and a rows partition that shares no chronon with the tuple keeps every word.
-- Assumes nothing.
use mathlib.Core.Bool.{true, false}
use mathlib.Core.List.{List, [], ◌∷◌, ◌++◌}
use mathlib.Core.Logic.{◌⊎◌, inl, inr}
use mathlib.Core.Option.{some}
use mathlib.Core.Path.{◌≡◌, refl, sym, ◌∙◌, ap}
use Prim.Native.Nat.{ℕ, ◌<◌}
use lib.ListN.{length}
use borrow.Author.Tests.{eq-eqb, leb-false}
use Rattle.lists.specs.Choice.{refuse_if}
use Rattle.lists.specs.Same.{Same, times}
use Rattle.lists.proofs.Choice.{and_both, first-none, refuse-none}
use Rattle.lists.proofs.Same.{same_refl, same-append, same-comm, same-cons}
use Rattle.interval.specs.Tuple.{to, tuple_width, tuple_of, tuple_words, tuple_number, legal_tuple, same_tuple, same_row}
use Rattle.interval.specs.declared.tuple.Tuple.{Tuple}
use Rattle.interval.specs.declared.tuple.Row.{Row}
use Rattle.plan.specs.Plan.{home}
use Rattle.plan.specs.declared.Partitioning.{Partitioning}
use Rattle.part.specs.Part.{counted, tuples_in, rows_in, appended}
use Rattle.part.proofs.Parts.{length-appended, tuples-appended, room-free, sound-appended}
use Rattle.store.specs.Store.{tuple_room, tuple_part, row_part, tuple_at_home, sound_tuple_part}
use Rattle.store.specs.Store.{stored_tuples, rows_at}
use Rattle.store.proofs.Stores.{on-length, on_same, on-other, partition-length, sound-tuples-at, sound-tuples-on}
use Rattle.store.proofs.Stores.{stored_more}
use Rattle.rows.specs.declared.Side.{Side}
use Rattle.rows.specs.declared.Side.TheVariants.{Outer, Inner}
use Rattle.rows.proofs.Joins.{rows-at-append}
use Rattle.checks.specs.Stores.{Stores, store_number}
use Rattle.refusal.specs.Refusal.{answer_number}
use Rattle.checks.specs.Answer.{Answer}
use Rattle.insertion.specs.Changes.{Grown}
use Rattle.insertion.specs.Inserts.{full, inserted}
use Rattle.insertion.proofs.Sites.{legal-is}
use Rattle.join.specs.Changes.{own_store, other_store, insert_number, Inserted}
use Rattle.history.specs.Machine.{insert, Machine, own_tuples, put}
use Rattle.history.proofs.Changes.{home-in-plan, join-made, untouched}
use Rattle.history.proofs.Held.{TupleStore, RowStore, Wall, rows-held-same}
use Rattle.history.proofs.Kept.{Kept, Done, other_tuples, with_own, kept_from, kept-with}
use Rattle.history.proofs.Kept.{told-accepted, done_refused}

-- ---- the own store

module _ (p : Partitioning) (t : Tuple) (ws : List ℕ) (ts : List Tuple) (h : TupleStore p ws ts)
    (within : home p (to t) < p.count) (legal : tuple_number t ≡ 0) (free : full p t ws ≡ false) where
  -- the tuple's partition, and the tuple appended to it
  abbrev part : List ℕ
  part = tuple_part p ws (home p (to t))

  abbrev more : List ℕ → List ℕ
  more = appended tuple_width (tuple_words t)

  part-long : length part ≡ tuple_room p
  part-long = partition-length (tuple_room p) p.count (home p (to t)) ws h.long within

  more-long : length (more part) ≡ tuple_room p
  more-long = length-appended tuple_width (tuple_words t) part ∙ part-long

  part_free : counted part < p.tuples
  part_free = leb-false p.tuples (counted part) free

  more-tuples : Same same_tuple (tuples_in (more part)) (t ∷ tuples_in part)
  more-tuples =
      rw (tuples-appended t part (room-free tuple_width p.tuples part part-long part_free))
      (same-comm same_tuple (tuples_in part) (t ∷ []))

  more-sound : sound_tuple_part p (home p (to t)) (more part) ≡ true
  unfolding sound_tuple_part tuple_at_home
  more-sound =
      sound-appended tuple_width p.tuples (λ ws. tuple_at_home p (home p (to t)) (tuple_of ws)) (tuple_words t) part
      (sound-tuples-at p ws h.sound (home p (to t)) within) part-long part_free refl
      (and_both (legal_tuple t) _ (legal-is t legal) (eq-eqb (home p (to t)) (home p (to t)) refl))

  more-stored : Same same_tuple (stored_tuples p (inserted p t ws)) (t ∷ stored_tuples p ws)
  unfolding stored_tuples
  more-stored =
      let at = home p (to t) in
      stored_more same_tuple (λ i. tuples_in (tuple_part p ws i)) (λ i. tuples_in (tuple_part p (inserted p t ws) i))
      p.count at t within
      (λ j l ne. ap tuples_in (on-other (tuple_room p) p.count at more ws h.long within more-long j l ne))
      (rw (on_same (tuple_room p) p.count at more ws h.long within more-long) more-tuples)

  -- the store holds the tuple and what it held
  pub inserted-held : TupleStore p (inserted p t ws) (t ∷ ts)
  inserted-held = record {
    long = on-length (tuple_room p) p.count (home p (to t)) more ws h.long within more-long ∙ h.long;
    sound = sound-tuples-on p (home p (to t)) more ws h.long within more-long h.sound more-sound;
    held = λ u. more-stored u ∙ same-cons same_tuple t (stored_tuples p ws) ts h.held u;
  }

-- ---- the rows store

-- grown by the rows `new`
pub grown-held : (p : Partitioning) (ws ws' : List ℕ) (rs new : List Row) → RowStore p ws rs → Grown p ws new ws'
    → RowStore p ws' (rs ++ new)
grown-held p ws ws' rs new h g = record {
  long = g.long ∙ h.long;
  sound = g.sound;
  held = λ i l r.
      g.held i l r
      ∙ same-append same_row (rows_in (row_part p ws i)) (rows_at p i rs) (rows_at p i new) (rows_at p i new) (h.held i l)
      (same_refl same_row (rows_at p i new)) r
      ∙ ap (times same_row r) (sym (rows-at-append p i rs new));
}

-- ---- the call

-- what checks 1 to 9 say where the call is accepted
passed : (p : Partitioning) (side : Side) (t : Tuple) (s : Stores) → insert_number p side t s ≡ 0
    → (tuple_number t ≡ 0) × (full p t (own_store side s) ≡ false)
unfolding insert_number
passed p side t s e =
    let a = first-none (store_number p s) _ e in
    let b = first-none (tuple_number t) _ a.1 in
    let c = first-none (refuse_if (full p t (own_store side s)) 9) _ b.1 in
    (b.0, refuse-none (full p t (own_store side s)) 8 c.0)

module _ (m : Machine) (p : Partitioning) (side : Side) (t : Tuple) (s s' : Stores) (a : Answer) (k : Kept m p s)
    (called : Inserted p side t s s' a) where
  -- the stores after an accepted insert, seen from the tuple's side
  accepted-wall : answer_number a ≡ 0
      → Wall p side (own_store side s') (other_store side s') s'.rows (t ∷ own_tuples side m) (other_tuples side m)
  accepted-wall z =
      let w = kept_from side m p s k in
      let r = called.accepted z in
      let e = passed p side t s (sym called.number ∙ z) in
      let within = home-in-plan p k.legal k.places t e.0 in
      record {
        mine = rw r.own (inserted-held p t (own_store side s) (own_tuples side m) w.mine within e.0 e.1);
        theirs = rw r.other w.theirs;
        made-rows =
            rows-held-same p s'.rows _ _
            (grown-held p s.rows s'.rows _ _ w.made-rows r.rows)
            (λ q. sym
            (join-made p side t (own_tuples side m) (other_tuples side m) (other_store side s) w.theirs q));
      }

  put_is : (side : Side) → put side t m ≡ with_own side (t ∷ own_tuples side m) m
  put_is Outer = refl
  put_is Inner = refl

  -- accepted or refused
  pub insert-done : (answer_number a ≡ 0) ⊎ (answer_number a ≡ 0 → ⊥) → Done m p s (insert side t) (answer_number a) p s'
  insert-done (inl z) = record {
    after = with_own side (t ∷ own_tuples side m) m;
    machine = told-accepted (insert side t) (answer_number a) m z ∙ ap some (put_is side);
    kept = kept-with side (t ∷ own_tuples side m) m p s s' k (accepted-wall z);
    owed = λ e.
        untouched p k.legal k.places side t (other_store side s) s.rows s'.rows (called.accepted z).rows;
  }
  insert-done (inr ne) =
      done_refused m p p s s' (insert side t) (answer_number a) ne k refl (called.refused ne).kept (λ e. absurd (ne e))
