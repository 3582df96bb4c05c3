-- Steps keep the lengths of the lent stores: of one that is refused, of a `least` line, of an opened wall, of an
-- accepted call.
-- Assumes nothing.
use mathlib.Core.List.{List, ◌∷◌}
use mathlib.Core.Logic.{⊎_elim}
use mathlib.Core.Path.{◌≡◌, refl, sym, ◌∙◌, ap}
use Prim.Native.Nat.{ℕ, ◌+◌, ◌<◌}
use native.Mathlib.Omega.{arith}
use lib.Dec.{eqb}
use lib.ListN.{length, take, drop, length-append, length-replicate, take-append-drop}
use borrow.Author.Tests.{eqb-true, eqb-false}
use Rattle.lists.specs.Choice.{first_of}
use Rattle.lists.proofs.Choice.{bool_cases, first-none}
use Rattle.interval.specs.Time.{calendar_end}
use Rattle.interval.specs.Tuple.{tuple_width, tuple_words, to, tuple_number}
use Rattle.interval.specs.declared.time.Chronon.{Chronon}
use Rattle.interval.specs.declared.tuple.Tuple.{Tuple}
use Rattle.plan.specs.Plan.{most_partitions, home}
use Rattle.plan.specs.declared.Partitioning.{Partitioning}
use Rattle.part.specs.Part.{appended, removed, place_of_tuple}
use Rattle.part.proofs.Parts.{length-appended, length_removed}
use Rattle.store.specs.Store.{tuple_room, tuple_part, on_partition}
use Rattle.store.proofs.Stores.{on-length, partition-length}
use Rattle.rows.specs.declared.Side.{Side}
use Rattle.rows.specs.declared.Side.TheVariants.{Outer, Inner}
use Rattle.checks.specs.Stores.{Stores, store_number}
use Rattle.refusal.specs.Refusal.{answer_number}
use Rattle.checks.specs.Answer.{Answer}
use Rattle.insertion.specs.Changes.{Checked}
use Rattle.insertion.specs.Inserts.{inserted}
use Rattle.insertion.proofs.Sites.{at-within}
use Rattle.deletion.specs.Deletes.{deleted}
use Rattle.join.specs.Changes.{insert_number, Inserted, delete_number, Deleted}
use Rattle.join.proofs.ChangeCalls.{checked}
use Rattle.lines.specs.declared.Word.{Word}
use Rattle.lines.specs.declared.Word.TheVariants.{DrawIn, DrawOut, SpotIn, SpotOut}
use Rattle.lines.specs.declared.Line.{Line}
use Rattle.lines.specs.declared.Line.TheVariants.{Lane, Least, Change, Malformed}
use Rattle.session_plan.specs.Lanes.{plan_of, used_tuples, used_rows}
use Rattle.session_plan.specs.declared.Session.{Session}
use Rattle.session_plan.proofs.Plans.{Good}
use Rattle.session.specs.Session.{wall_of, rest_of, Called, WallOpened, WallChanged, LaneTaken, Taken}
use Rattle.session.specs.Session.{Stepped, SteppedBy}
use Rattle.session.proofs.Reached.{Reached, begun, then, reached-good}

pub record SameLong (S S' : Stores) : Type 0 where
  pub outer : length S'.outer ≡ length S.outer
  pub inner : length S'.inner ≡ length S.inner
  pub rows : length S'.rows ≡ length S.rows

long_kept : (S S' : Stores) → S' ≡ S → SameLong S S'
long_kept S S' e = record {
  outer = ap (λ (s : Stores). length s.outer) e;
  inner = ap (λ (s : Stores). length s.inner) e;
  rows = ap (λ (s : Stores). length s.rows) e;
}

-- a store whose words in use are as many as before, and the others as they were
whole_long : (n : ℕ) (ws ws' : List ℕ) → length (take n ws') ≡ length (take n ws) → drop n ws' ≡ drop n ws
    → length ws' ≡ length ws
whole_long n ws ws' e d =
    omega (arith, whole ws, whole ws', ap length d)
  where
    whole : (xs : List ℕ) → length (take n xs) + length (drop n xs) ≡ length xs
    whole xs = sym (length-append (take n xs) (drop n xs)) ∙ ap length (take-append-drop n xs)

-- a call that is accepted: a tuple's store, of which one partition changed, and the rows store
module _ (p : Partitioning) (t : Tuple) (own other rows : List ℕ) (c : Checked p t own other rows)
    (places : length p.lasts ≡ most_partitions) where
  home-in : home p (to t) < p.count
  home-in = at-within p t c.legal c.tuple_legal places

  on-home : (f : List ℕ → List ℕ) → ((part : List ℕ) → length (f part) ≡ length part)
      → length (on_partition (tuple_room p) (home p (to t)) f own) ≡ length own
  on-home f same =
      on-length (tuple_room p) p.count (home p (to t)) f own c.own_checked.long home-in
      (same (tuple_part p own (home p (to t)))
      ∙ partition-length (tuple_room p) p.count (home p (to t)) own c.own_checked.long home-in)

  inserted-long : length (inserted p t own) ≡ length own
  inserted-long = on-home (appended tuple_width (tuple_words t)) (length-appended tuple_width (tuple_words t))

  deleted-long : length (deleted p t own) ≡ length own
  deleted-long =
      let k = place_of_tuple t (tuple_part p own (home p (to t))) in
      on-home (removed tuple_width k) (length_removed tuple_width k)

module _ (p : Partitioning) (t : Tuple) (S S' : Stores) (a : Answer) (places : length p.lasts ≡ most_partitions) where
  checks : (ns : List ℕ) → first_of (store_number p S ∷ (tuple_number t ∷ ns)) ≡ 0
      → (store_number p S ≡ 0) × (tuple_number t ≡ 0)
  checks ns e = let b = first-none (store_number p S) _ e in (b.0, (first-none (tuple_number t) ns b.1).0)

  insert-long : (side : Side) → Inserted p side t S S' a → answer_number a ≡ 0 → SameLong S S'
  unfolding insert_number
  insert-long Outer h z =
      let k = checks _ (sym h.number ∙ z) in
      let c = checked p Outer t S k.0 k.1 in
      let r = h.accepted z in
      record {
        outer = ap length r.own ∙ inserted-long p t _ _ _ c places;
        inner = ap length r.other;
        rows = r.rows.long;
      }
  insert-long Inner h z =
      let k = checks _ (sym h.number ∙ z) in
      let c = checked p Inner t S k.0 k.1 in
      let r = h.accepted z in
      record {
        outer = ap length r.other;
        inner = ap length r.own ∙ inserted-long p t _ _ _ c places;
        rows = r.rows.long;
      }

  delete-long : (side : Side) → Deleted p side t S S' a → answer_number a ≡ 0 → SameLong S S'
  unfolding delete_number
  delete-long Outer h z =
      let k = checks _ (sym h.number ∙ z) in
      let c = checked p Outer t S k.0 k.1 in
      let r = h.accepted z in
      record {
        outer = ap length r.own ∙ deleted-long p t _ _ _ c places;
        inner = ap length r.other;
        rows = sym r.rows.long;
      }
  delete-long Inner h z =
      let k = checks _ (sym h.number ∙ z) in
      let c = checked p Inner t S k.0 k.1 in
      let r = h.accepted z in
      record {
        outer = ap length r.other;
        inner = ap length r.own ∙ deleted-long p t _ _ _ c places;
        rows = sym r.rows.long;
      }

  called-long : (w : Word) → Called w p t S S' a → answer_number a ≡ 0 → SameLong S S'
  called-long DrawIn h z = insert-long Outer h z
  called-long DrawOut h z = delete-long Outer h z
  called-long SpotIn h z = insert-long Inner h z
  called-long SpotOut h z = delete-long Inner h z

-- ---- the words in use as many as before, and the others as they were

wall-long : (s : Session) (S S' : Stores) → SameLong (wall_of s S) (wall_of s S') → rest_of s S' ≡ rest_of s S
    → SameLong S S'
wall-long s S S' l e = record {
  outer = whole_long (used_tuples s) S.outer S'.outer l.outer (ap (λ (r : Stores). r.outer) e);
  inner = whole_long (used_tuples s) S.inner S'.inner l.inner (ap (λ (r : Stores). r.inner) e);
  rows = whole_long (used_rows s) S.rows S'.rows l.rows (ap (λ (r : Stores). r.rows) e);
}

opened-long : (s : Session) (S S' : Stores) → WallOpened s S S' → SameLong S S'
opened-long s S S' h =
    wall-long s S S'
    (record {
      outer = ap (λ (w : Stores). length w.outer) h.wall ∙ length-replicate _ 0;
      inner = ap (λ (w : Stores). length w.inner) h.wall ∙ length-replicate _ 0;
      rows = ap (λ (w : Stores). length w.rows) h.wall ∙ length-replicate _ 0;
    })
    h.rest

changed-long : (s : Session) (w : Word) (t : Tuple) (S S' : Stores) → length s.lasts ≡ most_partitions
    → WallChanged s w t S S'
    → SameLong S S'
changed-long s w t S S' places h =
    wall-long s S S'
    (called-long (plan_of s) t (wall_of s S) (wall_of s S') h.answer places w h.wall h.number)
    h.rest

lane-long : (s : Session) (m : Chronon) (S S' : Stores) → LaneTaken s m S S' → SameLong S S'
lane-long s m S S' h =
    ⊎_elim (λ e. opened-long _ S S' (h.completing (eqb-true m.0 calendar_end e)))
    (λ e. long_kept S S' (h.between (eqb-false m.0 calendar_end e)))
    (bool_cases (eqb m.0 calendar_end))

taken-long : (s : Session) (line : Line) (S S' : Stores) → length s.lasts ≡ most_partitions → Taken s line S S'
    → SameLong S S'
taken-long s (Lane m) S S' places h = lane-long s m S S' h
taken-long s (Least n) S S' places h = long_kept S S' h
taken-long s (Change w t) S S' places h = changed-long s w t S S' places h
taken-long s Malformed S S' places h = absurd h

-- ---- a step, and every store reached

pub step-long : (s : Session) (line : Line) (S S' : Stores) (r : Stepped) → Good s → SteppedBy s line S S' r
    → SameLong S S'
step-long s line S S' r g h =
    ⊎_elim (λ e. taken-long s line S S' g.places (h.accepted (eqb-true (answer_number r) 0 e)))
    (λ e. long_kept S S' (h.refused (eqb-false (answer_number r) 0 e)).1)
    (bool_cases (eqb (answer_number r) 0))

pub reached-long : {S₀ : Stores} {s : Session} {S : Stores} → Reached S₀ s S → SameLong S₀ S
reached-long begun = record { outer = refl; inner = refl; rows = refl }
reached-long (then {s = s} {S = S} {S' = S'} {line = line} {r = r} x h) =
    let a = reached-long x in
    let b = step-long s line S S' r (reached-good x) h in
    record { outer = b.outer ∙ a.outer; inner = b.inner ∙ a.inner; rows = b.rows ∙ a.rows }
