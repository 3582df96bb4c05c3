-- Laws of whole stores: a partition changed, once or twice, and the others kept; soundness, partition by partition;
-- what a store holds, with one record more or fewer; each record in the partition it belongs to; the empty store.
-- The laws that do not speak of tuples or rows are stated once, over the partitions' room and number; so is what is
-- said of tuple stores and of rows stores alike, over what specs/Store names for each (`SoundAt` and the like).
-- Assumes nothing.
use mathlib.Core.Bool.{Bool, true, ◌&&◌}
use mathlib.Core.List.{List, [], ◌∷◌, ◌++◌}
use mathlib.Core.Logic.{⊎_elim}
use mathlib.Core.Path.{◌≡◌, refl, sym, ◌∙◌, ap}
use Prim.Native.Nat.{ℕ, ◌+◌, ◌*◌, ◌≤◌, ◌<◌}
use native.Mathlib.Omega.{arith}
use lib.ListN.{length, replicate, take, drop}
use lib.Seq.{drop_at, length-take-le}
use lib.Dec.{eqb}
use borrow.Author.Tests.{eqb-true, eqb-false, ne_eqb}
use borrow.Rule.Slice.PartMut.{take_put}
use Rattle.lists.specs.Members.{all, keep, gather, tally, below}
use Rattle.lists.specs.Choice.{pick}
use Rattle.lists.specs.Same.{Same}
use Rattle.lists.proofs.Choice.{bool_cases, and_left, and_right}
use Rattle.lists.proofs.Members.{all_map, all-imply, keep_all}
use Rattle.lists.proofs.Gather.{keep-gather, gather-nil, tally-gather, all-gather}
use Rattle.lists.proofs.Tally.{tally-append}
use Rattle.lists.proofs.Below.{all-below, below_all, gather-one, gather-cong-below, total-more}
use Rattle.lists.proofs.Parts.{start-within, length_part, length-put, part-put, part-put-other, part-replicate}
use Rattle.interval.specs.Tuple.{to, legal_tuple}
use Rattle.interval.specs.Tuple.{row_to, legal_row}
use Rattle.plan.specs.Plan.{home}
use Rattle.part.specs.Part.{room_of, records_in, tuples_in, rows_in, sound_part}
use Rattle.store.specs.Store.{tuple_room, row_room, partition_at, on_partition, tuple_part}
use Rattle.store.specs.Store.{tuple_at_home, row_at_home, sound_tuple_part, sound_row_part, sound_tuples, sound_rows}
use Rattle.store.specs.Store.{stored_tuples, stored_rows, tuples_at, rows_at}
use Rattle.plan.specs.declared.Partitioning.{Partitioning}
use Rattle.part.proofs.Parts.{Kind, tuples, rows, values-empty, sound-records, sound_empty}

-- ---- one partition changed: its length, the partition itself, the others

module _ (room n i : ℕ) (f : List ℕ → List ℕ) (ws : List ℕ) (long : length ws ≡ n * room) (within : i < n)
    (kept : length (f (partition_at room ws i)) ≡ room) where
  fits : i * room + room ≤ length ws
  fits = omega (arith, start-within i n room within)

  pub on-length : length (on_partition room i f ws) ≡ length ws
  on-length = length-put (i * room) room ws (f (partition_at room ws i)) fits kept

  pub on_same : partition_at room (on_partition room i f ws) i ≡ f (partition_at room ws i)
  on_same = part-put (i * room) room ws (f (partition_at room ws i)) fits kept

  pub on-other : (j : ℕ) → j < n → (j ≡ i → ⊥) → partition_at room (on_partition room i f ws) j ≡ partition_at room ws j
  on-other j h ne = part-put-other i j n room ws (f (partition_at room ws i)) long kept within h ne

  -- a test of every partition still holds where it holds of the changed one
  pub on-all : (check : ℕ → List ℕ → Bool) → all (λ j. check j (partition_at room ws j)) (below n) ≡ true
      → check i (f (partition_at room ws i)) ≡ true
      → all (λ j. check j (partition_at room (on_partition room i f ws) j)) (below n) ≡ true
  on-all check h g = below_all (λ j. check j (partition_at room (on_partition room i f ws) j)) n at
    where
      at : (j : ℕ) → j < n → check j (partition_at room (on_partition room i f ws) j) ≡ true
      at j l =
          ⊎_elim (λ e. rw (eqb-true j i e, on_same) g)
          (λ e. rw (on-other j l (eqb-false j i e)) (all-below (λ j. check j (partition_at room ws j)) n h j l))
          (bool_cases (eqb j i))

-- one partition changed twice
pub on-twice : (f g : List ℕ → List ℕ) (room i : ℕ) (ws : List ℕ) → i * room + room ≤ length ws
    → length (f (partition_at room ws i)) ≡ room
    → on_partition room i g (on_partition room i f ws) ≡ on_partition room i (λ part. g (f part)) ws
on-twice f g room i ws h e =
    rw (
      part-put a room ws ys h e,
      take_put a room ws ys (omega arith),
      drop_at (take a ws) (ys ++ drop room (drop a ws)) a (length-take-le a ws (omega arith)),
      drop_at ys (drop room (drop a ws)) room e,
    )
  where
    a : ℕ
    a = i * room

    ys : List ℕ
    ys = f (partition_at room ws i)

-- the length of a partition of a store
pub partition-length : (room n i : ℕ) (ws : List ℕ) → length ws ≡ n * room → i < n
    → length (partition_at room ws i) ≡ room
partition-length room n i ws long h = length_part (i * room) room ws (omega (arith, start-within i n room h))

-- ---- soundness, partition by partition: what is said of tuple stores and of rows stores alike, then of each

-- room: a partition's words; part, store: whether partition i, the whole store is sound
module _ (room : Partitioning → ℕ) (part : Partitioning → ℕ → List ℕ → Bool)
    (store : Partitioning → List ℕ → Bool) where
  -- each partition of a sound store is sound
  abbrev pub SoundAt : Type 0
  SoundAt = (p : Partitioning) (ws : List ℕ) → store p ws ≡ true → (i : ℕ) → i < p.count
      → part p i (partition_at (room p) ws i) ≡ true

  -- a store is sound where each partition is
  abbrev pub SoundBy : Type 0
  SoundBy = (p : Partitioning) (ws : List ℕ)
      → ((i : ℕ) → i < p.count → part p i (partition_at (room p) ws i) ≡ true) → store p ws ≡ true

  -- a changed partition that is sound keeps its store sound
  abbrev pub SoundOn : Type 0
  SoundOn = (p : Partitioning) (i : ℕ) (f : List ℕ → List ℕ) (ws : List ℕ) → length ws ≡ p.count * room p
      → i < p.count → length (f (partition_at (room p) ws i)) ≡ room p → store p ws ≡ true
      → part p i (f (partition_at (room p) ws i)) ≡ true → store p (on_partition (room p) i f ws) ≡ true

  sound-on : SoundAt → SoundBy → SoundOn
  sound-on at by p i f ws long h kept s g =
      by p (on_partition (room p) i f ws)
      (all-below _ p.count
      (on-all (room p) p.count i f ws long h kept (part p) (below_all _ p.count (at p ws s)) g))

pub sound-tuples-at : SoundAt tuple_room sound_tuple_part sound_tuples
unfolding sound_tuples
sound-tuples-at p ws h i l = all-below _ p.count h i l

pub sound-rows-at : SoundAt row_room sound_row_part sound_rows
unfolding sound_rows
sound-rows-at p ws h i l = all-below _ p.count h i l

pub tuples-sound-by : SoundBy tuple_room sound_tuple_part sound_tuples
unfolding sound_tuples
tuples-sound-by p ws h = below_all _ p.count h

pub rows-sound-by : SoundBy row_room sound_row_part sound_rows
unfolding sound_rows
rows-sound-by p ws h = below_all _ p.count h

pub sound-tuples-on : SoundOn tuple_room sound_tuple_part sound_tuples
sound-tuples-on = sound-on tuple_room sound_tuple_part sound_tuples sound-tuples-at tuples-sound-by

pub sound-rows-on : SoundOn row_room sound_row_part sound_rows
sound-rows-on = sound-on row_room sound_row_part sound_rows sound-rows-at rows-sound-by

-- ---- every stored record is legal and at home, and stands in the partition it belongs to

-- the values of a sound part's records are legal, where that is what the part is tested for
values-legal : {A : Type 0} (kind : Kind A) (capacity : ℕ) (ok : A → Bool) (part : List ℕ)
    → sound_part kind.width capacity (λ ws. ok (kind.value ws)) part ≡ true → all ok (kind.held part) ≡ true
values-legal kind capacity ok part h =
    rw (kind.held-is part) (all_map ok kind.value (records_in kind.width part)
    ∙ sound-records kind.width capacity (λ ws. ok (kind.value ws)) part h)

-- the records of a sound partition i pass the test that belongs to i
abbrev pub AtHome : {A : Type 0} → (Partitioning → ℕ → List ℕ → Bool) → (Partitioning → ℕ → A → Bool)
    → (List ℕ → List A) → Type 0
AtHome part ok held = (p : Partitioning) (i : ℕ) (ws : List ℕ) → part p i ws ≡ true → all (ok p i) (held ws) ≡ true

pub tuples-at-home : AtHome sound_tuple_part tuple_at_home tuples_in
unfolding sound_tuple_part
tuples-at-home p i part h = values-legal tuples p.tuples (tuple_at_home p i) part h

pub rows-at-home : AtHome sound_row_part row_at_home rows_in
unfolding sound_row_part
rows-at-home p i part h = values-legal rows p.rows (row_at_home p i) part h

-- each tuple stored is legal
pub stored-legal : (p : Partitioning) (ws : List ℕ) → sound_tuples p ws ≡ true
    → all legal_tuple (stored_tuples p ws) ≡ true
unfolding stored_tuples tuple_at_home
stored-legal p ws s =
    all-gather legal_tuple (λ i. tuples_in (tuple_part p ws i)) (below p.count)
    ∙ below_all (λ i. all legal_tuple (tuples_in (tuple_part p ws i))) p.count
    (λ i h. all-imply (tuple_at_home p i) legal_tuple (tuples_in (tuple_part p ws i))
    (λ t e. and_left (legal_tuple t) (eqb (home p (to t)) i) e)
    (tuples-at-home p i (tuple_part p ws i) (sound-tuples-at p ws s i h)))

-- lists whose members are legal and have a home each: those at home i of all of them are those of list i
module _ {A : Type 0} (legal : A → Bool) (at : A → ℕ) (n : ℕ) (parts : ℕ → List A)
    (homes : (j : ℕ) → j < n → all (λ x. legal x && eqb (at x) j) (parts j) ≡ true) where
  none_elsewhere : (i j : ℕ) → (xs : List A) → (j ≡ i → ⊥) → all (λ x. eqb (at x) j) xs ≡ true
      → keep (λ x. eqb (at x) i) xs ≡ []
  none_elsewhere i j [] ne h = refl
  none_elsewhere i j (x ∷ xs) ne h =
      let here = and_left (eqb (at x) j) (all (λ x. eqb (at x) j) xs) h in
      let rest = and_right (eqb (at x) j) (all (λ x. eqb (at x) j) xs) h in
      rw (ne_eqb (at x) i (λ e. ne (sym (eqb-true (at x) j here) ∙ e))) (none_elsewhere i j xs ne rest)

  placed : (j : ℕ) → j < n → all (λ x. eqb (at x) j) (parts j) ≡ true
  placed j l =
      all-imply (λ x. legal x && eqb (at x) j) (λ x. eqb (at x) j) (parts j)
      (λ x e. and_right (legal x) (eqb (at x) j) e) (homes j l)

  gathered-at : (i : ℕ) → i < n → keep (λ x. eqb (at x) i) (gather parts (below n)) ≡ parts i
  gathered-at i h =
      keep-gather (λ x. eqb (at x) i) parts (below n)
      ∙ gather-one (λ j. keep (λ x. eqb (at x) i) (parts j)) n i h
      (λ j l ne. none_elsewhere i j (parts j) ne (placed j l))
      ∙ keep_all (λ x. eqb (at x) i) (parts i) (placed i h)

-- what a sound store holds that belongs to partition i is what partition i holds
abbrev pub StoredAt : {A : Type 0} → (Partitioning → ℕ) → (List ℕ → List A) → (Partitioning → List ℕ → Bool)
    → (Partitioning → List ℕ → List A) → (Partitioning → ℕ → List A → List A) → Type 0
StoredAt room held store stored among = (p : Partitioning) (ws : List ℕ) → store p ws ≡ true → (i : ℕ) → i < p.count
    → among p i (stored p ws) ≡ held (partition_at (room p) ws i)

stored_at : {A : Type 0} (legal : Partitioning → A → Bool) (last : A → ℕ) (room : Partitioning → ℕ)
    (part : Partitioning → ℕ → List ℕ → Bool) (store : Partitioning → List ℕ → Bool) (held : List ℕ → List A)
    → SoundAt room part store → AtHome part (λ p i x. legal p x && eqb (home p (last x)) i) held
    → StoredAt room held store (λ p ws. gather (λ i. held (partition_at (room p) ws i)) (below p.count))
    (λ p i. keep (λ x. eqb (home p (last x)) i))
stored_at legal last room part store held at homes p ws s =
    gathered-at (legal p) (λ x. home p (last x)) p.count (λ i. held (partition_at (room p) ws i))
    (λ i l. homes p i (partition_at (room p) ws i) (at p ws s i l))

pub tuples-stored-at : StoredAt tuple_room tuples_in sound_tuples stored_tuples tuples_at
unfolding tuples_at stored_tuples tuple_at_home
tuples-stored-at =
    stored_at (λ p. legal_tuple) to tuple_room sound_tuple_part sound_tuples tuples_in sound-tuples-at tuples-at-home

pub rows-stored-at : StoredAt row_room rows_in sound_rows stored_rows rows_at
unfolding rows_at stored_rows row_at_home
rows-stored-at =
    stored_at (λ p. legal_row p.minimum) row_to row_room sound_row_part sound_rows rows_in sound-rows-at rows-at-home

-- ---- the empty store: all zeros, of the plan's length

pub empty-part : (room n i : ℕ) → i < n → partition_at room (replicate (n * room) 0) i ≡ replicate room 0
empty-part room n i h = part-replicate (i * room) room (n * room) 0 (omega (arith, start-within i n room h))

-- each of its partitions is sound, and all that they hold is nothing
empty-sound : (w capacity n : ℕ) (ok : ℕ → List ℕ → Bool) (i : ℕ) → i < n
    → sound_part w capacity (ok i) (partition_at (room_of w capacity) (replicate (n * room_of w capacity) 0) i) ≡ true
empty-sound w capacity n ok i h = rw (empty-part (room_of w capacity) n i h) (sound_empty w capacity (ok i))

empty-stored : {A : Type 0} (kind : Kind A) (room n : ℕ)
    → gather (λ i. kind.held (partition_at room (replicate (n * room) 0) i)) (below n) ≡ []
empty-stored kind room n =
    gather-cong-below _ (λ i. []) n
    (λ i h. ap kind.held (empty-part room n i h) ∙ values-empty kind room)
    ∙ gather-nil (λ i. []) (below n) (λ i. refl)

-- what f makes of the empty store
abbrev pub OfEmpty : {B : Type 0} → (Partitioning → ℕ) → (Partitioning → List ℕ → B) → B → Type 0
OfEmpty room f b = (p : Partitioning) → f p (replicate (p.count * room p) 0) ≡ b

pub empty-tuples-sound : OfEmpty tuple_room sound_tuples true
unfolding sound_tuple_part
empty-tuples-sound p = tuples-sound-by p _ (empty-sound _ _ p.count _)

pub empty-rows-sound : OfEmpty row_room sound_rows true
unfolding sound_row_part
empty-rows-sound p = rows-sound-by p _ (empty-sound _ _ p.count _)

pub empty-tuples-stored : OfEmpty tuple_room stored_tuples []
unfolding stored_tuples
empty-tuples-stored p = empty-stored tuples (tuple_room p) p.count

pub empty-rows-stored : OfEmpty row_room stored_rows []
unfolding stored_rows
empty-rows-stored p = empty-stored rows (row_room p) p.count

-- ---- one record more: partition i gains x, the others stay as they are

pub stored_more : {A : Type 0} (same : A → A → Bool) (before after : ℕ → List A) (n i : ℕ) (x : A) → i < n
    → ((j : ℕ) → j < n → (j ≡ i → ⊥) → after j ≡ before j) → Same same (after i) (x ∷ before i)
    → Same same (gather after (below n)) (x ∷ gather before (below n))
stored_more same before after n i x h others here y =
    tally-gather (same y) after (below n)
    ∙ total-more (λ j. tally (same y) (before j)) (λ j. tally (same y) (after j)) n i (pick (same y x) 1 0) h
    (λ j l ne. ap (tally (same y)) (others j l ne)) (here y ∙ one (before i))
    ∙ ap (λ (m : ℕ). pick (same y x) 1 0 + m) (sym (tally-gather (same y) before (below n)))
    ∙ sym (one (gather before (below n)))
  where
    one : (xs : List _) → tally (same y) (x ∷ xs) ≡ pick (same y x) 1 0 + tally (same y) xs
    one xs = tally-append (same y) (x ∷ []) xs
