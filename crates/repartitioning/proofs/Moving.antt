-- One store's records counted at their homes by a new plan, and moved there, stated once over the kind of records that
-- it holds (`Held`), then of tuples and of rows.
-- In order: what is asked of a kind; the records of a store, as words and as values; their homes; how many belong to a
-- partition; a store that fits is movable; what is left after the move.
-- Assumes nothing.
use mathlib.Core.Bool.{Bool, true, false, ◌&&◌, false≢true}
use mathlib.Core.List.{List, [], ◌∷◌, map}
use mathlib.Core.Logic.{⊎_elim}
use mathlib.Core.Path.{◌≡◌, refl, sym, ap, ◌∙◌}
use Prim.Native.Nat.{ℕ, ◌*◌, ◌≤◌, ◌<◌}
use native.Mathlib.Omega.{arith}
use lib.Dec.{ltb, eqb}
use lib.ListN.{length, length-take}
use borrow.Author.Tests.{ltb-true, ltb-false, lt-ltb}
use Rattle.lists.specs.Members.{all, any, keep, tally, gather, below}
use Rattle.lists.specs.Same.{Same}
use Rattle.lists.proofs.Choice.{and_left, and_right, and_both, bool_cases}
use Rattle.lists.proofs.Members.{all-imply, any-cong}
use Rattle.lists.proofs.Gather.{map-gather, gather_cong, all-gather}
use Rattle.lists.proofs.Tally.{length-keep, tally-map, tally-cong}
use Rattle.lists.proofs.Below.{all-below, below_all, below-any}
use Rattle.lists.proofs.Same.{all_same, same_map}
use Rattle.interval.specs.Time.{calendar_end}
use Rattle.plan.specs.Plan.{plan_number, cuts_of, home_of, home}
use Rattle.plan.specs.declared.Partitioning.{Partitioning}
use Rattle.plan.proofs.Homes.{legal-plan, home-within}
use Rattle.part.specs.Part.{room_of, counted, records_in, sound_part}
use Rattle.part.proofs.Parts.{Kind, room-le, room_within, sound-count, sound-records, part_sound}
use Rattle.store.specs.Store.{partition_at}
use Rattle.store.proofs.Stores.{partition-length}
use Rattle.moves.specs.Moves.{same_words, last_of, stored_records, Counts}
use Rattle.moves.proofs.Words.{same-words-is}
use Rattle.rehoming.specs.Rehoming.{home_of_record, Movable, Rehomed}
use Rattle.move_count.specs.Crowding.{held_at, overfull, Homed}

-- what is asked of a kind of records, beside its width and values: which values are legal, their last chronon, which is
-- the last word of a record and within the calendar in a legal one, and their equality
pub record Held {A : Type 0} (kind : Kind A) : Type 0 where
  pub legal : A → Bool
  pub last : A → ℕ
  pub same : A → A → Bool
  pub last-is : (r : List ℕ) → last (kind.value r) ≡ last_of kind.width r
  pub in-calendar : (x : A) → legal x ≡ true → last x ≤ calendar_end
  pub wide : 1 ≤ kind.width

-- two tests of every member
all_both : {A : Type 0} (f g : A → Bool) (xs : List A) → all f xs ≡ true → all g xs ≡ true
    → all (λ x. f x && g x) xs ≡ true
all_both f g [] a b = refl
all_both f g (x ∷ xs) a b =
    and_both (f x && g x) (all (λ x. f x && g x) xs)
    (and_both (f x) (g x) (and_left (f x) (all f xs) a) (and_left (g x) (all g xs) b))
    (all_both f g xs (and_right (f x) (all f xs) a) (and_right (g x) (all g xs) b))

-- no number below n passes a test
none_below : (f : ℕ → Bool) (n : ℕ) → any f (below n) ≡ false → (i : ℕ) → i < n → f i ≡ false
none_below f n e i l = ⊎_elim (λ t. absurd (false≢true (sym e ∙ below-any f n i l t))) (λ t. t) (bool_cases (f i))

-- a store of n partitions that stands by some plan: its length, and that each partition is sound by a test which legal
-- records alone pass
pub record Standing {A : Type 0} (kind : Kind A) (of : Held kind) (capacity n : ℕ) (ws : List ℕ) : Type 0 where
  pub long : length ws ≡ n * room_of kind.width capacity
  pub ok : ℕ → List ℕ → Bool
  pub ok-legal : (i : ℕ) (r : List ℕ) → ok i r ≡ true → of.legal (kind.value r) ≡ true
  pub sound : (i : ℕ) → i < n
      → sound_part kind.width capacity (ok i) (partition_at (room_of kind.width capacity) ws i) ≡ true

-- fewer words of records are fewer records
room_back : (w m n : ℕ) → 1 ≤ w → room_of w m ≤ room_of w n → m ≤ n
room_back w m n wide h = decide (ltb n m) refl
  where
    decide : (t : Bool) → ltb n m ≡ t → m ≤ n
    decide true t = absurd (omega (arith, room_within w n m (ltb-true n m t)))
    decide false t = ltb-false n m t

-- at most as many cuts as the plan has partitions
cuts-most : (q : Partitioning) → length (cuts_of q) ≤ q.count
unfolding cuts_of
cuts-most q = simp length-take (omega arith)

module _ {A : Type 0} (kind : Kind A) (of : Held kind) (q : Partitioning) (capacity : ℕ)
    (legal-plan-q : plan_number q ≡ 0) where
  abbrev w : ℕ
  w = kind.width

  abbrev room : ℕ
  room = room_of w capacity

  -- all the records of a store, as words and as values
  abbrev records : List ℕ → List (List ℕ)
  records ws = stored_records w room q.count ws

  abbrev values : List ℕ → List A
  values ws = gather (λ i. kind.held (partition_at room ws i)) (below q.count)

  values-are : (ws : List ℕ) → values ws ≡ map kind.value (records ws)
  unfolding stored_records
  values-are ws =
      gather_cong _ (λ i. map kind.value (records_in w (partition_at room ws i))) (below q.count)
      (λ i. kind.held-is (partition_at room ws i))
      ∙ sym (map-gather kind.value (λ i. records_in w (partition_at room ws i)) (below q.count))

  -- how many of them belong to partition i
  held-at : (ws : List ℕ) (i : ℕ)
      → length (keep (λ x. eqb (home q (of.last x)) i) (values ws)) ≡ held_at w (cuts_of q) (records ws) i
  unfolding held_at home
  held-at ws i =
      length-keep (λ x. eqb (home q (of.last x)) i) (values ws)
      ∙ ap (tally (λ x. eqb (home q (of.last x)) i)) (values-are ws)
      ∙ tally-map (λ x. eqb (home q (of.last x)) i) kind.value (records ws)
      ∙ tally-cong (λ r. eqb (home q (of.last (kind.value r))) i) (λ r. eqb (home q (last_of w r)) i) (records ws)
      (λ r. ap (λ (m : ℕ). eqb (home q m) i) (of.last-is r))

  pub overfull-is : (ws : List ℕ)
      → any (λ i. ltb capacity (length (keep (λ x. eqb (home q (of.last x)) i) (values ws)))) (below q.count)
      ≡ overfull w room q capacity ws
  unfolding overfull
  overfull-is ws =
      any-cong _ (λ i. ltb capacity (held_at w (cuts_of q) (records ws) i)) (below q.count)
      (λ i. ap (ltb capacity) (held-at ws i))

  -- its records lie within its partitions, are legal and have a home each; where they fit, it can be moved
  module _ (ws : List ℕ) (stands : Standing kind of capacity q.count ws) where
    pub counts : Counts w room q.count ws
    counts = record {
      long = stands.long;
      within = λ i l. room-le w _ capacity (sound-count w capacity (stands.ok i) _ (stands.sound i l));
    }

    all-legal : all (λ r. of.legal (kind.value r)) (records ws) ≡ true
    unfolding stored_records
    all-legal =
        all-gather _ (λ i. records_in w (partition_at room ws i)) (below q.count)
        ∙ below_all _ q.count
        (λ i l. all-imply (stands.ok i) _ (records_in w (partition_at room ws i)) (stands.ok-legal i)
        (sound-records w capacity (stands.ok i) (partition_at room ws i) (stands.sound i l)))

    pub homed : Homed w (cuts_of q) (records ws)
    homed =
        all-imply (λ r. of.legal (kind.value r)) _ (records ws)
        (λ r e. lt-ltb (home_of (cuts_of q) (last_of w r)) (length (cuts_of q))
        (home-within (cuts_of q) (legal-plan q legal-plan-q).covered (last_of w r)
        (rw (of.last-is r) at (of.in-calendar (kind.value r) e))))
        all-legal

    fit : overfull w room q capacity ws ≡ false → (i : ℕ) → i < q.count
        → room_of w (tally (λ r. eqb (home_of_record q w r) i) (records ws)) ≤ room
    unfolding overfull held_at home
    fit e i l =
        room-le w _ capacity
        (ltb-false capacity _ (none_below (λ j. ltb capacity (held_at w (cuts_of q) (records ws) j)) q.count e i l))

    pub movable : overfull w room q capacity ws ≡ false → Movable w room q ws
    unfolding home
    movable e = record {
      wide = of.wide;
      legal = legal-plan-q;
      counts = counts;
      homes =
          all-imply (λ r. ltb (home_of (cuts_of q) (last_of w r)) (length (cuts_of q))) _ (records ws)
          (λ r t. lt-ltb (home_of (cuts_of q) (last_of w r)) q.count
          (omega (arith, ltb-true (home_of (cuts_of q) (last_of w r)) (length (cuts_of q)) t, cuts-most q)))
          homed;
      fit = fit e;
    }

    -- after the move
    module _ (ws' : List ℕ) (r : Rehomed w room q ws ws') where
      still-legal : all (λ r. of.legal (kind.value r)) (records ws') ≡ true
      still-legal = all_same same_words same-words-is _ (records ws') (records ws) r.same ∙ all-legal

      legal-in : (i : ℕ) → i < q.count
          → all (λ r. of.legal (kind.value r)) (records_in w (partition_at room ws' i)) ≡ true
      unfolding stored_records
      legal-in i l =
          all-below (λ i. all (λ r. of.legal (kind.value r)) (records_in w (partition_at room ws' i))) q.count
          (sym (all-gather _ (λ i. records_in w (partition_at room ws' i)) (below q.count)) ∙ still-legal) i l

      part-long : (i : ℕ) → i < q.count → length (partition_at room ws' i) ≡ room
      part-long i l = partition-length room q.count i ws' (r.long ∙ stands.long) l

      settled-sound : (i : ℕ) → i < q.count
          → sound_part w capacity (λ r. of.legal (kind.value r) && eqb (home q (of.last (kind.value r))) i)
          (partition_at room ws' i) ≡ true
      settled-sound i l =
          let part = partition_at room ws' i in
          let s = r.settled i l in
          part_sound w capacity _ part
          (room_back w (counted part) capacity of.wide (rw (part-long i l) at s.within))
          (all_both (λ r. of.legal (kind.value r)) _ (records_in w part) (legal-in i l)
          (all-imply (λ r. eqb (home_of_record q w r) i) _ (records_in w part)
          (λ r e. rw (of.last-is r) e) s.homes))
          s.tail

      held_same : Same of.same (values ws') (values ws)
      held_same =
          rw (values-are ws', values-are ws)
          (same_map same_words same-words-is of.same kind.value (records ws') (records ws) r.same)

      pub after-move : ((i : ℕ) → i < q.count
          → sound_part w capacity (λ r. of.legal (kind.value r) && eqb (home q (of.last (kind.value r))) i)
          (partition_at room ws' i) ≡ true)
          × Same of.same (values ws') (values ws)
      after-move = (settled-sound, held_same)
