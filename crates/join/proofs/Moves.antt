-- What follows from a repartition's record: 13 is never given (`never-thirteen`), what each partition holds after it
-- (`lanes-after`), that a wall which holds nothing is left as it is (`empty-kept`), and that the plan keeps its minimum
-- (`minimum-kept`).
-- Assumes nothing.
use mathlib.Core.Bool.{Bool, true, false, not, ◌||◌, false≢true}
use mathlib.Core.List.{List, [], ◌∷◌}
use mathlib.Core.Path.{◌≡◌, refl, sym, ap, ◌∙◌}
use Prim.Native.Nat.{ℕ, zero, suc, ◌*◌, ◌<◌}
use native.Mathlib.Omega.{arith}
use lib.ListN.{length, take, replicate, length-replicate}
use Rattle.refusal.specs.Refusal.{answer_number}
use Rattle.lists.specs.Choice.{refuse_if, first_of}
use Rattle.lists.specs.Members.{all, gather, below}
use Rattle.lists.specs.Same.{IsEquality, Same}
use Rattle.lists.proofs.Below.{all-below}
use Rattle.lists.proofs.Gather.{all-gather}
use Rattle.lists.proofs.Parts.{parts-equal}
use Rattle.lists.proofs.Same.{same-keep, length-same}
use Rattle.interval.specs.Tuple.{same_tuple, same_row}
use Rattle.interval.specs.declared.time.Chronon.{Chronon}
use Rattle.interval.proofs.Tuples.{same-tuple-is, same-row-is}
use Rattle.plan.specs.Plan.{most_partitions, most_tuples, most_rows, most_minimum, outside, cover, cuts_of, numbers}
use Rattle.plan.specs.Plan.{minimum_check, plan_number, with_cuts}
use Rattle.plan.specs.declared.Partitioning.{Partitioning}
use Rattle.part.specs.Part.{room_of, sound_part}
use Rattle.part.proofs.Parts.{Kind, tuples, rows, length-values, sound_none}
use Rattle.store.specs.Store.{tuple_room, row_room, partition_at, sound_tuples, sound_rows, sound_tuple_part, sound_row_part}
use Rattle.store.specs.Store.{fits_tuples, fits_rows, stored_tuples, stored_rows, tuples_at, rows_at}
use Rattle.store.proofs.StoreLoops.{tuples-given, rows-given}
use Rattle.store.proofs.Stores.{partition-length, empty-part, sound-tuples-at, sound-rows-at, tuples-stored-at}
use Rattle.store.proofs.Stores.{rows-stored-at}
use Rattle.checks.specs.Stores.{Stores, tuples_length, rows_length, tuples_unsound, rows_unsound, open_number}
use Rattle.checks.specs.Stores.{lengths_number, store_number}
use Rattle.checks.proofs.Checks.{ready}
use Rattle.repartitioning.specs.Moving.{tuples_overfull, rows_overfull, move_number, TuplesMoved, RowsMoved}
use Rattle.join.specs.Repartitioning.{repartition_number, NeverThirteen, LanesAfter, EmptyKept, MinimumKept}

-- ---- 13 is never given: the numbers of its checks are 1 to 5, 18, 2, 9 and 10

abbrev Other : ℕ → Type 0
Other n = n ≡ 13 → ⊥

first-other : (n : ℕ) (ns : List ℕ) → Other n → Other (first_of ns) → Other (first_of (n ∷ ns))
unfolding first_of
first-other zero ns h g = g
first-other (suc n) ns h g = h

none_other : Other (first_of [])
unfolding first_of
none_other e = omega (arith, e)

check-other : (b : Bool) (n : ℕ) → Other n → Other (refuse_if b n)
check-other true n h = h
check-other false n h = λ e. omega (arith, e)

-- three checks before others, whatever their tests
three-other : (a b c : Bool) (l m n : ℕ) (ns : List ℕ) → Other l → Other m → Other n → Other (first_of ns)
    → Other (first_of (refuse_if a l ∷ (refuse_if b m ∷ (refuse_if c n ∷ ns))))
three-other a b c l m n ns e f g h =
    first-other (refuse_if a l) _ (check-other a l e)
    (first-other (refuse_if b m) _ (check-other b m f) (first-other (refuse_if c n) ns (check-other c n g) h))

plan-other : (p : Partitioning) → Other (plan_number p)
unfolding plan_number minimum_check
plan-other p =
    three-other (outside 1 most_partitions p.count) (not (cover (cuts_of p)))
    (outside 1 most_tuples p.tuples || outside 1 most_rows p.rows) 1 2 3 _
    (λ e. omega (arith, e)) (λ e. omega (arith, e)) (λ e. omega (arith, e))
    (first-other (minimum_check p.minimum) []
    (check-other (outside 1 most_minimum p.minimum) 18 (λ e. omega (arith, e))) none_other)

lengths-other : (p : Partitioning) (outer inner rows : ℕ) → Other (lengths_number p outer inner rows)
unfolding lengths_number tuples_length rows_length
lengths-other p outer inner rows =
    first-other (plan_number p) _ (plan-other p)
    (three-other (not (fits_tuples p outer)) (not (fits_tuples p inner)) (not (fits_rows p rows)) 4 4 4 []
    (λ e. omega (arith, e)) (λ e. omega (arith, e)) (λ e. omega (arith, e)) none_other)

stores-other : (p : Partitioning) (s : Stores) → Other (store_number p s)
unfolding store_number tuples_unsound rows_unsound
stores-other p s =
    first-other (open_number p s) _ (lengths-other p (length s.outer) (length s.inner) (length s.rows))
    (three-other (not (sound_tuples p s.outer)) (not (sound_tuples p s.inner)) (not (sound_rows p s.rows))
    5 5 5 [] (λ e. omega (arith, e)) (λ e. omega (arith, e)) (λ e. omega (arith, e)) none_other)

pub never-thirteen : NeverThirteen
unfolding repartition_number move_number
never-thirteen p new s =
    let q = with_cuts p new in
    let nine = tuples_overfull p q s.outer || tuples_overfull p q s.inner in
    let ten = rows_overfull p q s.rows in
    let two = not (cover (take p.count (numbers new))) in
    first-other (store_number p s) _ (stores-other p s)
    (first-other (refuse_if two 2) _ (check-other two 2 (λ e. omega (arith, e)))
    (first-other (move_number p q s) []
    (first-other (refuse_if nine 9) _ (check-other nine 9 (λ e. omega (arith, e)))
    (first-other (refuse_if ten 10) [] (check-other ten 10 (λ e. omega (arith, e))) none_other))
    none_other))

-- ---- what each partition holds after it

tuples-after : (p q : Partitioning) (ws ws' : List ℕ) → TuplesMoved p q ws ws' → (i : ℕ) → i < q.count
    → Same same_tuple (tuples_at q i (stored_tuples q ws')) (tuples_at q i (stored_tuples p ws))
unfolding tuples_at
tuples-after p q ws ws' m i l =
    same-keep same_tuple same-tuple-is _ (stored_tuples q ws') (stored_tuples p ws) m.held

rows_after : (p q : Partitioning) (ws ws' : List ℕ) → RowsMoved p q ws ws' → (i : ℕ) → i < q.count
    → Same same_row (rows_at q i (stored_rows q ws')) (rows_at q i (stored_rows p ws))
unfolding rows_at
rows_after p q ws ws' m i l =
    same-keep same_row same-row-is _ (stored_rows q ws') (stored_rows p ws) m.held

pub lanes-after : LanesAfter
lanes-after p q s s' m i l = record {
  outer =
      rw (tuples-stored-at q s'.outer m.outer.sound i l) at
      (tuples-after p q s.outer s'.outer m.outer i l);
  inner =
      rw (tuples-stored-at q s'.inner m.inner.sound i l) at
      (tuples-after p q s.inner s'.inner m.inner i l);
  rows =
      rw (rows-stored-at q s'.rows m.rows.sound i l) at
      (rows_after p q s.rows s'.rows m.rows i l);
}

-- ---- a wall that holds nothing

none_in : {A : Type 0} (xs : List A) → all (λ x. false) xs ≡ true → xs ≡ []
none_in [] e = refl
none_in (x ∷ xs) e = absurd (false≢true e)

-- a list with the members of an empty one is empty
nothing : {A : Type 0} (same : A → A → Bool) → IsEquality same → (xs : List A) → Same same xs [] → xs ≡ []
nothing same law [] h = refl
nothing same law (x ∷ xs) h = absurd (omega (arith, length-same same law (x ∷ xs) [] h))

-- a sound store that holds nothing is all zeros
nothing-held : {A : Type 0} (kind : Kind A) (capacity n : ℕ) (ok : ℕ → List ℕ → Bool) (ws : List ℕ)
    → (let room = room_of kind.width capacity in
    length ws ≡ n * room
    → ((i : ℕ) → i < n → sound_part kind.width capacity (ok i) (partition_at room ws i) ≡ true)
    → gather (λ i. kind.held (partition_at room ws i)) (below n) ≡ [] → ws ≡ replicate (n * room) 0)
nothing-held kind capacity n ok ws long sound e =
    parts-equal n room ws (replicate (n * room) 0) long (length-replicate (n * room) 0)
    (λ i l.
    sound_none kind.width capacity (ok i) (part i) (sound i l)
    (sym (length-values kind (part i)) ∙ ap length (none_in (kind.held (part i)) (empty i l)))
    (partition-length room n i ws long l)
    ∙ sym (empty-part room n i l))
  where
    room : ℕ
    room = room_of kind.width capacity

    part : ℕ → List ℕ
    part i = partition_at room ws i

    empty : (i : ℕ) → i < n → all (λ x. false) (kind.held (part i)) ≡ true
    empty =
        all-below (λ i. all (λ x. false) (kind.held (part i))) n
        (sym (all-gather (λ x. false) (λ i. kind.held (part i)) (below n)) ∙ ap (all (λ x. false)) e)

tuples-nothing : (p : Partitioning) (ws : List ℕ) → length ws ≡ p.count * tuple_room p → sound_tuples p ws ≡ true
    → stored_tuples p ws ≡ [] → ws ≡ replicate (p.count * tuple_room p) 0
unfolding stored_tuples sound_tuple_part
tuples-nothing p ws long sound e = nothing-held tuples p.tuples p.count _ ws long (sound-tuples-at p ws sound) e

rows-nothing : (p : Partitioning) (ws : List ℕ) → length ws ≡ p.count * row_room p → sound_rows p ws ≡ true
    → stored_rows p ws ≡ [] → ws ≡ replicate (p.count * row_room p) 0
unfolding stored_rows sound_row_part
rows-nothing p ws long sound e = nothing-held rows p.rows p.count _ ws long (sound-rows-at p ws sound) e

-- an empty store after the move is as it was: both are all zeros
tuples-kept : (p : Partitioning) (new : List Chronon) (ws ws' : List ℕ) → TuplesMoved p (with_cuts p new) ws ws'
    → length ws ≡ p.count * tuple_room p → sound_tuples p ws ≡ true → stored_tuples p ws ≡ [] → ws' ≡ ws
unfolding with_cuts
tuples-kept p new ws ws' m long sound e =
    let none : stored_tuples (with_cuts p new) ws' ≡ [] = nothing same_tuple same-tuple-is _ (rw e at m.held) in
    tuples-nothing (with_cuts p new) ws' (m.long ∙ long) m.sound none ∙ sym (tuples-nothing p ws long sound e)

rows-kept : (p : Partitioning) (new : List Chronon) (ws ws' : List ℕ) → RowsMoved p (with_cuts p new) ws ws'
    → length ws ≡ p.count * row_room p → sound_rows p ws ≡ true → stored_rows p ws ≡ [] → ws' ≡ ws
unfolding with_cuts
rows-kept p new ws ws' m long sound e =
    let none : stored_rows (with_cuts p new) ws' ≡ [] = nothing same_row same-row-is _ (rw e at m.held) in
    rows-nothing (with_cuts p new) ws' (m.long ∙ long) m.sound none ∙ sym (rows-nothing p ws long sound e)

pub empty-kept : EmptyKept
empty-kept p p' new s s' a called passed outer inner rows = decide (answer_number a) refl
  where
    decide : (n : ℕ) → answer_number a ≡ n → s' ≡ s
    decide zero z =
        let r = ready p s passed in
        let m = (called.accepted z).1 in
        let o = (tuples-given p (length s.outer) r.fits.outer).1 in
        let i = (tuples-given p (length s.inner) r.fits.inner).1 in
        let t = (rows-given p (length s.rows) r.fits.rows).1 in
        let first = tuples-kept p new s.outer s'.outer m.outer o r.outer outer in
        let second = tuples-kept p new s.inner s'.inner m.inner i r.inner inner in
        let third = rows-kept p new s.rows s'.rows m.rows t r.rows rows in
        λ k. record { outer = first k; inner = second k; rows = third k }
    decide (suc n) z = (called.refused (λ e. absurd (omega arith))).0

-- ---- the plan that it returns has the minimum that the plan had

pub minimum-kept : MinimumKept
unfolding with_cuts
minimum-kept p p' new s s' a r = by_number (answer_number a) refl
  where
    by_number : (n : ℕ) → answer_number a ≡ n → p'.minimum ≡ p.minimum
    by_number zero e = ap (λ (q : Partitioning). q.minimum) (r.accepted e).0
    by_number (suc n) e =
        ap (λ (q : Partitioning). q.minimum) (r.refused (λ z. omega (arith, z, e))).1
