-- `gaps::list_store` meets its contract. The loop's invariant is `Listing`: what is left are the records of the
-- partitions from i on. Assumes nothing.
use mathlib.Core.Bool.{true}
use mathlib.Core.List.{◌++◌}
use mathlib.Core.Path.{◌≡◌, sym, ap, ◌∙◌}
use Prim.Native.Nat.{ℕ, ◌+◌}
use Rattle.lists.specs.Members.{all, gather}
use Rattle.interval.specs.Tuple.{tuple_width, legal_tuple}
use Rattle.part.specs.Part.{tuples_in}
use Rattle.store.specs.Store.{tuple_room, partition_at, tuple_part}
use Rattle.rows.proofs.Counting.{roomy-inside, roomy-fits}
use Rattle.rows.proofs.JoinsStored.{roomy-tuples}
use Rattle.gaps.specs.Listed.{gaps_by, gaps}
use Rattle.gaps.proofs.Placing.{listing_start, listing-more, listing-all, listing-fits}
use Rattle.gaps.proofs.Stored.{records_left, left-all, left-next, left_end, legal-at, all_fit}
use Rattle.gaps.proofs.list_store.Goals as goal

pub loop-i-init : goal.loop-i-init
loop-i-init c =
    let a = c.args in
    rw (sym (left-all a.p a.outer.now a.inner.now)) (listing_start a.out.now 0 _)

pub partition-part-requires : goal.partition-part-requires
partition-part-requires c =
    let a = c.args in
    let roomy = roomy-tuples a.p a.outer.now c.requires.outer_long c.requires.outer_sound in
    rw c.tuple_room-room.ensures
    (roomy-inside tuple_width (tuple_room a.p) a.p.count a.outer.now roomy c.loop-i.i c.loop-i-test.true)

pub list_partition-records-requires : goal.list_partition-records-requires
list_partition-records-requires c =
    let a = c.args in
    let roomy = roomy-tuples a.p a.outer.now c.requires.outer_long c.requires.outer_sound in
    let at = c.loop-i in
    let part = c.partition-part.result.now in
    let here : part ≡ tuple_part a.p a.outer.now at.i =
    c.partition-part.ensures
    ∙ ap (λ (room : ℕ). partition_at room a.outer.now at.i) c.tuple_room-room.ensures in
    let next : records_left a.p a.outer.now a.inner.now at.i
    ≡ gather (gaps_by a.p a.inner.now) (tuples_in part) ++ records_left a.p a.outer.now a.inner.now (at.i + 1) =
    rw here (left-next a.p a.outer.now a.inner.now at.i c.loop-i-test.true) in
    let room =
    roomy-fits tuple_width (tuple_room a.p) a.p.count a.outer.now roomy at.i c.loop-i-test.true part here in
    let legal : all legal_tuple (tuples_in part) ≡ true =
    rw here (legal-at a.p a.outer.now a.inner.now c.requires at.i c.loop-i-test.true) in
    let fits =
    listing-fits a.out.now 0 (gaps a.p a.outer.now a.inner.now) _
    (gather (gaps_by a.p a.inner.now) (tuples_in part)) _ at.out at.records next at.invariant
    (all_fit a.p a.outer.now a.inner.now c.requires) in
    record {
      p_value = c.requires.legal;
      inner_len = c.requires.inner_long;
      inner_value = c.requires.inner_sound;
      part_in_bounds = room;
      part_value = legal;
      fits = fits;
    }

pub loop-i-preserved : goal.loop-i-preserved
loop-i-preserved c =
    let a = c.args in
    let at = c.loop-i in
    let part = c.partition-part.result.now in
    let here : part ≡ tuple_part a.p a.outer.now at.i =
    c.partition-part.ensures
    ∙ ap (λ (room : ℕ). partition_at room a.outer.now at.i) c.tuple_room-room.ensures in
    let next : records_left a.p a.outer.now a.inner.now at.i
    ≡ gather (gaps_by a.p a.inner.now) (tuples_in part) ++ records_left a.p a.outer.now a.inner.now (at.i + 1) =
    rw here (left-next a.p a.outer.now a.inner.now at.i c.loop-i-test.true) in
    listing-more a.out.now 0 (gaps a.p a.outer.now a.inner.now) _
    (gather (gaps_by a.p a.inner.now) (tuples_in part)) _ at.out at.records _ _ next
    c.list_partition-records.ensures at.invariant

pub returns : goal.returns
returns c =
    let at = c.loop-i in
    let a = c.args in
    listing-all a.out.now 0 (gaps a.p a.outer.now a.inner.now) _ at.out at.records
    (left_end a.p a.outer.now a.inner.now at.i c.loop-i-test.false) at.invariant

pub shape_of-out : goal.shape_of-out
shape_of-out c = (returns c).long
