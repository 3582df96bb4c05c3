-- `gaps::list_partition` meets its contract. The loop's invariant is `Listing`: what is left are the records of the
-- drawings from i on. Assumes nothing.
use mathlib.Core.Path.{◌≡◌, sym, ◌∙◌}
use Prim.Native.Nat.{◌<◌}
use native.Mathlib.Omega.{arith}
use lib.ListN.{length, get_or}
use Rattle.lists.specs.Members.{gather}
use Rattle.lists.proofs.Members.{all-get_or}
use Rattle.lists.proofs.Gather.{gather-next, gather-end}
use Rattle.interval.specs.Tuple.{legal_tuple}
use Rattle.part.specs.Part.{tuples_in}
use Rattle.part.proofs.Parts.{length-tuples, tuple-in}
use Rattle.gaps.specs.Listed.{gaps_by}
use Rattle.gaps.proofs.Placing.{listing_start, listing-more, listing-all, listing-fits}
use Rattle.gaps.proofs.list_partition.Goals as goal

pub loop-i-init : goal.loop-i-init
loop-i-init c = listing_start _ _ _

pub list_tuple-records-requires : goal.list_tuple-records-requires
list_tuple-records-requires c =
    let a = c.args in
    let at = c.loop-i in
    let ts = tuples_in a.part.now in
    let d = c.record_at-d.result in
    let inside : at.i < length ts = omega (arith, length-tuples a.part.now, c.count-n.ensures) in
    let member : get_or ts at.i d ≡ d =
    tuple-in at.i a.part.now d (omega (arith, c.count-n.ensures)) ∙ sym c.record_at-d.ensures in
    let next = gather-next (gaps_by a.p a.inner.now) ts at.i d inside member in
    let legal = rw member at (all-get_or legal_tuple ts d c.requires.part_value at.i inside) in
    let fits =
    listing-fits a.out.now a.k (gather (gaps_by a.p a.inner.now) ts) _ (gaps_by a.p a.inner.now d) _ at.out
    at.records next at.invariant c.requires.fits in
    record {
      p_value = c.requires.p_value;
      inner_len = c.requires.inner_len;
      inner_value = c.requires.inner_value;
      d_value = legal;
      fits = fits;
    }

pub loop-i-preserved : goal.loop-i-preserved
loop-i-preserved c =
    let a = c.args in
    let at = c.loop-i in
    let ts = tuples_in a.part.now in
    let d = c.record_at-d.result in
    let inside : at.i < length ts = omega (arith, length-tuples a.part.now, c.count-n.ensures) in
    let member : get_or ts at.i d ≡ d =
    tuple-in at.i a.part.now d (omega (arith, c.count-n.ensures)) ∙ sym c.record_at-d.ensures in
    let next = gather-next (gaps_by a.p a.inner.now) ts at.i d inside member in
    listing-more a.out.now a.k (gather (gaps_by a.p a.inner.now) ts) _ (gaps_by a.p a.inner.now d) _ at.out at.records
    _ _ next c.list_tuple-records.ensures at.invariant

pub returns : goal.returns
returns c =
    let at = c.loop-i in
    let a = c.args in
    let part = a.part.now in
    listing-all a.out.now a.k (gather (gaps_by a.p a.inner.now) (tuples_in part)) _ at.out at.records
    (gather-end (gaps_by a.p a.inner.now) (tuples_in part) at.i (omega (arith, length-tuples part))) at.invariant

pub shape_of-out : goal.shape_of-out
shape_of-out c = (returns c).long
