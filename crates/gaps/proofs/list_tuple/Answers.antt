-- `gaps::list_tuple` meets its contract. The loop's invariant is `Listing`: what is left are the records from minute m
-- on. The measure is how many minutes are left. Assumes nothing.
use mathlib.Core.List.{[], ◌∷◌}
use mathlib.Core.Path.{refl, sym}
use Prim.Native.Nat.{◌-◌}
use native.Mathlib.Omega.{arith}
use Rattle.interval.specs.Time.{span}
use Rattle.interval.specs.Tuple.{during}
use Rattle.interval.proofs.Tuples.{legal-tuple, valid-ok}
use Rattle.coverage.proofs.Nearest.{next-is}
use Rattle.gaps.specs.Listed.{gaps_by}
use Rattle.gaps.proofs.Placing.{listing_start, listing-more, listing-all, listing-fits}
use Rattle.gaps.proofs.Records.{records-whole, records-end, records-none, records-one}
use Rattle.gaps.proofs.list_tuple.Goals.{then-m-next, else-m-next}
use Rattle.gaps.proofs.list_tuple.Goals as goal

pub loop-m-init : goal.loop-m-init
loop-m-init c =
    let a = c.args in
    rw (sym (records-whole a.p a.inner.now a.d)) (listing_start a.out.now a.k _)

pub next_covered-next-requires : goal.next_covered-next-requires
next_covered-next-requires c =
    let ends = (valid-ok c.args.d.valid (legal-tuple c.args.d c.requires.d_value).valid).1 in
    record {
      p_value = c.requires.p_value;
      inner_len = c.requires.inner_len;
      inner_value = c.requires.inner_value;
      d_bound = ends;
    }

pub put-records-requires : goal.put-records-requires
put-records-requires c =
    let a = c.args in
    let v = c.next_covered-next.result in
    let t = during a.d (span c.loop-m.m (v.first.0 - 1)) in
    listing-fits a.out.now a.k (gaps_by a.p a.inner.now a.d) _ (t ∷ []) _ c.loop-m.out
    c.loop-m.records
    (records-one a.p a.inner.now a.d c.loop-m.m v c.next_covered-next.ensures
    c.loop-m-test.true c.if-m-next.true t refl)
    c.loop-m.invariant c.requires.fits

pub overflow_add-m : goal.overflow_add-m
overflow_add-m c =
    let ends = (valid-ok c.args.d.valid (legal-tuple c.args.d c.requires.d_value).valid).1 in
    let a = c.args in
    let near =
    next-is a.p a.inner.now a.d c.loop-m.m c.next_covered-next.result c.next_covered-next.ensures
    c.loop-m-test.true in
    record { fits = omega (arith, near.most, ends) }

pub loop-m-smaller : goal.loop-m-smaller
loop-m-smaller c =
    let a = c.args in
    let near =
    next-is a.p a.inner.now a.d c.loop-m.m c.next_covered-next.result c.next_covered-next.ensures
    c.loop-m-test.true in
    omega (arith, near.after, near.forward, c.loop-m-test.true)

pub loop-m-preserved : goal.loop-m-preserved
loop-m-preserved c =
    let a = c.args in
    let l = c.loop-m-test.true in
    let v = c.next_covered-next.result in
    elim c.if-m-next.branch [
      | then-m-next w ↦
          rw (w.out-is, w.records-is)
          (listing-more a.out.now a.k (gaps_by a.p a.inner.now a.d) _ (w.during.result ∷ []) _ c.loop-m.out
          c.loop-m.records _ _
          (records-one a.p a.inner.now a.d c.loop-m.m v c.next_covered-next.ensures l w.if-m-next.true
          w.during.result w.during.ensures)
          w.put-records.ensures c.loop-m.invariant)
      | else-m-next w ↦
          rw (
            w.out-is,
            w.records-is,
            sym (records-none a.p a.inner.now a.d c.loop-m.m v c.next_covered-next.ensures l w.if-m-next.false),
          )
          c.loop-m.invariant
    ]

pub returns : goal.returns
returns c =
    let at = c.loop-m in
    let a = c.args in
    listing-all a.out.now a.k (gaps_by a.p a.inner.now a.d) _ at.out at.records
    (records-end a.p a.inner.now a.d at.m c.loop-m-test.false) at.invariant

pub shape_of-out : goal.shape_of-out
shape_of-out c = (returns c).long
