-- `move_count::overfull` meets its contract: the first places of the two arrays are lent, as many as the plan has
-- partitions. Assumes nothing.
use mathlib.Core.Path.{refl, sym, ◌∙◌}
use Rattle.plan.proofs.Homes.{legal-plan}
use Rattle.move_count.proofs.Verdict.{lent-counts, lent-cuts, lent-within, lent-countable}
use Rattle.move_count.proofs.Verdict.{told-long, told-within, told-overfull}
use Rattle.move_count.proofs.overfull.Goals as goal

pub slice_bounds-cuts-end : goal.slice_bounds-cuts-end
slice_bounds-cuts-end c =
    lent-within c.args.q _ c.requires.q_value c.well_formed.1.1.1.0.1.1.1.0.1.0.1 c.cuts_of-cuts.ensures

pub slice_bounds-count_store-end : goal.slice_bounds-count_store-end
slice_bounds-count_store-end c =
    sym (lent-cuts c.args.q _ c.requires.q_value c.well_formed.1.1.1.0.1.1.1.0.1.0.1 c.cuts_of-cuts.ensures)

pub slice_bounds-counts-end : goal.slice_bounds-counts-end
slice_bounds-counts-end c = (legal-plan c.args.q c.requires.q_value).most

pub slice_bounds-count_store-end-2 : goal.slice_bounds-count_store-end-2
slice_bounds-count_store-end-2 c = sym (lent-counts c.args.q _ c.requires.q_value refl)

pub count_store-requires : goal.count_store-requires
count_store-requires c =
    lent-countable c.args.q _ c.requires.q_value c.well_formed.1.1.1.0.1.1.1.0.1.0.1 c.cuts_of-cuts.ensures _ _ _ _ refl
    refl c.requires.le_width c.requires.counts c.requires.homed

pub slice_bounds-counts-end-2 : goal.slice_bounds-counts-end-2
slice_bounds-counts-end-2 c =
    told-within c.args.q _ c.requires.q_value c.well_formed.1.1.1.0.1.1.1.0.1.0.1 c.cuts_of-cuts.ensures _ _ _ _ _
    c.count_store.ensures

pub slice_bounds-some_above-end : goal.slice_bounds-some_above-end
slice_bounds-some_above-end c =
    sym
    (told-long c.args.q _ c.requires.q_value c.well_formed.1.1.1.0.1.1.1.0.1.0.1 c.cuts_of-cuts.ensures _ _ _ _ _
    c.count_store.ensures)

pub returns : goal.returns
returns c =
    let listed = c.cuts_of-cuts.ensures in
    let told = c.count_store.ensures in
    c.some_above.ensures
    ∙ told-overfull c.args.q _ c.requires.q_value c.well_formed.1.1.1.0.1.1.1.0.1.0.1 listed _ _ _ _ _ told _
