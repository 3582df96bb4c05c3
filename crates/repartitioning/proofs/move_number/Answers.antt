-- `repartitioning::move_number` meets its contract: check 9 of the outer tuples, of the inner ones, then check 10.
-- Assumes nothing.
use mathlib.Core.Bool.{false, ◌||◌}
use mathlib.Core.Path.{◌≡◌, sym, ◌∙◌}
use Rattle.lists.proofs.Choice.{or_left, or_right, or-none}
use Rattle.checks.specs.Stores.{Stores, stores}
use Rattle.repartitioning.specs.Moving.{tuples_overfull}
use Rattle.repartitioning.proofs.Numbers.{outer-stands, inner-stands, rows-stand, tuples-met, rows-met, none-met}
use Rattle.repartitioning.proofs.move_number.Goals as goal

pub tuples_overfull-requires : goal.tuples_overfull-requires
tuples_overfull-requires c =
    let wall : Stores =
    stores c.args.outer.now c.args.inner.now c.args.rows.now in
    record {
      recut = c.requires.recut;
      tuples_stand = outer-stands c.args.p wall c.requires.rows_value;
    }

pub returns-then-tuples_overfull : goal.returns-then-tuples_overfull
returns-then-tuples_overfull c =
    let wall : Stores =
    stores c.args.outer.now c.args.inner.now c.args.rows.now in
    tuples-met c.args.p c.args.q wall
    (or_left _ _ (sym c.tuples_overfull.ensures ∙ c.if-tuples_overfull.true))

pub tuples_overfull-requires-2 : goal.tuples_overfull-requires-2
tuples_overfull-requires-2 c =
    let wall : Stores =
    stores c.args.outer.now c.args.inner.now c.args.rows.now in
    record {
      recut = c.requires.recut;
      tuples_stand = inner-stands c.args.p wall c.requires.rows_value;
    }

pub returns-then-tuples_overfull-2 : goal.returns-then-tuples_overfull-2
returns-then-tuples_overfull-2 c =
    let wall : Stores =
    stores c.args.outer.now c.args.inner.now c.args.rows.now in
    tuples-met c.args.p c.args.q wall
    (or_right (tuples_overfull c.args.p c.args.q c.args.outer.now) _
    (sym c.tuples_overfull-2.ensures ∙ c.if-tuples_overfull-2.true))

pub rows_overfull-requires : goal.rows_overfull-requires
rows_overfull-requires c =
    let wall : Stores =
    stores c.args.outer.now c.args.inner.now c.args.rows.now in
    record {
      recut = c.requires.recut;
      rows_stand = rows-stand c.args.p wall c.requires.rows_value;
    }

pub returns-then-rows_overfull : goal.returns-then-rows_overfull
returns-then-rows_overfull c =
    let wall : Stores =
    stores c.args.outer.now c.args.inner.now c.args.rows.now in
    let neither : ((tuples_overfull c.args.p c.args.q c.args.outer.now
    || tuples_overfull c.args.p c.args.q c.args.inner.now) ≡ false) =
    or-none _ _ (sym c.tuples_overfull.ensures ∙ c.if-tuples_overfull.false)
    (sym c.tuples_overfull-2.ensures ∙ c.if-tuples_overfull-2.false) in
    rows-met c.args.p c.args.q wall neither (sym c.rows_overfull.ensures ∙ c.if-rows_overfull.true)

pub returns : goal.returns
returns c =
    let wall : Stores =
    stores c.args.outer.now c.args.inner.now c.args.rows.now in
    let neither : ((tuples_overfull c.args.p c.args.q c.args.outer.now
    || tuples_overfull c.args.p c.args.q c.args.inner.now) ≡ false) =
    or-none _ _ (sym c.tuples_overfull.ensures ∙ c.if-tuples_overfull.false)
    (sym c.tuples_overfull-2.ensures ∙ c.if-tuples_overfull-2.false) in
    none-met c.args.p c.args.q wall neither (sym c.rows_overfull.ensures ∙ c.if-rows_overfull.false)
