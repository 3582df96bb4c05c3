-- `exports::ruthgarwy_repartition` meets its contract: lengths, then `join::repartition`; where it is accepted, the
-- last minutes that it returns go into the plan's words.
-- Assumes nothing.
use mathlib.Core.Bool.{Bool, true, ◌&&◌}
use mathlib.Core.List.{List}
use mathlib.Core.Path.{◌≡◌, refl, sym, ◌∙◌}
use Prim.Native.Nat.{ℕ}
use native.Mathlib.Omega.{arith}
use lib.Dec.{eqb}
use lib.ListN.{length, length-map}
use borrow.Author.Tests.{eqb-true}
use Rattle.lists.proofs.Choice.{and_left, and_right}
use Rattle.plan.specs.Plan.{most_partitions}
use Rattle.checks.specs.Stores.{stores}
use Rattle.layout.specs.Layout.{plan_words, minutes, answer_fits, lent_number}
use Rattle.layout.proofs.Lent.{lent-long, lent_fits}
use Rattle.layout.proofs.Words.{minutes-whole}
use Rattle.exports.specs.Exports.{CutsPut}
use Rattle.exports.proofs.Exporting.{refused-is-err, accepted-is-ok, exported-called, cuts-kept, cuts-put}
use Rattle.exports.proofs.ruthgarwy_repartition.Goals as goal

-- whether the lengths of the answer and of the new last minutes are right
abbrev right : List ℕ → List ℕ → Bool
right answer cuts = answer_fits answer && eqb (length cuts) most_partitions

-- what is known past the lengths: they are right, of plan, answer and new last minutes
module _ (plan answer cuts : List ℕ) (zero : 0 ≡ lent_number plan (right answer cuts)) where
  plan-long : length plan ≡ plan_words
  plan-long = lent-long plan (right answer cuts) (sym zero)

  both : right answer cuts ≡ true
  both = lent_fits plan (right answer cuts) (sym zero)

  answer-fits : answer_fits answer ≡ true
  answer-fits = and_left (answer_fits answer) _ both

  cuts-long : length cuts ≡ most_partitions
  cuts-long = eqb-true _ most_partitions (and_right (answer_fits answer) _ both)

pub lasts_in-requires : goal.lasts_in-requires
lasts_in-requires c =
    let a = c.args in
    omega (arith, cuts-long a.plan.now a.answer.now a.cuts.now c.in-Ok.ensures.number)

pub returns-then-is_err : goal.returns-then-is_err
returns-then-is_err c =
    let a = c.args in
    let zero = c.in-Ok.ensures.number in
    let s = stores a.outer.now a.inner.now a.rows.now in
    let s' = stores c.repartition-new.new.outer c.repartition-new.new.inner c.repartition-new.new.rows in
    let new = c.lasts_in.ensures ∙ minutes-whole a.cuts.now (cuts-long a.plan.now a.answer.now a.cuts.now zero) in
    exported-called {Kept = (a.plan.now ≡ a.plan.now) × (s' ≡ s)}
    {Done = λ r. CutsPut a.plan.now a.cuts.now a.plan.now s s' r}
    (lent_number a.plan.now (right a.answer.now a.cuts.now)) a.answer.now c.tell-then-is_err.new.answer
    c.tell-then-is_err.result c.repartition-new.result.answer zero
    (answer-fits a.plan.now a.answer.now a.cuts.now zero) c.tell-then-is_err.ensures
    (record {
      made =
          cuts-kept a.plan.now c.in-Ok.p c.repartition-new.result.plan c.lasts_in.result
          (minutes a.cuts.now) s s' c.repartition-new.result.answer c.in-Ok.ensures.plan new
          c.repartition-new.ensures (refused-is-err c.repartition-new.result.answer c.is_err.ensures.value c.if-is_err.true);
      long = plan-long a.plan.now a.answer.now a.cuts.now zero;
      kept = λ ne. refl;
    })

pub put_lasts-requires : goal.put_lasts-requires
put_lasts-requires c =
    let a = c.args in
    plan-long a.plan.now a.answer.now a.cuts.now c.in-Ok.ensures.number

pub returns : goal.returns
returns c =
    let a = c.args in
    let zero = c.in-Ok.ensures.number in
    let s = stores a.outer.now a.inner.now a.rows.now in
    let s' = stores c.repartition-new.new.outer c.repartition-new.new.inner c.repartition-new.new.rows in
    let long = plan-long a.plan.now a.answer.now a.cuts.now zero in
    let many = cuts-long a.plan.now a.answer.now a.cuts.now zero in
    let new = c.lasts_in.ensures ∙ minutes-whole a.cuts.now many in
    let accepted = accepted-is-ok c.repartition-new.result.answer c.is_err.ensures.value c.if-is_err.false in
    exported-called {Kept = (c.put_lasts.new.plan ≡ a.plan.now) × (s' ≡ s)}
    {Done = λ r. CutsPut a.plan.now a.cuts.now c.put_lasts.new.plan s s' r}
    (lent_number a.plan.now (right a.answer.now a.cuts.now)) a.answer.now c.tell-2.new.answer c.tell-2.result
    c.repartition-new.result.answer zero (answer-fits a.plan.now a.answer.now a.cuts.now zero) c.tell-2.ensures
    (record {
      made =
          cuts-put a.plan.now c.in-Ok.p c.repartition-new.result.plan c.lasts_in.result
          (minutes a.cuts.now) s s' c.repartition-new.result.answer c.in-Ok.ensures.plan new
          c.repartition-new.ensures c.put_lasts.new.plan accepted long
          (length-map a.cuts.now _ ∙ many)
          c.put_lasts.ensures;
      long = c.put_lasts.auto.plan ∙ long;
      kept = λ ne. absurd (ne accepted);
    })
