-- `layout::lasts_in` meets its contract. The loop's invariant is `Copied`: the first i places hold the last
-- minutes of the words from the given place on.
-- Assumes nothing.
use mathlib.Core.List.{List}
use mathlib.Core.Path.{◌≡◌, ◌∙◌}
use native.Mathlib.Nat.{zero-add}
use native.Mathlib.Omega.{arith}
use lib.ListN.{length, take, drop, replicate}
use Rattle.lists.proofs.Copies.{copied_none, copied_more, copied_all}
use Rattle.interval.specs.declared.time.Chronon.{Chronon}
use Rattle.plan.specs.Plan.{most_partitions}
use Rattle.layout.specs.Layout.{minutes}
use Rattle.layout.proofs.Words.{length-minutes-at, minute-at}
use Rattle.layout.proofs.lasts_in.Goals as goal

pub loop-i-init : goal.loop-i-init
loop-i-init c =
    let said : List Chronon =
    minutes (take most_partitions (drop c.args.from c.args.words.now)) in
    let many : length said ≡ most_partitions =
    length-minutes-at c.args.from c.args.words.now c.requires in
    copied_none _ 0 said (omega (arith, many))

pub loop-i-preserved : goal.loop-i-preserved
loop-i-preserved c =
    let said : List Chronon =
    minutes (take most_partitions (drop c.args.from c.args.words.now)) in
    let many : length said ≡ most_partitions =
    length-minutes-at c.args.from c.args.words.now c.requires in
    let a = c.args in
    copied_more _ 0 said c.loop-i.i c.loop-i.i c.loop-i.lasts _ (record { 0 = 0 })
    (omega (arith, many)) (omega arith)
    (minute-at a.from c.loop-i.i a.words.now c.loop-i-test.true)
    c.loop-i.invariant

pub returns : goal.returns
returns c =
    let said : List Chronon =
    minutes (take most_partitions (drop c.args.from c.args.words.now)) in
    let many : length said ≡ most_partitions =
    length-minutes-at c.args.from c.args.words.now c.requires in
    copied_all (replicate most_partitions (record { 0 = 0 })) 0 said c.loop-i.i c.loop-i.lasts
    (omega (arith, many)) (zero-add (length said) ∙ many) c.loop-i.invariant
