-- `label::label_number` meets its contract. The loop's invariant is `Read`: so many letters at the end are read, and
-- their sum by the table is n. Assumes nothing.
use mathlib.Core.Path.{◌≡◌, sym, ◌∙◌, ap}
use Prim.Native.Nat.{◌≤◌}
use native.Mathlib.Omega.{arith}
use mir.Facts.{Fits-le, Fits-lit}
use borrow.Author.Rules.{rules}
use lib.ListN.{get_or}
use Rattle.label.specs.Label.{rank, capital}
use Rattle.label.proofs.Labels.{rank_most}
use Rattle.label.proofs.Loops.{place, none-short, none-long, read_none, read_more, product-fits, sum_fits}
use Rattle.label.proofs.Loops.{read-stop, read_all}
use Rattle.label.proofs.label_number.Goals as goal

pub returns-then-len-lt1 : goal.returns-then-len-lt1
returns-then-len-lt1 c = none-short c.args.letters.now (omega (arith, c.if-len-lt1.true))

pub returns-then-len-gt8 : goal.returns-then-len-gt8
returns-then-len-gt8 c = none-long c.args.letters.now (omega (arith, c.if-len-gt8.true))

pub loop-after-init : goal.loop-after-init
loop-after-init c = read_none c.weight_table-weights.result c.args.letters.now

pub returns-then-letter-eq0 : goal.returns-then-letter-eq0
returns-then-letter-eq0 c =
    let bs = c.args.letters.now in
    let none : c.rank_of-letter.result ≡ 0 =
    omega (arith, c.if-letter-eq0.true, c.rank_of-letter.ensures, rank_most c.capital_of.result) in
    read-stop bs _ (sym (c.rank_of-letter.ensures ∙ ap rank c.capital_of.ensures) ∙ none)
    (search rules)

pub overflow_mul-n : goal.overflow_mul-n
overflow_mul-n c =
    let table = c.weight_table-weights in
    let small : c.rank_of-letter.result ≤ 26 =
    omega (arith, c.rank_of-letter.ensures, rank_most c.capital_of.result) in
    Fits-le (product-fits table.result c.rank_of-letter.result _ table.ensures small (search rules))
    (Fits-lit tt)

pub overflow_add-n : goal.overflow_add-n
overflow_add-n c =
    let at = c.loop-after in
    let table = c.weight_table-weights in
    let bs = c.args.letters.now in
    let small : c.rank_of-letter.result ≤ 26 =
    omega (arith, c.rank_of-letter.ensures, rank_most c.capital_of.result) in
    Fits-le
    (sum_fits table.result bs at.after at.n c.rank_of-letter.result _ table.ensures
    c.if-len-gt8.false at.invariant small (search rules))
    (Fits-lit tt)

pub loop-after-preserved : goal.loop-after-preserved
loop-after-preserved c =
    let at = c.loop-after in
    let table = c.weight_table-weights in
    let bs = c.args.letters.now in
    let is : c.rank_of-letter.result ≡ rank (capital (get_or bs (place bs at.after) 0)) =
    c.rank_of-letter.ensures ∙ ap rank c.capital_of.ensures in
    rw is
    (read_more table.result bs at.after at.n c.loop-after-test.true
    (omega arith) at.invariant)

pub returns : goal.returns
returns c =
    let table = c.weight_table-weights in
    read_all table.result c.args.letters.now
    c.loop-after.after c.loop-after.n table.ensures c.if-len-lt1.false
    c.if-len-gt8.false c.loop-after-test.false c.loop-after.invariant
