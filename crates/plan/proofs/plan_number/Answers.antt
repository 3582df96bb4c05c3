-- `plan::plan_number` meets its contract: the first check that applies answers.
-- Assumes nothing.
use mathlib.Core.Bool.{true, false}
use mathlib.Core.Path.{◌≡◌, sym, ◌∙◌}
use native.Mathlib.Omega.{arith}
use Rattle.lists.proofs.Choice.{or_left, or_right, or-none}
use Rattle.plan.specs.Plan.{outside, most_partitions, most_tuples, most_rows, cuts_of, cover, plan_number}
use Rattle.plan.proofs.Homes.{is_within, is_below, is-above}
use Rattle.plan.proofs.Homes.{count-answers, cuts-answer, sizes-answer, minimum-answers}
use Rattle.plan.proofs.plan_number.Goals as goal

pub returns-then-p-lt1 : goal.returns-then-p-lt1
returns-then-p-lt1 c =
    let p = c.args.p in
    count-answers p (is_below 1 most_partitions p.count c.if-p-lt1.true)

pub returns-then-p-gt-MOST_PARTITIONS : goal.returns-then-p-gt-MOST_PARTITIONS
returns-then-p-gt-MOST_PARTITIONS c =
    let p = c.args.p in
    count-answers p (is-above 1 most_partitions p.count (omega arith))

pub returns-then-not-covers : goal.returns-then-not-covers
unfolding cuts_of
returns-then-not-covers c =
    let counted : outside 1 most_partitions c.args.p.count ≡ false =
    is_within 1 most_partitions _ c.if-p-lt1.false c.if-p-gt-MOST_PARTITIONS.false in
    let p = c.args.p in
    let no : c.covers.result ≡ false = c.if-not-covers.true in
    cuts-answer p counted (sym c.covers.ensures ∙ no)

pub returns-then-p-lt1-2 : goal.returns-then-p-lt1-2
unfolding cuts_of
returns-then-p-lt1-2 c =
    let counted : outside 1 most_partitions c.args.p.count ≡ false =
    is_within 1 most_partitions _ c.if-p-lt1.false c.if-p-gt-MOST_PARTITIONS.false in
    let covered : cover (cuts_of c.args.p) ≡ true =
    sym c.covers.ensures ∙ c.if-not-covers.false in
    let tuples-answer : outside 1 most_tuples c.args.p.tuples ≡ true → 3 ≡ plan_number c.args.p =
    λ e. sizes-answer c.args.p counted covered
    (or_left _ (outside 1 most_rows c.args.p.rows) e) in
    tuples-answer (is_below 1 most_tuples _ c.if-p-lt1-2.true)

pub returns-then-p-gt-MOST_TUPLES : goal.returns-then-p-gt-MOST_TUPLES
unfolding cuts_of
returns-then-p-gt-MOST_TUPLES c =
    let counted : outside 1 most_partitions c.args.p.count ≡ false =
    is_within 1 most_partitions _ c.if-p-lt1.false c.if-p-gt-MOST_PARTITIONS.false in
    let covered : cover (cuts_of c.args.p) ≡ true =
    sym c.covers.ensures ∙ c.if-not-covers.false in
    let tuples-answer : outside 1 most_tuples c.args.p.tuples ≡ true → 3 ≡ plan_number c.args.p =
    λ e. sizes-answer c.args.p counted covered
    (or_left _ (outside 1 most_rows c.args.p.rows) e) in
    tuples-answer (is-above 1 most_tuples _ c.if-p-gt-MOST_TUPLES.true)

pub returns-then-p-lt1-3 : goal.returns-then-p-lt1-3
unfolding cuts_of
returns-then-p-lt1-3 c =
    let counted : outside 1 most_partitions c.args.p.count ≡ false =
    is_within 1 most_partitions _ c.if-p-lt1.false c.if-p-gt-MOST_PARTITIONS.false in
    let covered : cover (cuts_of c.args.p) ≡ true =
    sym c.covers.ensures ∙ c.if-not-covers.false in
    let rows-answer : outside 1 most_rows c.args.p.rows ≡ true → 3 ≡ plan_number c.args.p =
    λ e. sizes-answer c.args.p counted covered
    (or_right (outside 1 most_tuples c.args.p.tuples) _ e) in
    rows-answer (is_below 1 most_rows _ c.if-p-lt1-3.true)

pub returns-then-p-gt-MOST_ROWS : goal.returns-then-p-gt-MOST_ROWS
unfolding cuts_of
returns-then-p-gt-MOST_ROWS c =
    let counted : outside 1 most_partitions c.args.p.count ≡ false =
    is_within 1 most_partitions _ c.if-p-lt1.false c.if-p-gt-MOST_PARTITIONS.false in
    let covered : cover (cuts_of c.args.p) ≡ true =
    sym c.covers.ensures ∙ c.if-not-covers.false in
    let rows-answer : outside 1 most_rows c.args.p.rows ≡ true → 3 ≡ plan_number c.args.p =
    λ e. sizes-answer c.args.p counted covered
    (or_right (outside 1 most_tuples c.args.p.tuples) _ e) in
    rows-answer
    (is-above 1 most_rows _ c.if-p-gt-MOST_ROWS.true)

pub returns : goal.returns
unfolding cuts_of
returns c =
    let counted : outside 1 most_partitions c.args.p.count ≡ false =
    is_within 1 most_partitions _ c.if-p-lt1.false c.if-p-gt-MOST_PARTITIONS.false in
    let covered : cover (cuts_of c.args.p) ≡ true =
    sym c.covers.ensures ∙ c.if-not-covers.false in
    let tuples = is_within 1 most_tuples c.args.p.tuples
    c.if-p-lt1-2.false
    c.if-p-gt-MOST_TUPLES.false in
    let rows = is_within 1 most_rows c.args.p.rows c.if-p-lt1-3.false c.if-p-gt-MOST_ROWS.false in
    c.minimum_check.ensures
    ∙ minimum-answers c.args.p counted covered (or-none _ _ tuples rows)
