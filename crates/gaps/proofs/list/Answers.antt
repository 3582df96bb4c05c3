-- `gaps::list` meets its contract: checks 1 to 5; past them the records are counted; check 19; then they are written.
-- Assumes nothing.
use mathlib.Core.List.{[]}
use mathlib.Core.Path.{refl, sym}
use Rattle.std.proofs.Common.{rules}
use Rattle.refusal.specs.Refusal.{number}
use Rattle.refusal.proofs.Answering.{number-above}
use Rattle.checks.proofs.Refusals.{refusal-says}
use Rattle.checks.proofs.Checks.{sides-passed}
use Rattle.gaps.proofs.Stored.{all_fit}
use Rattle.gaps.proofs.Calls.{call-refused, call-short, call-accepted}
use Rattle.gaps.proofs.list.Goals as goal

pub returns-in_err-sides_number : goal.returns-in_err-sides_number
returns-in_err-sides_number c =
    let a = c.args in
    let refusal = c.in_err-sides_number.field-0.0 in
    call-refused a.p a.outer.now a.inner.now a.out.now c.from_residual.result (number refusal)
    c.in_err-sides_number.ensures (number-above refusal) (refusal-says _ refusal (search rules))

pub list_store-records-requires : goal.list_store-records-requires
list_store-records-requires c =
    sides-passed _ _ _ (sym c.in_ok-sides_number.ensures)

pub room_check-requires : goal.room_check-requires
room_check-requires c =
    let a = c.args in
    let sides =
    sides-passed a.p a.outer.now a.inner.now (sym c.in_ok-sides_number.ensures) in
    rw c.list_store-records.ensures.counted (all_fit a.p a.outer.now a.inner.now sides)

pub returns-in_err-room_check : goal.returns-in_err-room_check
returns-in_err-room_check c =
    let a = c.args in
    let refusal = c.in_err-room_check.field-0.0 in
    call-short a.p a.outer.now a.inner.now a.out.now c.from_residual-in_err-room_check.result _
    c.in_ok-sides_number.ensures refl [] _ c.list_store-records.result refl
    c.list_store-records.ensures (number refusal) c.in_err-room_check.ensures (number-above refusal)
    (refusal-says _ refusal (search rules))

pub list_store-requires : goal.list_store-requires
list_store-requires c =
    sides-passed _ _ _ (sym c.in_ok-sides_number.ensures)

pub returns : goal.returns
returns c =
    let a = c.args in
    call-accepted a.p a.outer.now a.inner.now a.out.now _ _
    c.in_ok-sides_number.ensures refl [] _ c.list_store-records.result refl
    c.list_store-records.ensures _ c.in_ok-room_check.ensures refl _ _
    c.list_store.ensures (refl, (refl, refl))
