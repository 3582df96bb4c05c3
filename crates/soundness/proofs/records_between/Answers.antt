-- `soundness::records_between` meets its contract. The loop's invariant: the records from k on decide.
-- Assumes nothing.
use Prim.Native.Nat.{◌+◌}
use native.Mathlib.Omega.{arith}
use lib.ListN.{drop}
use Rattle.lists.specs.Members.{all}
use Rattle.lists.specs.Words.{records_of}
use Rattle.soundness.specs.Between.{width_of, record_between}
use Rattle.store.proofs.StoreLoops.{Turn}
use Rattle.soundness.proofs.Loops.{room-order, records-turn, records-end}
use Rattle.soundness.proofs.records_between.Goals as goal

pub record_between-requires : goal.record_between-requires
record_between-requires c =
    let a = c.args in
    omega (arith, room-order (width_of a.kind) (c.loop-k.k + 1) a.n (omega arith))

pub returns-then-not-record_between : goal.returns-then-not-record_between
returns-then-not-record_between c =
    let turn : (let a = c.args in
    let ok = record_between a.kind a.first.0 a.last.0 in
    let rs = records_of (width_of a.kind) a.n (drop 1 a.part.now) in
    Turn c.record_between.result (all ok rs) (all ok (drop (c.loop-k.k + 1) rs))) =
    let a = c.args in
    let at = c.loop-k in
    records-turn (record_between a.kind a.first.0 a.last.0) (width_of a.kind) a.n (drop 1 a.part.now)
    at.k c.record_between.result c.loop-k-test.true c.record_between.ensures at.invariant in
    turn.fails (c.if-not-record_between.true)

pub loop-k-preserved : goal.loop-k-preserved
loop-k-preserved c =
    let turn : (let a = c.args in
    let ok = record_between a.kind a.first.0 a.last.0 in
    let rs = records_of (width_of a.kind) a.n (drop 1 a.part.now) in
    Turn c.record_between.result (all ok rs) (all ok (drop (c.loop-k.k + 1) rs))) =
    let a = c.args in
    let at = c.loop-k in
    records-turn (record_between a.kind a.first.0 a.last.0) (width_of a.kind) a.n (drop 1 a.part.now)
    at.k c.record_between.result c.loop-k-test.true c.record_between.ensures at.invariant in
    turn.goes (c.if-not-record_between.false)

pub returns : goal.returns
returns c =
    let a = c.args in
    records-end (record_between a.kind a.first.0 a.last.0) (width_of a.kind) a.n (drop 1 a.part.now)
    c.loop-k.k c.loop-k-test.false c.loop-k.invariant
