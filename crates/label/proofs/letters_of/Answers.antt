-- `label::letters_of` meets its contract. The loop's invariant is `Written`: the letters in hand are the number's last.
-- The measure is what is left of the number. Assumes nothing.
use native.Mathlib.Omega.{arith}
use Rattle.label.proofs.Loops.{written_none, written-fits, written-more, written_all, never}
use Rattle.label.proofs.letters_of.Goals as goal

pub returns-then-number-gt-LABEL_END : goal.returns-then-number-gt-LABEL_END
returns-then-number-gt-LABEL_END c = never c.args.number c.if-number-gt-LABEL_END.true

pub loop-n-init : goal.loop-n-init
loop-n-init c = written_none c.args.number c.if-number-gt-LABEL_END.false

pub overflow_add-count : goal.overflow_add-count
overflow_add-count c =
    let w = c.loop-n in record {
      fits = omega (
        arith,
        written-fits c.args.number w.bytes w.count w.n
            c.loop-n-test.true w.invariant,
      );
    }

pub loop-n-preserved : goal.loop-n-preserved
loop-n-preserved c =
    let w = c.loop-n in rw c.before-longer.ensures
    (written-more c.args.number w.bytes w.count w.n
    c.loop-n-test.true w.invariant)

pub returns : goal.returns
returns c =
    let w = c.loop-n in
    written_all c.args.number w.bytes w.count w.n c.loop-n-test.false w.invariant
