-- `cursor::touches` meets its contract. Assumes nothing.
use native.Mathlib.Omega.{arith}
use borrow.Author.Tests.{le-leb, lt-leb}
use Rattle.cursor.specs.Cursor.{touching}
use Rattle.cursor.proofs.touches.Goals as goal

pub returns-then-window-row : goal.returns-then-window-row
unfolding touching
returns-then-window-row c =
    let args = c.args in
    rw (lt-leb args.row.valid.first.0 args.window.last.0 (omega arith))

pub returns : goal.returns
unfolding touching
returns c =
    let args = c.args in
    rw (le-leb args.row.valid.first.0 args.window.last.0 (omega arith))
