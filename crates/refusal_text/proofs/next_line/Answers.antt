-- `refusal_text::next_line` meets its contract.
-- Assumes nothing.
use mathlib.Core.Path.{◌≡◌, sym}
use Prim.Native.Nat.{ℕ, ◌+◌, ◌≤◌, ◌<◌}
use native.Mathlib.Omega.{arith}
use lib.Dec.{ltb}
use borrow.Author.Tests.{le-ltb, lt-ltb}
use Rattle.lists.proofs.Choice.{pick_true, pick-false}
use Rattle.refusal_text.specs.Refusals.{last_line, next_line}
use Rattle.refusal_text.proofs.next_line.Goals as goal

last : (n : ℕ) → last_line ≤ n → n ≡ next_line n
last n h = sym (pick-false (ltb n last_line) (n + 1) n (le-ltb n last_line h))

next : (n : ℕ) → n < last_line → n + 1 ≡ next_line n
next n h = sym (pick_true (ltb n last_line) (n + 1) n (lt-ltb n last_line h))

pub returns-then-lines-eq18446744073709551615 : goal.returns-then-lines-eq18446744073709551615
returns-then-lines-eq18446744073709551615 c = last _ (omega arith)

pub returns : goal.returns
returns c = next _ (omega arith)
