-- Room in the answers for rows that are still to be read: what it says of one answer, and what is left after a row.
-- Assumes nothing.
use mathlib.Core.Bool.{Bool, true, false}
use mathlib.Core.List.{List, map}
use mathlib.Core.Path.{◌≡◌, ◌∙◌}
use Prim.Native.Nat.{ℕ, suc, ◌+◌, ◌≤◌, ◌<◌}
use native.Mathlib.Omega.{arith}
use lib.ListN.{length, get_or}
use lib.Dec.{leb}
use borrow.Author.Tests.{le-leb, leb-true}
use Rattle.lists.specs.Choice.{pick}
use Rattle.lists.proofs.Members.{all_map, all-get_or, all-imply}
use Rattle.interval.specs.declared.tuple.Row.{Row}
use Rattle.question.specs.Question.{row_meets}
use Rattle.question.specs.Steps.{answer_end, with_row, room_for}
use Rattle.question.specs.declared.Question.{Question}

-- the test of one answer
abbrev pub roomy : ℕ → Question → Bool
roomy n q = leb (q.answer + n) answer_end

-- an answer that has room for a row is below the end
pub room_at : (qs : List Question) (i : ℕ) (d : Question) → room_for 1 qs ≡ true → i < length qs
    → (get_or qs i d).answer < answer_end
unfolding room_for
room_at qs i d e l = omega (arith, leb-true ((get_or qs i d).answer + 1) answer_end (all-get_or (roomy 1) qs d e i l))

-- room for more rows than one is room for one
pub room-one : (n : ℕ) (qs : List Question) → room_for (suc n) qs ≡ true → room_for 1 qs ≡ true
unfolding room_for
room-one n qs =
    all-imply (roomy (suc n)) (roomy 1) qs
    (λ (q : Question). λ e. le-leb (q.answer + 1) answer_end (omega (arith, leb-true (q.answer + suc n) answer_end e)))

-- a row adds at most one to an answer
one_up : (t : Bool) (m n k : ℕ) → m + suc n ≤ k → pick t (m + 1) m + n ≤ k
one_up true m n k l = omega (arith, l)
one_up false m n k l = omega (arith, l)

-- after a row there is room for one row less
pub room_next : (n : ℕ) (r : Row) (qs : List Question) → room_for (suc n) qs ≡ true
    → room_for n (map (with_row r) qs) ≡ true
unfolding room_for
room_next n r qs e =
    all_map (roomy n) (with_row r) qs
    ∙ all-imply (roomy (suc n)) (λ (q : Question). roomy n (with_row r q)) qs
    (λ (q : Question). λ g. le-leb ((with_row r q).answer + n) answer_end
    (one_up (row_meets q r) q.answer n answer_end (leb-true (q.answer + suc n) answer_end g))) e
