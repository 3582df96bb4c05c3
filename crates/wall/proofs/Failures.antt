-- How long the line of a failure can be, and a closed case.
-- Assumes nothing.
use mathlib.Core.List.{List, [], ◌∷◌, ◌++◌}
use mathlib.Core.Path.{◌≡◌, refl}
use Prim.Native.Nat.{ℕ, ◌≤◌, ◌<◌, ◌^◌}
use native.Mathlib.Omega.{arith}
use lib.ListN.{length, length-append}
use Rattle.lines.specs.Fields.{line_end, digits_of}
use Rattle.text_buffer.specs.Buffer.{ended}
use Rattle.text_buffer.proofs.Digits.{digits-length}
use Rattle.wall.specs.Channel.{failure_line}

pub failure-length : (what : List ℕ) (error : ℕ) → length what ≤ 19 → error < 2 ^ 64
    → length (failure_line what error) ≤ 40
failure-length what error short fits =
    omega (
      arith,
      length-append what (ended (digits_of error) line_end),
      length-append (digits_of error) (line_end ∷ []),
      digits-length 20 error (omega arith) (omega arith),
    )

-- `wall: read: error ` and 21: the line ends with the two digits and byte 10
abbrev read_failed : List ℕ
read_failed = 119 ∷ 97 ∷ 108 ∷ 108 ∷ 58 ∷ 32 ∷ 114 ∷ 101 ∷ 97 ∷ 100 ∷ 58 ∷ 32 ∷ 101 ∷ 114 ∷ 114 ∷ 111 ∷ 114 ∷ 32 ∷ []

pub failure-case : failure_line read_failed 21 ≡ read_failed ++ (50 ∷ 49 ∷ 10 ∷ [])
unfolding digits_of
failure-case = refl
