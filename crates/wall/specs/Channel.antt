-- What a system call moved, and the line that tells a failure. No contract can say which bytes a call reads or writes.
use Rattle.std.specs.Prelude.{List, ◌++◌, ◌≡◌, ℕ, ℤ, ◌≤◌, length, take, Result, Ok, Err}
use Rattle.lines.specs.Fields.{line_end, digits_of}
use Rattle.text_buffer.specs.Buffer.{ended}

-- `&buffer[..n]` is in bounds and has n bytes
abbrev pub IsPrefixLen : ℕ → List ℕ → Type 0
IsPrefixLen n buffer = (n ≤ length buffer) × (n ≡ length (take n buffer))

-- bytes that a call moved lie within the buffer
abbrev pub MovedWithin : List ℕ → Result ℕ ℤ → Type 0
MovedWithin buffer (Ok n) = IsPrefixLen n buffer
MovedWithin buffer (Err error) = Unit {0}

-- what failed, its error number and byte 10
abbrev pub failure_line : List ℕ → ℕ → List ℕ
failure_line what error = what ++ ended (digits_of error) line_end
