-- The numbers of refusals, as document 01's table and document 02 give them; 13 went with document 02, (e). An answer's
-- number is 0 where it is accepted.
use Rattle.std.specs.Prelude.{ℕ, Result, Ok, Err}
use Rattle.refusal.specs.declared.Refusal.{Refusal}
use Rattle.refusal.specs.declared.Refusal.TheVariants.{
  PartitionCount,
  Cuts,
  Capacity,
  Length,
  Unsound,
  Label,
  Item,
  Backward,
  Full,
  Crowded,
  Missing,
  Lacking,
  ShortCache,
  Malformed,
  OutOfTurn,
  PastCalendar,
  Minimum,
  ShortBuffer,
}

abbrev pub number : Refusal → ℕ
number PartitionCount = 1
number Cuts = 2
number Capacity = 3
number Length = 4
number Unsound = 5
number Label = 6
number Item = 7
number Backward = 8
number Full = 9
number Crowded = 10
number Missing = 11
number Lacking = 12
number ShortCache = 14
number Malformed = 15
number OutOfTurn = 16
number PastCalendar = 17
number Minimum = 18
number ShortBuffer = 19

abbrev pub answer_number : {A : Type 0} → Result A Refusal → ℕ
answer_number (Ok a) = 0
answer_number (Err r) = number r
