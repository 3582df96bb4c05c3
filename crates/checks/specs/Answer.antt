-- What a call answers, as document 01 says it: "a refusal number (0: accepted) and two counts, both 0 on a refusal".
-- The number of an answer is `answer_number`, of crate refusal.
use Rattle.std.specs.Prelude.{ℕ, Result, Ok, Err}
use Rattle.refusal.specs.declared.Refusal.{Refusal}
use Rattle.checks.specs.declared.Counted.{Counted}

abbrev pub Answer : Type 0
Answer = Result Counted Refusal

abbrev pub changed_of : Answer → ℕ
changed_of (Ok counted) = counted.changed
changed_of (Err refusal) = 0

abbrev pub examined_of : Answer → ℕ
examined_of (Ok counted) = counted.examined
examined_of (Err refusal) = 0
