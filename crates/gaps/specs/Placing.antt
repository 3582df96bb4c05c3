-- Records placed one after the other in a lent buffer, where they fit: what the steps of the writing promise one
-- another.
use Rattle.std.specs.Prelude.{List, ◌≡◌, ℕ, ◌+◌, ◌≤◌, length}
use Rattle.std.proofs.lemmas.List.Edits.{sets}
use Rattle.interval.specs.declared.tuple.Tuple.{Tuple}
use Rattle.gaps.specs.Listed.{record_words, words_for}

-- after k records: the records ts come next, and then there are n. Where the buffer out has room for all of them, they
-- stand behind the k and all else is as it was; what is in a shorter one is free
pub record Placed (out : List ℕ) (k : ℕ) (ts : List Tuple) (out' : List ℕ) (n : ℕ) : Type 0 where
  pub counted : n ≡ k + length ts
  pub long : length out' ≡ length out
  pub written : words_for (k + length ts) ≤ length out → out' ≡ sets out (words_for k) (record_words ts)
