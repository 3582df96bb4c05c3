-- What the answers say beyond the call: that enough is read. The proof is in proofs/Counted.antt; what the answers
-- count on a wall that is kept current is crate current_answers'.
use Rattle.std.specs.Prelude.{List, [], ◌∷◌, ◌≡◌, ℕ, ◌<◌}
use Rattle.lists.specs.Members.{tally, total}
use Rattle.plan.specs.Plan.{home}
use Rattle.plan.specs.declared.Partitioning.{Partitioning}
use Rattle.part.specs.Part.{rows_in}
use Rattle.store.specs.Store.{row_part}
use Rattle.checks.specs.Stores.{rows_number}
use Rattle.question.specs.Question.{row_meets, legal_minutes, smallest}
use Rattle.question.specs.declared.Question.{Question}

-- the lane where the reading starts: that of the smallest legal minute, or past the last lane where there is none
abbrev pub start_for : Partitioning → List ℕ → ℕ
start_for p [] = p.count
start_for p (m ∷ ms) = home p (smallest m ms)

-- what is not read could not have been counted: of the rows stored in a lane below that one the questions of the list
-- count none, all together
abbrev pub EnoughRead : Type 0
EnoughRead =
    (p : Partitioning) (rows : List ℕ) → rows_number p rows ≡ 0
    → (qs : List Question) (i : ℕ) → i < start_for p (legal_minutes qs)
    → total (λ (q : Question). tally (row_meets q) (rows_in (row_part p rows i))) qs ≡ 0
