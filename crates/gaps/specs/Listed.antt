-- Minutes without a spot (document 02, (h)): what the call answers and leaves in the lent buffer. It is lent stores 1
-- and 2 to be read; no rows store, so it looks at none.
use Rattle.std.specs.Prelude.{List, [], ◌∷◌, ◌++◌, map, ◌≡◌, ℕ, ◌*◌, ltb, length, drop}
use Rattle.lists.specs.Choice.{refuse_if, first_of}
use Rattle.lists.specs.Members.{gather}
use Rattle.interval.specs.Tuple.{tuple_width, tuple_words, during}
use Rattle.interval.specs.declared.tuple.Tuple.{Tuple}
use Rattle.plan.specs.declared.Partitioning.{Partitioning}
use Rattle.store.specs.Store.{stored_tuples}
use Rattle.coverage.specs.Gaps.{rows_of, gaps_of}
use Rattle.checks.specs.Stores.{sides_number}
use Rattle.refusal.specs.Refusal.{answer_number}
use Rattle.checks.specs.Answer.{Answer, changed_of, examined_of}

-- the gaps of one drawing as records, "label, drawing number, first, last": the drawing with the stretch for its span
unfoldable pub gaps_by : Partitioning → List ℕ → Tuple → List Tuple
gaps_by p inner d = map (during d) (gaps_of d (rows_of p inner d))

-- "For each stored drawing, in store order"
unfoldable pub gaps : Partitioning → List ℕ → List ℕ → List Tuple
gaps p outer inner = gather (gaps_by p inner) (stored_tuples p outer)

-- "a lent buffer of four-word records": the words of records, and of so many
abbrev pub record_words : List Tuple → List ℕ
record_words ts = gather tuple_words ts

abbrev pub words_for : ℕ → ℕ
words_for n = tuple_width * n

-- "too short a buffer gets 19", of `room` words for n records
unfoldable pub room_check : ℕ → ℕ → ℕ
room_check room n = refuse_if (ltb room (words_for n)) 19

-- "after 1 to 5"
unfoldable pub gaps_number : Partitioning → List ℕ → List ℕ → ℕ → ℕ
gaps_number p outer inner room =
    first_of (sides_number p outer inner ∷ (room_check room (length (gaps p outer inner)) ∷ []))

-- a refusal: "No refusal changes any buffer", "both 0 on a refusal"
pub record NothingListed (out out' : List ℕ) (a : Answer) : Type 0 where
  pub kept : out' ≡ out
  pub records : changed_of a ≡ 0
  pub examined : examined_of a ≡ 0

-- "the first count is the number of records, and the words after them keep their contents"; the second is 0, "0 where
-- none is named"
pub record RecordsListed (p : Partitioning) (outer inner out out' : List ℕ) (a : Answer) : Type 0 where
  pub written : out' ≡ record_words (gaps p outer inner) ++ drop (words_for (length (gaps p outer inner))) out
  pub records : changed_of a ≡ length (gaps p outer inner)
  pub examined : examined_of a ≡ 0

-- the call: lent outer and inner to be read, out before and out' after it
pub record GapsListed (p : Partitioning) (outer inner out out' : List ℕ) (a : Answer) : Type 0 where
  pub number : answer_number a ≡ gaps_number p outer inner (length out)
  pub refused : (answer_number a ≡ 0 → ⊥) → NothingListed out out' a
  pub accepted : answer_number a ≡ 0 → RecordsListed p outer inner out out' a
