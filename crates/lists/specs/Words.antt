-- Lists of words: parts, zeros, and records of a fixed width.
-- The laws are in proofs/: Parts (a part, and the whole with a part put back), Words (zeros), Records.
use Rattle.std.specs.Prelude.{Bool, List, [], ◌∷◌, ◌++◌, ℕ, zero, suc, ◌*◌, take, drop, eqb}
use Rattle.lists.specs.Members.{all}

-- the k members from place a on
abbrev pub part_at : {A : Type 0} → ℕ → ℕ → List A → List A
part_at a k xs = take k (drop a xs)

-- every word is 0
abbrev pub zeros : List ℕ → Bool
zeros ws = all (λ w. eqb w 0) ws

-- the first n records of w words each
abbrev pub records_of : ℕ → ℕ → List ℕ → List (List ℕ)
records_of w zero ws = []
records_of w (suc n) ws = take w ws ∷ records_of w n (drop w ws)

-- record k, counted from 0
abbrev pub record_at : ℕ → ℕ → List ℕ → List ℕ
record_at w k ws = part_at (k * w) w ws

-- the list with its k members from place a on changed by f, and all others as they are
abbrev pub on_part : {A : Type 0} → ℕ → ℕ → (List A → List A) → List A → List A
on_part a k f xs = take a xs ++ (f (part_at a k xs) ++ drop k (drop a xs))
