-- Members of a list: tests of them, choices, how often, one list made of each; and the numbers below another.
-- Their laws are in proofs/: Members (all, any, keep), Tally (tally, total, without), Gather, Below.
use Rattle.std.specs.Prelude.{Bool, true, false, ◌&&◌, ◌||◌, List, [], ◌∷◌, ◌++◌, ℕ, zero, suc, ◌+◌}
use Rattle.lists.specs.Choice.{pick}

-- every member passes the test; some member does
abbrev pub all : {A : Type 0} → (A → Bool) → List A → Bool
all p [] = true
all p (x ∷ xs) = p x && all p xs

abbrev pub any : {A : Type 0} → (A → Bool) → List A → Bool
any p [] = false
any p (x ∷ xs) = p x || any p xs

-- the members that pass the test, in order (filter)
abbrev pub keep : {A : Type 0} → (A → Bool) → List A → List A
keep p [] = []
keep p (x ∷ xs) = pick (p x) (x ∷ keep p xs) (keep p xs)

-- how many members pass the test
abbrev pub tally : {A : Type 0} → (A → Bool) → List A → ℕ
tally p [] = 0
tally p (x ∷ xs) = pick (p x) (suc (tally p xs)) (tally p xs)

-- the sum of a number for each member
abbrev pub total : {A : Type 0} → (A → ℕ) → List A → ℕ
total f [] = 0
total f (x ∷ xs) = f x + total f xs

-- the lists made of each member, one after the other (concatenated map)
abbrev pub gather : {A B : Type 0} → (A → List B) → List A → List B
gather f [] = []
gather f (x ∷ xs) = f x ++ gather f xs

-- the list with its first member that passes the test taken out, where there is one
abbrev pub without : {A : Type 0} → (A → Bool) → List A → List A
without p [] = []
without p (x ∷ xs) = pick (p x) xs (x ∷ without p xs)

-- the place of the first member that passes the test, counted from 0, or the list's length
abbrev pub place_of : {A : Type 0} → (A → Bool) → List A → ℕ
place_of p [] = 0
place_of p (x ∷ xs) = pick (p x) 0 (suc (place_of p xs))

-- the n numbers from i on, rising; the numbers below n
abbrev pub up_from : ℕ → ℕ → List ℕ
up_from i zero = []
up_from i (suc n) = i ∷ up_from (suc i) n

abbrev pub below : ℕ → List ℕ
below n = up_from 0 n
