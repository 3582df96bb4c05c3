-- Testing words for 0: eight at a time by their joined bits, and a list in pieces.
-- Assumes nothing.
use mathlib.Core.Bool.{true, ◌&&◌, and_assoc, and-true}
use mathlib.Core.List.{List}
use mathlib.Core.Path.{◌≡◌, sym, ◌∙◌, ap}
use Prim.Native.Nat.{ℕ, ◌+◌, ◌≤◌}
use native.Mathlib.Nat.{add-zero}
use native.Mathlib.Omega.{arith}
use lib.Bits.{bit_or, or_add_and, and_le_l, and_le_r}
use lib.Dec.{eqb}
use lib.ListN.{length, get_or, take, drop, take-append-drop}
use lib.Seq.{drop-drop}
use borrow.Author.Tests.{eqb-true, eq-eqb}
use Rattle.lists.specs.Words.{part_at, zeros}
use Rattle.lists.proofs.Choice.{and_left, and_right, and_both, same_test}
use Rattle.lists.proofs.Parts.{reads-are}
use Rattle.lists.proofs.Words.{zeros-append}

-- two words have no bit exactly if both are 0
pub or-test : (a b : ℕ) → eqb (bit_or a b) 0 ≡ (eqb a 0 && eqb b 0)
or-test a b = same_test (eqb (bit_or a b) 0) (eqb a 0 && eqb b 0) to back
  where
    to : eqb (bit_or a b) 0 ≡ true → (eqb a 0 && eqb b 0) ≡ true
    to e =
        let z : bit_or a b ≡ 0 = eqb-true (bit_or a b) 0 e in
        and_both (eqb a 0) (eqb b 0)
        (eq-eqb a 0 (omega (arith, or_add_and a b, and_le_l a b, and_le_r a b)))
        (eq-eqb b 0 (omega (arith, or_add_and a b, and_le_l a b, and_le_r a b)))

    back : (eqb a 0 && eqb b 0) ≡ true → eqb (bit_or a b) 0 ≡ true
    back e =
        let x : a ≡ 0 = eqb-true a 0 (and_left (eqb a 0) (eqb b 0) e) in
        let y : b ≡ 0 = eqb-true b 0 (and_right (eqb a 0) (eqb b 0) e) in
        eq-eqb (bit_or a b) 0 (omega (arith, or_add_and a b))

-- the joined bits of eight words from place i on
abbrev joined : List ℕ → ℕ → ℕ
joined ws i =
    bit_or (bit_or (bit_or (bit_or (get_or ws i 0) (get_or ws (i + 1) 0)) (get_or ws (i + 2) 0)) (get_or ws (i + 3) 0))
    (bit_or (bit_or (bit_or (get_or ws (i + 4) 0) (get_or ws (i + 5) 0)) (get_or ws (i + 6) 0)) (get_or ws (i + 7) 0))

pub eight-test : (ws : List ℕ) (i : ℕ) → i + 8 ≤ length ws → eqb (joined ws i) 0 ≡ zeros (part_at i 8 ws)
eight-test ws i h =
    let part = rw add-zero at (reads-are 8 i 0 0 ws (omega arith)) in
    simp (or-test, and_assoc) (rw (← part) (simp and-true))

-- a list in two pieces
pub zeros-pieces : (n i : ℕ) (ws : List ℕ) → zeros (drop i ws) ≡ (zeros (part_at i n ws) && zeros (drop (i + n) ws))
zeros-pieces n i ws =
    ap zeros (sym (take-append-drop n (drop i ws)))
    ∙ zeros-append (take n (drop i ws)) (drop n (drop i ws))
    ∙ ap (λ (vs : List ℕ). zeros (take n (drop i ws)) && zeros vs) (drop-drop n i ws)
