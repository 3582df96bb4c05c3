-- The checks of `take`, and that the text which it tells of lies within the buffer.
-- Assumes nothing.
use mathlib.Core.Bool.{true, false}
use mathlib.Core.List.{List}
use mathlib.Core.Logic.{⊎_elim}
use mathlib.Core.Path.{◌≡◌, refl, sym, ap}
use Prim.Native.Nat.{ℕ, ◌*◌, ◌/◌, ◌≤◌, ◌<◌}
use native.Mathlib.Omega.{arith}
use lib.Dec.{ltb, eqb}
use lib.ListN.{length, drop, length-append}
use borrow.Author.Tests.{lt-ltb, le-ltb, eqb-true, eqb-false}
use Rattle.std.specs.Prelude.{Result, Ok, Err}
use Rattle.lists.proofs.Choice.{bool_cases, refuse-met, refuse-passed, or_left, or_right, or-none}
use Rattle.refusal.specs.Refusal.{answer_number}
use Rattle.refusal.specs.declared.Refusal.{Refusal}
use Rattle.refusal.specs.declared.Refusal.TheVariants.{Length}
use Rattle.checks.specs.Stores.{Stores}
use Rattle.refusal_text.specs.Refusals.{refusal_room, refusals}
use Rattle.stream.specs.Taking.{kept_most, take_number, PartTaken, taken_of, TakenBy}
use Rattle.stream.specs.declared.Reading.{Reading}
use Rattle.stream.specs.declared.Taken.{Taken}

module _ (s : Reading) (size room : ℕ) where
  pub take-kept : kept_most < s.kept → 4 ≡ take_number s size room
  unfolding take_number
  take-kept h =
      sym
      (refuse-met _ 4
      (or_left (ltb kept_most s.kept) (ltb room (refusal_room * size)) (lt-ltb kept_most s.kept h)))

  pub take_short : room / refusal_room < size → 4 ≡ take_number s size room
  unfolding take_number
  take_short h =
      sym
      (refuse-met _ 4
      (or_right (ltb kept_most s.kept) (ltb room (refusal_room * size))
      (lt-ltb room (refusal_room * size) (omega arith))))

  pub take_whole : s.kept ≤ kept_most → size ≤ room / refusal_room → 0 ≡ take_number s size room
  unfolding take_number
  take_whole k h =
      sym
      (refuse-passed _ 4
      (or-none (ltb kept_most s.kept) (ltb room (refusal_room * size)) (le-ltb kept_most s.kept k)
      (le-ltb room (refusal_room * size) (omega arith))))

pub taken_refused : (s : Reading) (part out : List ℕ) (S : Stores) → 4 ≡ take_number s (length part) (length out)
    → TakenBy s part out S out S (Err Length)
taken_refused s part out S e = record {
  number = e;
  refused = λ ne. (refl, (refl, (refl, refl)));
  accepted = λ z. absurd (omega arith);
}

pub taken-whole : (s : Reading) (part out : List ℕ) (S : Stores) (out' : List ℕ) (S' : Stores) (r : Taken)
    → 0 ≡ take_number s (length part) (length out) → PartTaken s part out S out' S' r
    → TakenBy s part out S out' S' (Ok r)
taken-whole s part out S out' S' r e p = record {
  number = e;
  refused = λ ne. absurd (ne refl);
  accepted = λ _. p;
}

-- ---- the text's bytes are the buffer's first ones

pub taken-within : (s : Reading) (part out : List ℕ) (S : Stores) (out' : List ℕ) (S' : Stores)
    (r : Result Taken Refusal)
    → TakenBy s part out S out' S' r → (taken_of s r).bytes ≤ length out'
taken-within s part out S out' S' r t = ⊎_elim zero more (bool_cases (eqb (answer_number r) 0))
  where
    zero : eqb (answer_number r) 0 ≡ true → (taken_of s r).bytes ≤ length out'
    zero e =
        let p = t.accepted (eqb-true (answer_number r) 0 e) in
        let text = refusals s.lines p.numbers in
        omega (arith, p.bytes, ap length p.text, length-append text (drop (length text) out))

    more : eqb (answer_number r) 0 ≡ false → (taken_of s r).bytes ≤ length out'
    more e = let q = t.refused (eqb-false (answer_number r) 0 e) in omega (arith, q.1.0)
