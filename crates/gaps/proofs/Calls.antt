-- Laws of the call: its answer where checks 1 to 5 refuse, where check 19 does, and accepted. The records are counted
-- with an empty part of the buffer, `none` before and `none'` after, so that the buffer is as it was.
-- Assumes nothing.
use mathlib.Core.List.{List, [], ◌∷◌, ◌++◌}
use mathlib.Core.Path.{◌≡◌, refl, sym, ◌∙◌}
use Prim.Native.Nat.{ℕ, ◌≤◌}
use native.Mathlib.Nat.{zero-add}
use native.Mathlib.Omega.{arith}
use lib.Dec.{ltb}
use lib.ListN.{length, drop}
use lib.Seq.{sets, sets-eq}
use borrow.Author.Tests.{ltb-false}
use Rattle.lists.proofs.Choice.{refuse-none, answer-here, answer-next, answer-last}
use Rattle.plan.specs.declared.Partitioning.{Partitioning}
use Rattle.checks.specs.Stores.{sides_number, Says, Counts}
use Rattle.checks.specs.Answer.{Answer}
use Rattle.gaps.specs.Listed.{gaps, record_words, words_for, room_check, gaps_number, GapsListed}
use Rattle.gaps.specs.Placing.{Placed}
use Rattle.gaps.proofs.Placing.{length-words}

-- an empty part put back changes nothing
pub none-back : (none' out : List ℕ) → length none' ≡ 0 → none' ++ out ≡ out
none-back [] out e = refl
none-back (w ∷ ws) out e = absurd (omega arith)

-- the records written from the buffer's start, and the words after them
written_all : (out ws : List ℕ) → length ws ≤ length out → sets out 0 ws ≡ ws ++ drop (length ws) out
written_all out ws l = sets-eq ws out 0 (omega arith) ∙ rw zero-add

module _ (p : Partitioning) (outer inner out : List ℕ) (a : Answer) where
  pub call-refused : (n : ℕ) → n ≡ sides_number p outer inner → (n ≡ 0 → ⊥) → Says a n
      → GapsListed p outer inner out out a
  unfolding gaps_number
  call-refused n e ne says = record {
    number = says.0 ∙ answer-here _ e ne;
    refused = λ z. record { kept = refl; records = says.1.0; examined = says.1.1 };
    accepted = λ z. absurd (ne (sym says.0 ∙ z));
  }

  module _ (n : ℕ) (passed : n ≡ sides_number p outer inner) (z : n ≡ 0) (none none' : List ℕ) (k : ℕ)
      (empty : length none ≡ 0) (counted : Placed none 0 (gaps p outer inner) none' k) where
    abbrev unchanged : none' ++ out ≡ out
    unchanged = none-back none' out (counted.long ∙ empty)

    many : k ≡ length (gaps p outer inner)
    many = omega (arith, counted.counted)

    pub call-short : (m : ℕ) → m ≡ room_check (length (none' ++ out)) k → (m ≡ 0 → ⊥) → Says a m
        → GapsListed p outer inner out (none' ++ out) a
    unfolding gaps_number
    call-short m e ne says = record {
      number = says.0 ∙ answer-next _ passed z (answer-last (rw (unchanged, many) at e));
      refused = λ q. record { kept = unchanged; records = says.1.0; examined = says.1.1 };
      accepted = λ q. absurd (ne (sym says.0 ∙ q));
    }

    pub call-accepted : (m : ℕ) → m ≡ room_check (length (none' ++ out)) k → m ≡ 0 → (out' : List ℕ) (k' : ℕ)
        → Placed (none' ++ out) 0 (gaps p outer inner) out' k' → Counts a k 0 → GapsListed p outer inner out out' a
    unfolding gaps_number room_check
    call-accepted m e y out' k' placed counts =
        let room : m ≡ room_check (length out) (length (gaps p outer inner)) = rw (unchanged, many) at e in
        let words = record_words (gaps p outer inner) in
        let fits : words_for (length (gaps p outer inner)) ≤ length out =
        ltb-false (length out) (words_for (length (gaps p outer inner)))
        (refuse-none (ltb (length out) (words_for (length (gaps p outer inner)))) 18 (sym room ∙ y)) in
        let there : out' ≡ sets out 0 words = rw unchanged at (placed.written (rw (unchanged, zero-add) fits)) in
        record {
          number = counts.0 ∙ sym y ∙ answer-next _ passed z (answer-last room);
          refused = λ ne. absurd (ne counts.0);
          accepted = λ q. record {
            written = there ∙ rw (sym (length-words (gaps p outer inner)))
                (written_all out words (rw (length-words (gaps p outer inner)) fits));
            records = counts.1.0 ∙ many;
            examined = counts.1.1;
          };
        }
