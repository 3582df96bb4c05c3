-- Putting text into a buffer piece by piece (specs/Buffer: written, Put). In order: one piece after another; `Left`,
-- what is left to put, the invariant of every writer, with its laws; one byte.
-- Assumes nothing.
use mathlib.Core.List.{List, [], ◌∷◌, ◌++◌, append_assoc}
use mathlib.Core.Path.{◌≡◌, refl, sym, ap, ap₂, ◌∙◌}
use Prim.Native.Nat.{ℕ, ◌+◌, ◌≤◌, ◌<◌}
use native.Mathlib.Nat.{add-zero}
use native.Mathlib.Numerals.{add-one}
use native.Mathlib.Omega.{arith}
use lib.ListN.{length, take, drop, set, length-append, length-drop, take-append-drop}
use lib.Seq.{length-take-le, take_at, drop_at, drop-drop, set_split}
use Rattle.text_buffer.specs.Buffer.{written, Put}

-- ---- one piece after another

-- nothing put
written_none : (at : ℕ) (out : List ℕ) → written at [] out ≡ out
written_none at out = rw add-zero (take-append-drop at out)

pub put-none : (at : ℕ) (out : List ℕ) → Put at [] out out at
put-none at out = record { holds = sym (written_none at out); place = sym (add-zero at) }

module _ (at : ℕ) (s : List ℕ) (out : List ℕ) (h : at + length s ≤ length out) where
  -- what is before the next place, and what is after it
  head : List ℕ
  head = take at out ++ s

  head-length : length head ≡ at + length s
  unfolding head
  head-length = length-append (take at out) s ∙ ap (λ (n : ℕ). n + length s) (length-take-le at out (omega arith))

  written-head : written at s out ≡ head ++ drop (at + length s) out
  unfolding head
  written-head = sym (append_assoc (take at out) s (drop (at + length s) out))

  pub written-length : length (written at s out) ≡ length out
  written-length =
      ap length written-head ∙ length-append head (drop (at + length s) out)
      ∙ omega (arith, head-length, length-drop (at + length s) out)

  pub written-more : (t : List ℕ) → written (at + length s) t (written at s out) ≡ written at (s ++ t) out
  unfolding head
  written-more t =
      rw written-head
      (ap₂ (λ (xs ys : List ℕ). xs ++ (t ++ ys))
      (take_at head (drop (at + length s) out) (at + length s) head-length) after
      ∙ append_assoc (take at out) s (t ++ drop (at + length (s ++ t)) out)
      ∙ ap (λ (ys : List ℕ). take at out ++ ys) (sym (append_assoc s t (drop (at + length (s ++ t)) out))))
    where
      after : drop (at + length s + length t) (head ++ drop (at + length s) out) ≡ drop (at + length (s ++ t)) out
      after =
          let e : at + length s + length t ≡ at + length (s ++ t) = omega (arith, length-append s t) in
          sym (drop-drop (length t) (at + length s) (head ++ drop (at + length s) out))
          ∙ ap (drop (length t)) (drop_at head (drop (at + length s) out) (at + length s) head-length)
          ∙ drop-drop (length t) (at + length s) out
          ∙ ap (λ (n : ℕ). drop n out) e

-- ---- what is left: the whole was to be put from place `start` into `out`; now `left` is to be put from place `at`

pub record Left (start : ℕ) (whole out : List ℕ) (at : ℕ) (left now : List ℕ) : Type 0 where
  pub place : at + length left ≡ start + length whole
  pub long : length now ≡ length out
  pub holds : written at left now ≡ written start whole out

pub left-start : (start : ℕ) (whole out : List ℕ) → Left start whole out start whole out
left-start start whole out = record { place = refl; long = refl; holds = refl }

module _ (start : ℕ) (whole out : List ℕ) (fits : start + length whole ≤ length out) (at : ℕ) (now : List ℕ) where
  -- the next piece has room
  pub left-room : (s rest : List ℕ) → Left start whole out at (s ++ rest) now → at + length s ≤ length now
  left-room s rest l = omega (arith, l.place, l.long, length-append s rest)

  -- it was put
  pub left-more : (s rest now' : List ℕ) (next : ℕ) → Left start whole out at (s ++ rest) now → Put at s now now' next
      → Left start whole out next rest now'
  left-more s rest now' next l p =
      let room = left-room s rest l in
      rw (p.holds, p.place) (record {
        place = omega (arith, l.place, length-append s rest);
        long = written-length at s now room ∙ l.long;
        holds = written-more at s now room rest ∙ l.holds;
      })

  -- nothing is left
  pub left_end : Left start whole out at [] now → Put start whole out now at
  left_end l = record { holds = sym (written_none at now) ∙ l.holds; place = sym (add-zero at) ∙ l.place }

-- the same with what is left in another form
pub left_as : (start : ℕ) (whole out : List ℕ) (at : ℕ) (now left left' : List ℕ) → left ≡ left'
    → Left start whole out at left now → Left start whole out at left' now
left_as start whole out at now left left' e l = rw e at l

-- ---- one byte

pub put_one : (at : ℕ) (b : ℕ) (out : List ℕ) → at < length out → Put at (b ∷ []) out (set out at b) (at + 1)
put_one at b out h = record { holds = set_split out at b h ∙ rw add-one; place = refl }
