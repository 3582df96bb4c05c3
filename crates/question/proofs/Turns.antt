-- The loop over the rows that a scan hands out: what holds at a cursor, at first, after a row, and at the end.
-- Assumes nothing.
use mathlib.Core.Bool.{true}
use mathlib.Core.List.{List, map}
use mathlib.Core.Path.{◌≡◌, refl, sym, ◌∙◌, ap, subst}
use Rattle.std.specs.Prelude.{Option, Some, None, IfSome}
use Prim.Native.Nat.{ℕ}
use lib.ListN.{length, length-map}
use Rattle.interval.specs.declared.tuple.Row.{Row}
use Rattle.cursor.specs.Cursor.{chosen, left, Stands, Started, Advanced}
use Rattle.cursor.specs.declared.Scan.{Scan}
use Rattle.cursor.specs.declared.Cursor.{Cursor}
use Rattle.cursor.proofs.Cursors.{left-first}
use Rattle.question.specs.Steps.{with_row, after_rows, room_for}
use Rattle.question.specs.declared.Question.{Question}
use Rattle.question.proofs.Rooms.{room-one, room_next}

-- at this place of a scan the questions xs have become ys: what is left makes of ys what all makes of xs, and they have
-- room for it
pub record Counting (s : Scan) (ws : List ℕ) (xs : List Question) (at : Option Cursor) (ys : List Question)
    : Type 0 where
  pub stands : IfSome at (Stands s ws)
  pub long : length ys ≡ length xs
  pub after : after_rows (left s ws at) ys ≡ after_rows (chosen s ws) xs
  pub room : room_for (length (left s ws at)) ys ≡ true

module _ (s : Scan) (ws : List ℕ) (xs : List Question) where
  -- at the first row
  pub counting-first : (at : Option Cursor) → Started s ws at → room_for (length (chosen s ws)) xs ≡ true
      → Counting s ws xs at xs
  counting-first at st h = record {
    stands = st.stands;
    long = refl;
    after = ap (λ (rs : List Row). after_rows rs xs) st.rest;
    room = ap (λ (rs : List Row). room_for (length rs) xs) st.rest ∙ h;
  }

  -- at a row
  module _ (at : Option Cursor) (c : Cursor) (is : at ≡ Some c) (ys : List Question) (h : Counting s ws xs at ys) where
    here : Counting s ws xs (Some c) ys
    here = subst (λ (o : Option Cursor). Counting s ws xs o ys) is h

    -- there is room for it
    pub counting-room : room_for 1 ys ≡ true
    counting-room =
        room-one _ ys
        (ap (λ (rs : List Row). room_for (length rs) ys) (sym (left-first s ws c here.stands)) ∙ here.room)

    -- after it, at the next one
    pub counting-next : (zs : List Question) → zs ≡ map (with_row c.row) ys → (next : Option Cursor)
        → Advanced s ws c next → Counting s ws xs next zs
    counting-next zs e next adv = record {
      stands = adv.stands;
      long = ap length e ∙ length-map ys (with_row c.row) ∙ h.long;
      after = ap (after_rows (left s ws next)) e ∙ ap (λ (rs : List Row). after_rows rs ys) (sym adv.rest)
          ∙ here.after;
      room = ap (room_for (length (left s ws next))) e
          ∙ room_next (length (left s ws next)) c.row ys
          (ap (λ (rs : List Row). room_for (length rs) ys) (sym adv.rest) ∙ here.room);
    }

  -- past the last, all rows were read
  pub counting-end : (at : Option Cursor) → at ≡ None → (ys : List Question) → Counting s ws xs at ys
      → ys ≡ after_rows (chosen s ws) xs
  counting-end at is ys h =
      ap (λ (o : Option Cursor). after_rows (left s ws o) ys) (sym is) ∙ h.after
