-- The loop over the lines that a part finishes (`Doing`): what is left to do makes the whole.
-- Assumes nothing.
use mathlib.Core.Bool.{true, false}
use mathlib.Core.List.{List, ◌∷◌, ◌++◌}
use mathlib.Core.Logic.{⊎_elim}
use mathlib.Core.Path.{◌≡◌, refl, sym, ◌∙◌, ap, subst}
use Prim.Native.Nat.{ℕ, suc, ◌+◌, ◌-◌, ◌*◌, ◌≤◌, ◌<◌}
use native.Mathlib.Omega.{arith}
use lib.ListN.{length, take, drop, get_or, length-drop, length-replicate}
use lib.Seq.{split_at, take_all, drop-drop}
use Rattle.lists.specs.Members.{any, place_of}
use Rattle.lists.proofs.Choice.{bool_cases}
use Rattle.lists.proofs.Tally.{place_found, place_none, place_is}
use Rattle.refusal.specs.Refusal.{answer_number}
use Rattle.checks.specs.Stores.{Stores}
use Rattle.lines.specs.Fields.{line_end}
use Rattle.lines.proofs.Fields.{byte-there, byte-none, none_before}
use Rattle.text_buffer.proofs.Writing.{written-length}
use Rattle.refusal_text.specs.Refusals.{answer_text, refusal_room, next_line}
use Rattle.refusal_text.proofs.Refusals.{answer-length}
use Rattle.stream.specs.Input.{is_end}
use Rattle.stream.specs.Taking.{kept_most, with_bytes, LineEnded, PartTaken}
use Rattle.stream.specs.declared.Reading.{Reading}
use Rattle.stream.specs.declared.Taken.{Taken}
use Rattle.stream.proofs.Keeping.{Fits, keep-fits}
use Rattle.stream.proofs.Parts.{PartAt, part_end, part-run, part-line, part-whole}

-- what the code lends from a place on, `&part[from..]`
pub lent-rest : (part : List ℕ) (from : ℕ) → take (length part - from) (drop from part) ≡ drop from part
lent-rest part from = take_all (length part - from) (drop from part) (omega (arith, length-drop from part))

-- a place found lies within the bytes, or at their end
pub place-within : (bs : List ℕ) → place_of is_end bs ≤ length bs
place-within bs =
    ⊎_elim (λ e. omega (arith, place_found is_end bs e)) (λ e. omega (arith, place_none is_end bs e))
    (bool_cases (any is_end bs))

-- the bytes from place `from` on are left, and the first byte 10 among them stands at place `end`
pub record Doing (s : Reading) (part out : List ℕ) (S : Stores) (read : Reading) (at from end : ℕ) (now : List ℕ)
    (T : Stores) : Type 0 where
  pub within : from ≤ length part
  pub place : end ≡ from + place_of is_end (drop from part)
  pub fits : Fits read
  pub long : length now ≡ length out
  pub room : at + refusal_room * (length part - from) ≤ length out
  pub rest : (out' : List ℕ) (S' : Stores) (r : Taken) → PartAt read (drop from part) at now T out' S' r
      → PartAt s part 0 out S out' S' r

pub doing-start : (s : Reading) (part out : List ℕ) (S : Stores) (end : ℕ) → Fits s
    → refusal_room * length part ≤ length out → end ≡ place_of is_end part → Doing s part out S s 0 0 end out S
doing-start s part out S end f h e = record {
  within = omega arith;
  place = omega (arith, e);
  fits = f;
  long = refl;
  room = omega arith;
  rest = λ out' S' r p. p;
}

module _ (s : Reading) (part out : List ℕ) (S : Stores) (read : Reading) (at from end : ℕ) (now : List ℕ) (T : Stores)
    (d : Doing s part out S read at from end now T) where
  abbrev left : List ℕ
  left = drop from part

  pub doing-room : end < length part → at + refusal_room ≤ length now
  doing-room h = omega (arith, d.room, d.long, d.place)

  -- a line ends at place `end`: its bytes, byte 10, and what is left then
  module _ (h : end < length part) where
    line-place : place_of is_end left < length left
    line-place = omega (arith, d.place, length-drop from part, d.within)

    lent_is : take (end - from) left ≡ take (place_of is_end left) left
    lent_is = let e : end - from ≡ place_of is_end left = omega (arith, d.place) in ap (λ (n : ℕ). take n left) e

    lent_none : any is_end (take (end - from) left) ≡ false
    lent_none = ap (any is_end) lent_is ∙ none_before line_end left

    byte-is : is_end (get_or left (place_of is_end left) 0) ≡ true
    byte-is = place_is is_end left 0 (byte-there line_end left (place_of is_end left) refl line-place)

    left_is : left ≡ take (end - from) left ++ (get_or left (place_of is_end left) 0 ∷ drop (end + 1) part)
    left_is =
        let e : from + suc (place_of is_end left) ≡ end + 1 = omega (arith, d.place) in
        split_at left (place_of is_end left) 0 line-place
        ∙ ap (λ (l : List ℕ). take (place_of is_end left) left ++ (get_or left (place_of is_end left) 0 ∷ l))
        (drop-drop (suc (place_of is_end left)) from part ∙ ap (λ (n : ℕ). drop n part) e)
        ∙ ap (λ (u : List ℕ). u ++ (get_or left (place_of is_end left) 0 ∷ drop (end + 1) part)) (sym lent_is)

    -- the line, whole: what was kept of it, and these bytes
    abbrev line : Reading
    line = with_bytes read (take (end - from) left)

    pub line-fits : Fits line
    line-fits = keep-fits read (take (end - from) left) d.fits

    pub doing_step : (whole : Reading) (next : List ℕ) (U : Stores) (t : Taken) (more : ℕ) → whole ≡ line
        → LineEnded whole at now T next U t
        → more ≡ place_of is_end (take (length part - (end + 1)) (drop (end + 1) part))
        → Doing s part out S t.reading t.bytes (end + 1) (end + 1 + more) next U
    doing_step whole next U t more is ended e =
        let l = subst (λ (v : Reading). LineEnded v at now T next U t) is ended in
        let n = next_line line.lines in
        let k = answer_number l.stepped in
        record {
          within = omega arith;
          place = ap (λ (n : ℕ). end + 1 + n) (e ∙ ap (place_of is_end) (lent-rest part (end + 1)));
          fits =
              subst Fits (sym l.reading)
              (record { most = omega arith; long = length-replicate {A = ℕ} kept_most 0 });
          long =
              ap length l.text.holds
              ∙ written-length at (answer_text n k) now (omega (arith, answer-length n k, doing-room h))
              ∙ d.long;
          room = omega (arith, d.room, l.text.place, answer-length n k, d.place);
          rest = λ out' S' r p.
              d.rest out' S' r
              (subst (λ (xs : List ℕ). PartAt read xs at now T out' S' r) (sym left_is)
              (part-run read (take (end - from) left) _ lent_none at now T out' S' r
              (part-line line _ (drop (end + 1) part) byte-is at now T next U t out' S' r (doing-room h) l p)));
        }

  -- no line ends any more
  pub doing_end : length part ≤ end → (last : Reading) → last ≡ with_bytes read (take (length part - from) left)
      → PartTaken s part out S now T (record { reading = last; bytes = at })
  doing_end h last is =
      let e = byte-none line_end left (place_of is_end left) refl (omega (arith, d.place, length-drop from part)) in
      subst (λ (v : Reading). PartTaken s part out S now T (record { reading = v; bytes = at }))
      (sym (is ∙ ap (with_bytes read) (lent-rest part from)))
      (part-whole s part out S now T _ (d.rest now T _ (part_end read left at now T e)))
