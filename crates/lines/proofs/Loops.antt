-- The loops of this crate.
-- In order: the place that `position` finds, for `place_of`; `Digits`, i digits are read and their value is n, for
-- `read_number`, with its laws.
-- Assumes nothing.
use mathlib.Core.Bool.{Bool, cond, true, false, not, false≢true}
use mathlib.Core.List.{List, [], ◌∷◌}
use mathlib.Core.Logic.{◌⊎◌, inl, inr, ⊎_elim}
use mathlib.Core.Path.{◌≡◌, refl, sym, ◌∙◌, ap, subst}
use Prim.Native.Nat.{ℕ, suc, ◌+◌, ◌-◌, ◌*◌, ◌≤◌, ◌<◌}
use native.Mathlib.Numerals.{add-one}
use native.Mathlib.Omega.{arith}
use lib.Dec.{leb, ltb}
use lib.ListN.{length, get_or, drop, drop_of_length-le}
use lib.Seq.{drop-cons}
use borrow.Author.Tests.{le-leb, lt-leb, ltb-false}
use Rattle.std.specs.List.{position, position_or_len}
use Rattle.std.specs.Option.{unwrap_or}
use Rattle.std.specs.Prelude.{Option, Some, None}
use Rattle.std.proofs.lemmas.List.Sums.{prefix_len-le-length}
use Rattle.lists.specs.Choice.{pick}
use Rattle.lists.specs.Members.{all, place_of}
use Rattle.lists.proofs.Choice.{bool_cases, and_both}
use Rattle.lists.proofs.Members.{all_end, all-next, all-stop}
use Rattle.lines.specs.Fields.{most_digits, is_digit, is_number, value_from, value_of}
use Rattle.lines.specs.Fields.{NumberRead}
use Rattle.lines.proofs.Numbers.{number-made, no_number, tens, tens-rise, value-step}

-- ---- the place of the first of a byte, as `position` finds it

place_len : (p : ℕ → Bool) (bs : List ℕ) → position_or_len p bs ≡ place_of p bs
place_len p [] = refl
place_len p (b ∷ bs) = go (p b) (place_len p bs)
  where
    go : (t : Bool) → position_or_len p bs ≡ place_of p bs
        → cond (not t) (1 + position_or_len p bs) 0 ≡ pick t 0 (suc (place_of p bs))
    go true e = refl
    go false e = omega (arith, e)

pub place-found : (p : ℕ → Bool) (bs : List ℕ) (r : Option ℕ) → r ≡ position p bs
    → unwrap_or r (length bs) ≡ place_of p bs
place-found p bs r e =
    rw e (⊎_elim (λ t. rw t (place_len p bs)) (λ t. rw t (omega (arith, beyond t))) (bool_cases (ltb n (length bs))))
  where
    n : ℕ
    n = position_or_len p bs

    beyond : ltb n (length bs) ≡ false → length bs ≡ place_of p bs
    beyond t =
        omega (arith, ltb-false n (length bs) t, prefix_len-le-length (λ b. not (p b)) bs, place_len p bs)

-- ---- a number: i digits are read, and their value is n

pub record Digits (bs : List ℕ) (i n : ℕ) : Type 0 where
  pub within : i ≤ length bs
  pub small : n < tens i
  pub digits : all is_digit bs ≡ all is_digit (drop i bs)
  pub value : value_from 0 bs ≡ value_from n (drop i bs)

module _ (bs : List ℕ) where
  refused : is_number bs ≡ false → NumberRead bs None
  refused e = record { number = rw e; value = rw e }

  -- no digit, nine or more, or a leading 0 with more after it
  pub refused-short : length bs < 1 → NumberRead bs None
  refused-short h = refused (no_number bs (λ p. omega (arith, p.least)))

  pub refused-long : most_digits < length bs → NumberRead bs None
  refused-long h = refused (no_number bs (λ p. omega (arith, p.most)))

  pub refused-lead : get_or bs 0 0 ≡ 48 → 1 < length bs → NumberRead bs None
  refused-lead e h = refused (no_number bs (λ p. ⊎_elim (λ one. omega arith) (λ lead. lead e) p.lead))

  pub digits-none : Digits bs 0 0
  digits-none = record { within = omega arith; small = omega arith; digits = refl; value = refl }

  -- while a digit is left of at most eight, n has at most seven
  pub digits-fit : (i n : ℕ) → i < length bs → length bs ≤ most_digits → Digits bs i n → n < 10000000
  digits-fit i n h hi d = omega (arith, d.small, tens-rise i 7 (omega arith))

  -- a byte that is no digit
  stop : (i n : ℕ) → i < length bs → is_digit (get_or bs i 0) ≡ false → Digits bs i n → NumberRead bs None
  stop i n h e d =
      refused
      (no_number bs (λ p. false≢true (sym (d.digits ∙ all-stop is_digit bs i 0 h e) ∙ p.digits)))

  pub digits_low : (i n : ℕ) → i < length bs → get_or bs i 0 < 48 → Digits bs i n → NumberRead bs None
  digits_low i n h l d = stop i n h (rw (lt-leb 48 (get_or bs i 0) l)) d

  pub digits-high : (i n : ℕ) → i < length bs → 57 < get_or bs i 0 → Digits bs i n → NumberRead bs None
  digits-high i n h l d =
      let low : 48 ≤ get_or bs i 0 = omega arith in
      stop i n h (rw (le-leb 48 (get_or bs i 0) low, lt-leb (get_or bs i 0) 57 l)) d

  -- a digit more
  pub digits_more : (i n : ℕ) → i < length bs → 48 ≤ get_or bs i 0 → get_or bs i 0 ≤ 57 → Digits bs i n
      → Digits bs (i + 1) (10 * n + (get_or bs i 0 - 48))
  digits_more i n h lo hi d = record {
    within = omega arith;
    small =
        subst (λ (m : ℕ). 10 * n + (get_or bs i 0 - 48) < tens m) (sym (add-one i))
        (value-step i n (get_or bs i 0) hi d.small);
    digits =
        d.digits
        ∙ all-next is_digit bs i 0 h
        (and_both (leb 48 (get_or bs i 0)) (leb (get_or bs i 0) 57) (le-leb 48 (get_or bs i 0) lo)
        (le-leb (get_or bs i 0) 57 hi));
    value = d.value ∙ rw (drop-cons bs i 0 h, add-one i);
  }

  -- all digits; the first is not 0, or it is the only one
  pub digits-all : (i n : ℕ) → 1 ≤ length bs → length bs ≤ most_digits → (length bs ≤ 1) ⊎ (get_or bs 0 0 ≡ 48 → ⊥)
      → length bs ≤ i → Digits bs i n → NumberRead bs (Some n)
  unfolding value_of
  digits-all i n lo hi lead h d =
      let is : is_number bs ≡ true =
      number-made bs
      (record {
        least = lo;
        most = hi;
        digits = d.digits ∙ all_end is_digit bs i h;
        lead = ⊎_elim (λ l. inl (omega arith)) (λ e. inr e) lead;
      }) in
      record {
        number = rw is;
        value = rw is (sym (d.value ∙ ap (λ (cs : List ℕ). value_from n cs) (drop_of_length-le bs h)));
      }
