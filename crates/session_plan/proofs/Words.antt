-- The words in use of one store, lent to a call and put back: the lent words are those in use, what the call left is in
-- their place, and the words beyond are as they were.
-- Assumes nothing.
use mathlib.Core.List.{List, ◌++◌, append-nil}
use mathlib.Core.Logic.{⊎_elim}
use mathlib.Core.Path.{◌≡◌, sym, ◌∙◌}
use Prim.Native.Nat.{ℕ, ◌≤◌, ◌<◌, min}
use native.Mathlib.Omega.{arith}
use lib.ListN.{length, take, drop, length-take, take-append-drop, drop_of_length-le}
use lib.Seq.{take_all, take_at, drop_at}
use Rattle.plan.proofs.Homes.{le-or-lt}

-- n words are in use, or all where there are fewer; a of them are lent
module _ (n a : ℕ) (ws : List ℕ) (e : a ≡ min n (length ws)) where
  pub lent-long : a ≡ length (take a ws)
  lent-long = omega (arith, length-take a ws)

  pub lent-used : take a ws ≡ take n ws
  lent-used = ⊎_elim enough short (le-or-lt n (length ws))
    where
      enough : n ≤ length ws → take a ws ≡ take n ws
      enough h = let same : a ≡ n = omega arith in rw same

      short : length ws < n → take a ws ≡ take n ws
      short h = take_all a ws (omega arith) ∙ sym (take_all n ws (omega arith))

  -- ys comes back in their place
  module _ (ys : List ℕ) (l : length ys ≡ length (take a ws)) where
    long : length ys ≡ a
    long = l ∙ sym lent-long

    pub back-used : take n (ys ++ drop a ws) ≡ ys
    back-used = ⊎_elim enough short (le-or-lt n (length ws))
      where
        enough : n ≤ length ws → take n (ys ++ drop a ws) ≡ ys
        enough h = take_at ys (drop a ws) n (omega (arith, long))

        short : length ws < n → take n (ys ++ drop a ws) ≡ ys
        short h =
            rw (drop_of_length-le ws {i = a} (omega arith), append-nil ys) (take_all n ys (omega (arith, long)))

    pub back-left : drop n (ys ++ drop a ws) ≡ drop n ws
    back-left = ⊎_elim enough short (le-or-lt n (length ws))
      where
        enough : n ≤ length ws → drop n (ys ++ drop a ws) ≡ drop n ws
        enough h = let same : a ≡ n = omega arith in drop_at ys (drop a ws) n (omega (arith, long)) ∙ rw same

        short : length ws < n → drop n (ys ++ drop a ws) ≡ drop n ws
        short h =
            rw (drop_of_length-le ws {i = a} (omega arith), append-nil ys)
            (drop_of_length-le ys {i = n} (omega (arith, long)) ∙ sym (drop_of_length-le ws {i = n} (omega arith)))

-- put back as they were
pub back-same : (a : ℕ) (ws ys : List ℕ) → ys ≡ take a ws → ys ++ drop a ws ≡ ws
back-same a ws ys e = rw e (take-append-drop a ws)
