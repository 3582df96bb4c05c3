-- Cutting decides nothing, and neither does keeping 81 bytes of an unfinished line at most.
-- In order: an input cut in two; bytes without a byte 10 in front of others; what is kept of them; lines one after the
-- other; the rest's refusal.
-- Assumes nothing.
use mathlib.Core.Bool.{Bool, true, false, true≢false}
use mathlib.Core.List.{List, [], ◌∷◌, ◌++◌, map}
use mathlib.Core.Logic.{⊎_elim}
use mathlib.Core.Path.{◌≡◌, refl, sym, ◌∙◌, ap}
use Prim.Native.Nat.{ℕ, zero, suc, ◌≤◌, ◌<◌}
use native.Mathlib.Omega.{arith}
use lib.Dec.{leb}
use lib.ListN.{length, take}
use lib.Seq.{take_all, length-take-le}
use borrow.Author.Tests.{lt-leb}
use Rattle.lists.specs.Choice.{pick}
use Rattle.lists.specs.Members.{any}
use Rattle.lists.proofs.Choice.{or-neither-left, or-neither-right, pick-false}
use Rattle.lists.proofs.Members.{any_append}
use Rattle.plan.proofs.Homes.{le-or-lt}
use Rattle.lines.specs.Fields.{fields_of}
use Rattle.lines.specs.Line.{line_length, line_of, form_of}
use Rattle.lines.specs.declared.Line.{Line}
use Rattle.lines.specs.declared.Line.TheVariants.{Malformed}
use Rattle.refusal_text.specs.Refusals.{unfinished_text}
use Rattle.stream.specs.Input.{is_end, in_front, finished_lines, unfinished, values_of, values_after, rest_after}
use Rattle.stream.specs.Taking.{kept_most}

-- ---- an input cut in two

pub none-finished : (u : List ℕ) → any is_end u ≡ false → finished_lines u ≡ []
none-finished [] e = refl
none-finished (b ∷ u) e =
    rw (or-neither-left (is_end b) (any is_end u) e, none-finished u (or-neither-right (is_end b) (any is_end u) e))

-- bytes with a byte 10 finish a line
some-finished : (u : List ℕ) → any is_end u ≡ true → finished_lines u ≡ [] → ⊥
some-finished [] e z = absurd (true≢false (sym e))
some-finished (c ∷ u) e z = go (is_end c) (finished_lines u) refl refl (some-finished u)
  where
    go : (p : Bool) (ks : List (List ℕ)) → is_end c ≡ p → finished_lines u ≡ ks
        → (any is_end u ≡ true → finished_lines u ≡ [] → ⊥) → ⊥
    go true ks f g h = let w : [] ∷ finished_lines u ≡ [] = rw f at z in omega (arith, ap length w)
    go false [] f g h = h (rw f at e) g
    go false (k ∷ ks) f g h = let w : (c ∷ k) ∷ ks ≡ [] = rw (f, g) at z in omega (arith, ap length w)

-- so that a byte in front of them stands in their first
in-front : (b : List ℕ) (ks ls : List (List ℕ)) → (ks ≡ [] → ⊥) → in_front b (ks ++ ls) ≡ in_front b ks ++ ls
in-front b [] ls h = absurd (h refl)
in-front b (k ∷ ks) ls h = refl

cut-lines : (xs ys : List ℕ) → finished_lines (xs ++ ys) ≡ finished_lines xs ++ finished_lines (unfinished xs ++ ys)
cut-lines [] ys = refl
cut-lines (b ∷ xs) ys = go (is_end b) (any is_end xs) refl refl (cut-lines xs ys)
  where
    go : (p q : Bool) → is_end b ≡ p → any is_end xs ≡ q
        → finished_lines (xs ++ ys) ≡ finished_lines xs ++ finished_lines (unfinished xs ++ ys)
        → finished_lines (b ∷ (xs ++ ys)) ≡ finished_lines (b ∷ xs) ++ finished_lines (unfinished (b ∷ xs) ++ ys)
    go true q e f h = rw e (ap (λ (ls : List (List ℕ)). [] ∷ ls) h)
    go false true e f h =
        rw (e, f) (ap (in_front (b ∷ [])) h ∙ in-front (b ∷ []) (finished_lines xs) _ (some-finished xs f))
    go false false e f h = rw (e, f, none-finished xs f, e)

pub cut-rest : (xs ys : List ℕ) → unfinished (xs ++ ys) ≡ unfinished (unfinished xs ++ ys)
cut-rest [] ys = refl
cut-rest (b ∷ xs) ys = go (is_end b) (any is_end xs) refl refl (cut-rest xs ys)
  where
    go : (p q : Bool) → is_end b ≡ p → any is_end xs ≡ q → unfinished (xs ++ ys) ≡ unfinished (unfinished xs ++ ys)
        → unfinished (b ∷ (xs ++ ys)) ≡ unfinished (unfinished (b ∷ xs) ++ ys)
    go true q e f h = rw e h
    go false true e f h = rw (e, any_append is_end xs ys, f) h
    go false false e f h = rw (e, f, e)

-- the unfinished rest has no byte 10
pub rest-none : (bs : List ℕ) → any is_end (unfinished bs) ≡ false
rest-none [] = refl
rest-none (b ∷ bs) = go (any is_end (b ∷ bs)) refl (rest-none bs)
  where
    go : (p : Bool) → any is_end (b ∷ bs) ≡ p → any is_end (unfinished bs) ≡ false
        → any is_end (pick p (unfinished bs) (b ∷ bs)) ≡ false
    go true e h = h
    go false e h = e

-- ---- bytes without a byte 10 in front of others

pub none_rest : (v : List ℕ) → any is_end v ≡ false → unfinished v ≡ v
none_rest [] e = refl
none_rest (b ∷ v) e = rw e

pub front-lines : (u v : List ℕ) → any is_end u ≡ false → finished_lines (u ++ v) ≡ in_front u (finished_lines v)
front-lines [] v e = go (finished_lines v)
  where
    go : (ls : List (List ℕ)) → ls ≡ in_front [] ls
    go [] = refl
    go (l ∷ ls) = refl
front-lines (b ∷ u) v e =
    rw (or-neither-left (is_end b) (any is_end u) e, front-lines u v (or-neither-right (is_end b) (any is_end u) e))
    (go (finished_lines v))
  where
    go : (ls : List (List ℕ)) → in_front (b ∷ []) (in_front u ls) ≡ in_front (b ∷ u) ls
    go [] = refl
    go (l ∷ ls) = refl

pub front_rest : (u v : List ℕ) → any is_end u ≡ false → unfinished (u ++ v) ≡ pick (any is_end v) (unfinished v) (u ++ v)
front_rest [] v e = go (any is_end v) refl
  where
    go : (p : Bool) → any is_end v ≡ p → unfinished v ≡ pick p (unfinished v) v
    go true f = refl
    go false f = none_rest v f
front_rest (b ∷ u) v e =
    rw (or-neither-left (is_end b) (any is_end u) e, any_append is_end u v, or-neither-right (is_end b) (any is_end u) e)
    (go (any is_end v) (front_rest u v (or-neither-right (is_end b) (any is_end u) e)))
  where
    go : (p : Bool) → unfinished (u ++ v) ≡ pick p (unfinished v) (u ++ v)
        → pick p (unfinished (u ++ v)) (b ∷ (u ++ v)) ≡ pick p (unfinished v) (b ∷ (u ++ v))
    go true f = f
    go false f = refl

-- ---- what is kept of them

pub take-front : (n : ℕ) (u v : List ℕ) → take n (take n u ++ v) ≡ take n (u ++ v)
take-front zero u v = refl
take-front (suc n) [] v = refl
take-front (suc n) (x ∷ u) v = ap (λ (l : List ℕ). x ∷ l) (take-front n u v)

-- a line of 81 bytes or more is not of the form
long-line : (l : List ℕ) → 81 ≤ length l → line_of l ≡ Malformed
unfolding line_of
long-line l h = pick-false (leb (length l) line_length) (form_of (fields_of l)) Malformed (lt-leb (length l) line_length h)

kept_line : (l : List ℕ) → line_of (take kept_most l) ≡ line_of l
kept_line l = ⊎_elim long short (le-or-lt 81 (length l))
  where
    long : 81 ≤ length l → line_of (take kept_most l) ≡ line_of l
    long h =
        long-line (take kept_most l) (omega (arith, length-take-le kept_most l h)) ∙ sym (long-line l h)

    short : length l < 81 → line_of (take kept_most l) ≡ line_of l
    short h = ap line_of (take_all kept_most l (omega arith))

kept-front : (u l : List ℕ) → line_of (take kept_most u ++ l) ≡ line_of (u ++ l)
kept-front u l =
    sym (kept_line (take kept_most u ++ l)) ∙ ap line_of (take-front kept_most u l) ∙ kept_line (u ++ l)

-- lines after what is kept have the values of those after all of it
pub kept-first : (u : List ℕ) (ls : List (List ℕ))
    → map line_of (in_front (take kept_most u) ls) ≡ map line_of (in_front u ls)
kept-first u [] = refl
kept-first u (l ∷ ls) = ap (λ (k : Line). k ∷ map line_of ls) (kept-front u l)

pub kept-values : (u v : List ℕ) → any is_end u ≡ false → values_after (take kept_most u) v ≡ values_of (u ++ v)
kept-values u v e = kept-first u (finished_lines v) ∙ sym (ap (map line_of) (front-lines u v e))

pub kept-rest : (u v : List ℕ) → any is_end u ≡ false
    → take kept_most (rest_after (take kept_most u) v) ≡ take kept_most (unfinished (u ++ v))
kept-rest u v e = go (any is_end v) ∙ sym (ap (take kept_most) (front_rest u v e))
  where
    go : (p : Bool)
        → take kept_most (pick p (unfinished v) (take kept_most u ++ v)) ≡ take kept_most (pick p (unfinished v) (u ++ v))
    go true = refl
    go false = take-front kept_most u v

-- ---- lines one after the other

map-append : (xs ys : List (List ℕ)) → map line_of (xs ++ ys) ≡ map line_of xs ++ map line_of ys
map-append [] ys = refl
map-append (x ∷ xs) ys = ap (λ (ls : List Line). line_of x ∷ ls) (map-append xs ys)

pub cut-values : (xs ys : List ℕ) → values_of (xs ++ ys) ≡ values_of xs ++ values_of (unfinished xs ++ ys)
cut-values xs ys =
    ap (map line_of) (cut-lines xs ys) ∙ map-append (finished_lines xs) (finished_lines (unfinished xs ++ ys))

pub rest-kept : (n : ℕ) (u : List ℕ) → unfinished_text n (take kept_most u) ≡ unfinished_text n u
unfolding unfinished_text
rest-kept n [] = refl
rest-kept n (b ∷ u) = refl
