-- The words in use, lent to a call and put back: the lent words are the wall, what the call left is the wall after it,
-- and the words beyond are as they were. Then what `open_wall` and `change_on` answer and leave. Of one store: crate
-- `session_plan`.
-- Assumes nothing.
use mathlib.Core.Bool.{true, false, not}
use mathlib.Core.List.{List, ◌++◌}
use mathlib.Core.Path.{◌≡◌, refl, sym, ap, subst}
use Prim.Native.Nat.{ℕ, min}
use native.Mathlib.Omega.{arith}
use lib.ListN.{length, take, drop}
use Rattle.lists.specs.Choice.{first_of}
use Rattle.lists.proofs.Choice.{refuse-passed, answer-next, answer-last}
use Rattle.interval.specs.declared.tuple.Tuple.{Tuple}
use Rattle.plan.specs.declared.Partitioning.{Partitioning}
use Rattle.rows.specs.declared.Side.{Side}
use Rattle.checks.specs.Stores.{Stores, stores}
use Rattle.refusal.specs.Refusal.{answer_number}
use Rattle.checks.specs.Answer.{Answer}
use Rattle.join.specs.Opening.{Opened}
use Rattle.join.specs.Changes.{Changed}
use Rattle.join.specs.declared.Kind.{Kind}
use Rattle.lines.specs.declared.Word.{Word}
use Rattle.lines.specs.declared.Word.TheVariants.{DrawIn, DrawOut, SpotIn, SpotOut}
use Rattle.session_plan.specs.Lanes.{plan_of, used_tuples, used_rows}
use Rattle.session_plan.specs.declared.Session.{Session}
use Rattle.session_plan.proofs.Words.{lent-used, back-used, back-left, back-same}
use Rattle.session.specs.Session.{wall_of, rest_of, kind_of, side_of, call_number, Called, change_line_number}
use Rattle.session.specs.Session.{WallOpening, WallChanging}

-- ---- a call's number, and that a refused one keeps the stores

pub called-number : (w : Word) (p : Partitioning) (t : Tuple) (S S' : Stores) (a : Answer) → Called w p t S S' a
    → answer_number a ≡ call_number w p t S
called-number DrawIn p t S S' a h = h.number
called-number DrawOut p t S S' a h = h.number
called-number SpotIn p t S S' a h = h.number
called-number SpotOut p t S S' a h = h.number

pub called-refused : (w : Word) (p : Partitioning) (t : Tuple) (S S' : Stores) (a : Answer) → Called w p t S S' a
    → (answer_number a ≡ 0 → ⊥) → S' ≡ S
called-refused DrawIn p t S S' a h ne = (h.refused ne).kept
called-refused DrawOut p t S S' a h ne = (h.refused ne).kept
called-refused SpotIn p t S S' a h ne = (h.refused ne).kept
called-refused SpotOut p t S S' a h ne = (h.refused ne).kept

-- a call of the word's kind and side
pub called-as : (w : Word) (k : Kind) (x : Side) (p : Partitioning) (t : Tuple) (S S' : Stores) (a : Answer)
    → k ≡ kind_of w → x ≡ side_of w → Changed k p x t S S' a → Called w p t S S' a
called-as w k x p t S S' a e f h =
    subst (λ (v : Side). Changed (kind_of w) p v t S S' a) f (subst (λ (v : Kind). Changed v p x t S S' a) e h)

-- ---- the three stores

module _ (s : Session) (a b c : ℕ) (o i r : List ℕ) (x : a ≡ min (used_tuples s) (length o))
    (y : b ≡ min (used_tuples s) (length i)) (z : c ≡ min (used_rows s) (length r)) where
  abbrev lent : Stores
  lent = stores (take a o) (take b i) (take c r)

  lent-wall : lent ≡ wall_of s (stores o i r)
  lent-wall =
      let lo = lent-used (used_tuples s) a o x in
      let li = lent-used (used_tuples s) b i y in
      let lr = lent-used (used_rows s) c r z in
      λ k. stores (lo k) (li k) (lr k)

  module _ (o' i' r' : List ℕ) (lo : length o' ≡ length (take a o)) (li : length i' ≡ length (take b i))
      (lr : length r' ≡ length (take c r)) where
    abbrev after : Stores
    after = stores (o' ++ drop a o) (i' ++ drop b i) (r' ++ drop c r)

    after-wall : stores o' i' r' ≡ wall_of s after
    after-wall =
        let bo = back-used (used_tuples s) a o x o' lo in
        let bi = back-used (used_tuples s) b i y i' li in
        let br = back-used (used_rows s) c r z r' lr in
        sym (λ k. stores (bo k) (bi k) (br k))

    after-rest : rest_of s after ≡ rest_of s (stores o i r)
    after-rest =
        let bo = back-left (used_tuples s) a o x o' lo in
        let bi = back-left (used_tuples s) b i y i' li in
        let br = back-left (used_rows s) c r z r' lr in
        λ k. stores (bo k) (bi k) (br k)

    after_kept : stores o' i' r' ≡ lent → after ≡ stores o i r
    after_kept e =
        let bo = back-same a o o' (ap (λ (w : Stores). w.outer) e) in
        let bi = back-same b i i' (ap (λ (w : Stores). w.inner) e) in
        let br = back-same c r r' (ap (λ (w : Stores). w.rows) e) in
        λ k. stores (bo k) (bi k) (br k)

    -- ---- open

    pub wall-opening : (p : Partitioning) (t : Answer) → p ≡ plan_of s → Opened p lent (stores o' i' r') t
        → WallOpening s (stores o i r) after (answer_number t)
    wall-opening p t e h =
        let g : Opened (plan_of s) (wall_of s (stores o i r)) (wall_of s after) t =
        subst (λ (w : Stores). Opened (plan_of s) w (wall_of s after) t) lent-wall
        (subst (λ (w : Stores). Opened (plan_of s) lent w t) after-wall
        (subst (λ (q : Partitioning). Opened q lent (stores o' i' r') t) e h)) in
        record {
          number = g.number;
          refused = λ ne. after_kept (h.refused ne);
          accepted = λ q. record { wall = g.accepted q; rest = after-rest };
        }

    -- ---- a change

    pub wall-changing : (w : Word) (p : Partitioning) (t : Tuple) (n : Answer) → s.complete ≡ true → p ≡ plan_of s
        → Called w p t lent (stores o' i' r') n → WallChanging s w t (stores o i r) after (answer_number n)
    unfolding change_line_number
    wall-changing w p t n d e h =
        let g : Called w (plan_of s) t (wall_of s (stores o i r)) (wall_of s after) n =
        subst (λ (v : Stores). Called w (plan_of s) t v (wall_of s after) n) lent-wall
        (subst (λ (v : Stores). Called w (plan_of s) t lent v n) after-wall
        (subst (λ (q : Partitioning). Called w q t lent (stores o' i' r') n) e h)) in
        record {
          number =
              answer-next _ (sym (refuse-passed (not s.complete) 16 (rw d))) refl
              (answer-last (called-number w (plan_of s) t (wall_of s (stores o i r)) (wall_of s after) n g));
          refused = λ ne. after_kept (called-refused w p t lent (stores o' i' r') n h ne);
          accepted = λ q. record { answer = n; number = q; wall = g; rest = after-rest };
        }

-- a change before the plan is complete
pub change-early : (s : Session) (w : Word) (t : Tuple) (S : Stores) → s.complete ≡ false → WallChanging s w t S S 16
unfolding change_line_number first_of
change-early s w t S e = record {
  number = rw e;
  refused = λ ne. refl;
  accepted = λ q. absurd (omega arith);
}
