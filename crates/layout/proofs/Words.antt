-- Laws of the layout: last minutes as words and back; the plan that words say, and after last minutes are put into
-- them, which keeps its minimum; that nothing of a plan's words is lost.
-- Assumes nothing.
use mathlib.Core.List.{List, [], ◌∷◌, ◌++◌, append_assoc}
use mathlib.Core.Path.{◌≡◌, refl, sym, ◌∙◌, ap}
use Prim.Native.Nat.{ℕ, ◌+◌, ◌≤◌, ◌<◌}
use native.Mathlib.Omega.{arith}
use lib.ListN.{length, get_or, take, drop, length-take, length-drop, length-append, length-map, get_or-map}
use lib.ListN.{take-append-drop, drop_of_length-le}
use lib.Seq.{take_all, take_at, drop-cons, get_or-take, get_or-drop, get_or-append-add}
use Rattle.lists.proofs.Copies.{Copied}
use Rattle.interval.specs.declared.time.Chronon.{Chronon}
use Rattle.plan.specs.Plan.{most_partitions, numbers, with_cuts}
use Rattle.plan.specs.declared.Partitioning.{Partitioning}
use Rattle.layout.specs.Layout.{plan_head, minimum_place, plan_words, minutes, plan_in}

-- ---- last minutes as words

pub minutes-of-numbers : (ms : List Chronon) → minutes (numbers ms) ≡ ms
minutes-of-numbers [] = refl
minutes-of-numbers (m ∷ ms) = ap (λ (r : List Chronon). m ∷ r) (minutes-of-numbers ms)

pub numbers-of-minutes : (ws : List ℕ) → numbers (minutes ws) ≡ ws
numbers-of-minutes [] = refl
numbers-of-minutes (w ∷ ws) = ap (λ (r : List ℕ). w ∷ r) (numbers-of-minutes ws)

-- a plan's, from a place on: how many, and each
pub length-minutes-at : (from : ℕ) (ws : List ℕ) → from + most_partitions ≤ length ws
    → length (minutes (take most_partitions (drop from ws))) ≡ most_partitions
length-minutes-at from ws l = simp (length-map, length-take, length-drop) (omega arith)

pub minute-at : (from i : ℕ) (ws : List ℕ) → i < most_partitions
    → record { 0 = get_or ws (from + i) 0 } ≡ get_or (minutes (take most_partitions (drop from ws))) i (record { 0 = 0 })
minute-at from i ws l =
    sym
    (get_or-map (λ (m : ℕ). record { 0 = m }) (take most_partitions (drop from ws)) i 0
    ∙ ap (λ (m : ℕ). record { 0 = m }) (get_or-take most_partitions (drop from ws) i 0 l ∙ get_or-drop from ws i 0))

-- all words of a plan's last minutes
pub minutes-whole : (ws : List ℕ) → length ws ≡ most_partitions → minutes (take most_partitions (drop 0 ws)) ≡ minutes ws
minutes-whole ws e = ap minutes (take_all most_partitions ws (omega arith))

-- ---- a plan's words

-- the plan with these last minutes, and the rest from words
abbrev pub with_lasts : List ℕ → List Chronon → Partitioning
with_lasts ws lasts = record {
  count = get_or ws 0 0;
  lasts = lasts;
  tuples = get_or ws 1 0;
  rows = get_or ws 2 0;
  minimum = get_or ws minimum_place 0;
}

-- it is what the words say, where the last minutes are theirs
pub plan-said : (ws : List ℕ) (lasts : List Chronon) → lasts ≡ minutes (take most_partitions (drop plan_head ws))
    → with_lasts ws lasts ≡ plan_in ws
unfolding plan_in
plan-said ws lasts e = ap (with_lasts ws) e

-- the words once last minutes are put into them: those before these and those after, the minimum, are as they were
abbrev pub put_lasts : List ℕ → List Chronon → List ℕ
put_lasts ws lasts = take plan_head ws ++ (numbers lasts ++ drop minimum_place ws)

-- all are copied
pub put_all : (ws plan : List ℕ) (lasts : List Chronon) (i : ℕ) → length lasts ≡ most_partitions → most_partitions ≤ i
    → Copied ws plan_head (numbers lasts) i plan → plan ≡ put_lasts ws lasts
put_all ws plan lasts i l h s =
    let many : length (numbers lasts) ≡ most_partitions = length-map lasts (λ (m : Chronon). m.0) ∙ l in
    let end : plan_head + i ≡ minimum_place = omega (arith, many, s.upto) in
    s.holds
    ∙ ap (λ (k : ℕ). (take plan_head ws ++ take i (numbers lasts)) ++ drop k ws) end
    ∙ ap (λ (r : List ℕ). (take plan_head ws ++ r) ++ drop minimum_place ws) (take_all i (numbers lasts) (omega arith))
    ∙ append_assoc (take plan_head ws) (numbers lasts) (drop minimum_place ws)

-- and the plan that they say: it has these last minutes, and the lane count, the capacities and the minimum of before
pub plan-put : (ws : List ℕ) (lasts : List Chronon) → length ws ≡ plan_words → length lasts ≡ most_partitions
    → plan_in (put_lasts ws lasts) ≡ with_lasts ws lasts
unfolding plan_in
plan-put [] lasts e l = absurd (omega arith)
plan-put (a ∷ []) lasts e l = absurd (omega arith)
plan-put (a ∷ (b ∷ [])) lasts e l = absurd (omega arith)
plan-put (a ∷ (b ∷ (c ∷ ws))) lasts e l =
    let after = drop most_partitions ws in
    let many : length (numbers lasts) ≡ most_partitions = length-map lasts (λ (m : Chronon). m.0) ∙ l in
    let put : minutes (take most_partitions (numbers lasts ++ after)) ≡ lasts =
    ap minutes (take_at (numbers lasts) after most_partitions many) ∙ minutes-of-numbers lasts in
    let kept : get_or (numbers lasts ++ after) most_partitions 0 ≡ get_or ws most_partitions 0 =
    ap (λ (k : ℕ). get_or (numbers lasts ++ after) k 0) (omega (arith, many))
    ∙ get_or-append-add (numbers lasts) after 0 0
    ∙ get_or-drop most_partitions ws 0 0 in
    λ k. record { count = a; lasts = put k; tuples = b; rows = c; minimum = kept k }

-- the words of a plan, and that nothing of them is lost
abbrev pub words_in : Partitioning → List ℕ
words_in p = p.count ∷ (p.tuples ∷ (p.rows ∷ (numbers p.lasts ++ (p.minimum ∷ []))))

pub plan-words : (ws : List ℕ) → length ws ≡ plan_words → words_in (plan_in ws) ≡ ws
unfolding plan_in
plan-words [] e = absurd (omega arith)
plan-words (a ∷ []) e = absurd (omega arith)
plan-words (a ∷ (b ∷ [])) e = absurd (omega arith)
plan-words (a ∷ (b ∷ (c ∷ ws))) e =
    let last : get_or ws most_partitions 0 ∷ [] ≡ drop most_partitions ws =
    sym
    (drop-cons ws most_partitions 0 (omega arith)
    ∙ ap (λ (r : List ℕ). get_or ws most_partitions 0 ∷ r)
    (drop_of_length-le ws {i = most_partitions + 1} (omega arith))) in
    ap (λ (r : List ℕ). a ∷ (b ∷ (c ∷ r)))
    (ap (λ (r : List ℕ). r ++ (get_or ws most_partitions 0 ∷ [])) (numbers-of-minutes (take most_partitions ws))
    ∙ ap (λ (r : List ℕ). take most_partitions ws ++ r) last
    ∙ take-append-drop most_partitions ws)

pub plan-words-whole : (ws vs : List ℕ) → length ws ≡ plan_words → length vs ≡ plan_words → plan_in ws ≡ plan_in vs
    → ws ≡ vs
plan-words-whole ws vs e f h = sym (plan-words ws e) ∙ ap words_in h ∙ plan-words vs f

-- ---- new last minutes put into the words: they say the plan with these

module _ (ws : List ℕ) (e : length ws ≡ plan_words) where
  put_back : (lasts : List Chronon) (q : Partitioning) → length lasts ≡ most_partitions → q ≡ with_lasts ws lasts
      → plan_in (put_lasts ws q.lasts) ≡ q
  put_back lasts q l h =
      ap (λ (r : Partitioning). plan_in (put_lasts ws r.lasts)) h ∙ plan-put ws lasts e l ∙ sym h

  pub plan-put-cuts : (new : List Chronon) (q : Partitioning) → length new ≡ most_partitions
      → q ≡ with_cuts (plan_in ws) new
      → plan_in (put_lasts ws q.lasts) ≡ q
  unfolding with_cuts plan_in
  plan-put-cuts new q l h =
      let n = get_or ws 0 0 in
      let old = minutes (take most_partitions (drop plan_head ws)) in
      let long = length-minutes-at plan_head ws (omega arith) in
      put_back (take n new ++ drop n old) q
      (simp (length-append, length-take, length-drop) (omega arith)) h
