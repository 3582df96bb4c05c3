-- What is left of a part, from a reading and a place in the text on (`PartAt`).
-- In order: the end of a part, which finishes no line; bytes that are kept, in front; a byte 10 in front; the whole.
-- Assumes nothing.
use mathlib.Core.Bool.{Bool, true, false}
use mathlib.Core.List.{List, [], ◌∷◌, ◌++◌, map, append-nil, append_assoc}
use mathlib.Core.Path.{◌≡◌, refl, sym, ◌∙◌, ap, ap₂, subst}
use Prim.Native.Nat.{ℕ, ◌+◌, ◌-◌, ◌≤◌}
use native.Mathlib.Nat.{zero-add}
use native.Mathlib.Omega.{arith}
use lib.ListN.{length, take, drop, length-append, length-take}
use lib.Seq.{drop-append-add, drop-drop}
use Rattle.lists.specs.Choice.{pick}
use Rattle.lists.specs.Members.{any}
use Rattle.lists.proofs.Choice.{pick_same}
use Rattle.lists.proofs.Members.{any_append}
use Rattle.refusal.specs.Refusal.{answer_number}
use Rattle.checks.specs.Stores.{Stores}
use Rattle.lines.specs.Line.{line_of}
use Rattle.lines.specs.declared.Line.{Line}
use Rattle.text_buffer.specs.Buffer.{written, Put}
use Rattle.text_buffer.proofs.Writing.{written-more, put-none}
use Rattle.refusal_text.specs.Refusals.{answer_text, refusal_room, next_line, line_count, refusals}
use Rattle.refusal_text.proofs.Refusals.{answer-length}
use Rattle.session.specs.Session.{stepped_to}
use Rattle.stream.specs.Input.{is_end, in_front, finished_lines, unfinished, values_after, rest_after}
use Rattle.stream.specs.Taking.{Steps, none, then, kept_most, blank_line, kept_bytes, onto, kept_after}
use Rattle.stream.specs.Taking.{between_lines, with_bytes, LineEnded, PartTaken}
use Rattle.stream.specs.declared.Reading.{Reading}
use Rattle.stream.specs.declared.Taken.{Taken}
use Rattle.stream.proofs.Cuts.{none-finished, none_rest, front-lines, front_rest, take-front, kept-first}
use Rattle.stream.proofs.Keeping.{kept-is}

pub record PartAt (s : Reading) (part : List ℕ) (at : ℕ) (out : List ℕ) (S : Stores) (out' : List ℕ) (S' : Stores)
    (r : Taken) : Type 0 where
  pub numbers : List ℕ
  pub steps : Steps s.session S (values_after (kept_bytes s) part) numbers r.reading.session S'
  pub lines : r.reading.lines ≡ line_count s.lines numbers
  pub kept : r.reading.kept ≡ length (kept_after s part)
  pub line : r.reading.line ≡ onto (kept_after s part) (pick (any is_end part) blank_line s.line)
  pub put : Put at (refusals s.lines numbers) out out' r.bytes

-- ---- the end of a part: no byte 10, so all of it is kept

pub part_end : (s : Reading) (rest : List ℕ) (at : ℕ) (out : List ℕ) (S : Stores) → any is_end rest ≡ false
    → PartAt s rest at out S out S (record { reading = with_bytes s rest; bytes = at })
part_end s rest at out S e =
    let values : [] ≡ values_after (kept_bytes s) rest =
    ap (λ (ls : List (List ℕ)). map line_of (in_front (kept_bytes s) ls)) (sym (none-finished rest e)) in
    record {
      numbers = [];
      steps = subst (λ (ls : List Line). Steps s.session S ls [] s.session S) values none;
      lines = refl;
      kept = rw e;
      line = rw e;
      put = put-none at out;
    }

-- ---- bytes without a byte 10 in front: they are kept

front-front : (k u : List ℕ) (ls : List (List ℕ)) → in_front k (in_front u ls) ≡ in_front (k ++ u) ls
front-front k u [] = refl
front-front k u (l ∷ ls) = ap (λ (x : List ℕ). x ∷ ls) (sym (append_assoc k u l))

-- what is put over a longer start of a buffer
onto-over : (K k base : List ℕ) → length k ≤ length K → onto K (onto k base) ≡ onto K base
onto-over K k base h =
    let m = length K - length k in
    let n : length K ≡ length k + m = omega arith in
    ap (λ (i : ℕ). K ++ drop i (k ++ drop (length k) base)) n
    ∙ ap (λ (l : List ℕ). K ++ l) (drop-append-add k (drop (length k) base) m ∙ drop-drop m (length k) base)
    ∙ ap (λ (i : ℕ). K ++ drop i base) (sym n)

module _ (s : Reading) (u ys : List ℕ) (e : any is_end u ≡ false) where
  any-rest : any is_end (u ++ ys) ≡ any is_end ys
  any-rest = any_append is_end u ys ∙ rw e

  run-values : values_after (kept_bytes (with_bytes s u)) ys ≡ values_after (kept_bytes s) (u ++ ys)
  run-values =
      ap (λ (l : List ℕ). values_after l ys) (kept-is s u)
      ∙ kept-first (kept_bytes s ++ u) (finished_lines ys)
      ∙ ap (map line_of)
      (sym (front-front (kept_bytes s) u (finished_lines ys)) ∙ ap (in_front (kept_bytes s)) (sym (front-lines u ys e)))

  run-kept : kept_after (with_bytes s u) ys ≡ kept_after s (u ++ ys)
  run-kept =
      ap (λ (l : List ℕ). take kept_most (rest_after l ys)) (kept-is s u)
      ∙ go (any is_end ys)
      ∙ sym
      (ap₂ (λ (p : Bool) (l : List ℕ). take kept_most (pick p l (kept_bytes s ++ (u ++ ys)))) any-rest
      (front_rest u ys e))
    where
      go : (p : Bool)
          → take kept_most (pick p (unfinished ys) (take kept_most (kept_bytes s ++ u) ++ ys))
          ≡ take kept_most (pick p (pick p (unfinished ys) (u ++ ys)) (kept_bytes s ++ (u ++ ys)))
      go true = refl
      go false = take-front kept_most (kept_bytes s ++ u) ys ∙ ap (take kept_most) (append_assoc (kept_bytes s) u ys)

  run-line : onto (kept_after (with_bytes s u) ys) (pick (any is_end ys) blank_line (with_bytes s u).line)
      ≡ onto (kept_after s (u ++ ys)) (pick (any is_end (u ++ ys)) blank_line s.line)
  run-line =
      go (any is_end ys) refl
      ∙ ap₂ (λ (k : List ℕ) (p : Bool). onto k (pick p blank_line s.line)) run-kept (sym any-rest)
    where
      -- what was kept before is put over
      longer : any is_end ys ≡ false
          → length (take kept_most (kept_bytes s ++ u)) ≤ length (kept_after (with_bytes s u) ys)
      longer f =
          let k = kept_bytes s ++ u in
          let is : kept_after (with_bytes s u) ys ≡ take kept_most (k ++ ys) =
          ap (λ (l : List ℕ). take kept_most (rest_after l ys)) (kept-is s u) ∙ rw f (take-front kept_most k ys) in
          omega (arith, ap length is, length-take kept_most (k ++ ys), length-take kept_most k, length-append k ys)

      go : (p : Bool) → any is_end ys ≡ p
          → onto (kept_after (with_bytes s u) ys) (pick p blank_line (with_bytes s u).line)
          ≡ onto (kept_after (with_bytes s u) ys) (pick p blank_line s.line)
      go true f = refl
      go false f =
          onto-over (kept_after (with_bytes s u) ys) (take kept_most (kept_bytes s ++ u)) s.line (longer f)

  pub part-run : (at : ℕ) (out : List ℕ) (S : Stores) (out' : List ℕ) (S' : Stores) (r : Taken)
      → PartAt (with_bytes s u) ys at out S out' S' r → PartAt s (u ++ ys) at out S out' S' r
  part-run at out S out' S' r p = record {
    numbers = p.numbers;
    steps =
        subst (λ (ls : List Line). Steps s.session S ls p.numbers r.reading.session S') run-values p.steps;
    lines = p.lines;
    kept = p.kept ∙ ap length run-kept;
    line = p.line ∙ run-line;
    put = p.put;
  }

-- ---- a byte 10 in front: the line's step

module _ (s : Reading) (b : ℕ) (ys : List ℕ) (e : is_end b ≡ true) where
  line-values : line_of (kept_bytes s) ∷ map line_of (in_front [] (finished_lines ys)) ≡ values_after (kept_bytes s) (b ∷ ys)
  line-values =
      ap₂ (λ (l : List ℕ) (ls : List (List ℕ)). line_of l ∷ map line_of ls) (sym (append-nil (kept_bytes s)))
      (go (finished_lines ys))
      ∙ rw e refl
    where
      go : (ls : List (List ℕ)) → in_front [] ls ≡ ls
      go [] = refl
      go (l ∷ ls) = refl

  line_kept : take kept_most (rest_after [] ys) ≡ kept_after s (b ∷ ys)
  line_kept = rw e (ap (take kept_most) (go (any is_end ys) refl))
    where
      go : (p : Bool) → any is_end ys ≡ p → pick p (unfinished ys) ys ≡ unfinished ys
      go true f = refl
      go false f = sym (none_rest ys f)

  line-line : onto (take kept_most (rest_after [] ys)) (pick (any is_end ys) blank_line blank_line)
      ≡ onto (kept_after s (b ∷ ys)) (pick (any is_end (b ∷ ys)) blank_line s.line)
  line-line = ap₂ onto line_kept (pick_same (any is_end ys) blank_line ∙ rw e refl)

  pub part-line : (at : ℕ) (out : List ℕ) (S : Stores) (out₁ : List ℕ) (S₁ : Stores) (t : Taken) (out' : List ℕ)
      (S' : Stores) (r : Taken) → at + refusal_room ≤ length out → LineEnded s at out S out₁ S₁ t
      → PartAt t.reading ys t.bytes out₁ S₁ out' S' r → PartAt s (b ∷ ys) at out S out' S' r
  part-line at out S out₁ S₁ t out' S' r room l p =
      let k = answer_number l.stepped in
      let n = next_line s.lines in
      let v = between_lines (stepped_to s.session l.stepped) n in
      let q : PartAt v ys t.bytes out₁ S₁ out' S' r =
      subst (λ (u : Reading). PartAt u ys t.bytes out₁ S₁ out' S' r) l.reading p in
      let text = answer_text n k in
      let more = refusals n q.numbers in
      record {
        numbers = k ∷ q.numbers;
        steps =
            subst (λ (ls : List Line). Steps s.session S ls (k ∷ q.numbers) r.reading.session S') line-values
            (then l.step q.steps);
        lines = q.lines;
        kept = q.kept ∙ ap length line_kept;
        line = q.line ∙ line-line;
        put = record {
          holds =
              q.put.holds
              ∙ ap₂ (λ (i : ℕ) (o : List ℕ). written i more o) l.text.place l.text.holds
              ∙ written-more at text out (omega (arith, answer-length n k)) more;
          place =
              q.put.place
              ∙ ap (λ (i : ℕ). i + length more) l.text.place
              ∙ omega (arith, length-append text more);
        };
      }

-- ---- the whole part

pub part-whole : (s : Reading) (part out : List ℕ) (S : Stores) (out' : List ℕ) (S' : Stores) (r : Taken)
    → PartAt s part 0 out S out' S' r → PartTaken s part out S out' S' r
part-whole s part out S out' S' r p =
    let text = refusals s.lines p.numbers in
    record {
      numbers = p.numbers;
      steps = p.steps;
      lines = p.lines;
      kept = p.kept;
      line = p.line;
      text = p.put.holds ∙ ap (λ (n : ℕ). text ++ drop n out) (zero-add (length text));
      bytes = p.put.place ∙ zero-add (length text);
    }
