-- Bytes of an unfinished line that are kept (`with_bytes`). In order: a reading that keeps what it has room for; what
-- `keep` writes; the reading after it.
-- Assumes nothing.
use mathlib.Core.List.{List, ◌++◌, append_assoc}
use mathlib.Core.Path.{◌≡◌, sym, ◌∙◌, ap, ap₂}
use Prim.Native.Nat.{ℕ, ◌+◌, ◌-◌, ◌≤◌, min}
use native.Mathlib.Omega.{arith}
use lib.ListN.{length, take, drop, length-append, length-drop, length-take}
use lib.Seq.{take-append-add, take-append_seam, length-take-le}
use Rattle.text_buffer.specs.Buffer.{Put}
use Rattle.session_plan.proofs.Words.{lent-used}
use Rattle.stream.specs.Taking.{kept_most, kept_bytes, onto, with_bytes}
use Rattle.stream.specs.declared.Reading.{Reading}

pub record Fits (s : Reading) : Type 0 where
  pub most : s.kept ≤ kept_most
  pub long : length s.line ≡ kept_most

-- ---- what is kept of more bytes

module _ (s : Reading) (bytes : List ℕ) (f : Fits s) (n : ℕ) (e : n ≡ min (kept_most - s.kept) (length bytes)) where
  kept-length : length (kept_bytes s) ≡ s.kept
  kept-length = length-take-le s.kept s.line (omega (arith, f.most, f.long))

  -- the kept bytes, and as many more as there is room for
  more-are : take kept_most (kept_bytes s ++ bytes) ≡ kept_bytes s ++ take n bytes
  more-are =
      let m : kept_most ≡ length (kept_bytes s) + (kept_most - s.kept) = omega (arith, kept-length, f.most) in
      ap (λ (i : ℕ). take i (kept_bytes s ++ bytes)) m
      ∙ take-append-add (kept_bytes s) bytes (kept_most - s.kept)
      ∙ ap (λ (l : List ℕ). kept_bytes s ++ l) (sym (lent-used (kept_most - s.kept) n bytes e))

  more-length : length (kept_bytes s ++ take n bytes) ≡ s.kept + n
  more-length =
      length-append (kept_bytes s) (take n bytes)
      ∙ ap₂ ◌+◌ kept-length (length-take-le n bytes (omega arith))

  -- `keep` puts them behind the kept ones
  pub keep-is : (line : List ℕ) (r : ℕ) → Put s.kept (take n bytes) s.line line r
      → record { session = s.session; lines = s.lines; kept = s.kept + n; line = line } ≡ with_bytes s bytes
  keep-is line r p =
      let long : length (take n bytes) ≡ n = length-take-le n bytes (omega arith) in
      let here : line ≡ onto (kept_bytes s ++ take n bytes) s.line =
      p.holds
      ∙ sym (append_assoc (kept_bytes s) (take n bytes) (drop (s.kept + length (take n bytes)) s.line))
      ∙ ap (λ (i : ℕ). (kept_bytes s ++ take n bytes) ++ drop i s.line)
      (ap (λ (i : ℕ). s.kept + i) long ∙ sym more-length) in
      ap₂ (λ (i : ℕ) (l : List ℕ). record { session = s.session; lines = s.lines; kept = i; line = l })
      (sym (ap length more-are ∙ more-length))
      (here ∙ ap (λ (k : List ℕ). onto k s.line) (sym more-are))

-- ---- the reading after it

pub kept-is : (s : Reading) (bytes : List ℕ) → kept_bytes (with_bytes s bytes) ≡ take kept_most (kept_bytes s ++ bytes)
kept-is s bytes = take-append_seam (take kept_most (kept_bytes s ++ bytes)) _

pub keep-fits : (s : Reading) (bytes : List ℕ) → Fits s → Fits (with_bytes s bytes)
keep-fits s bytes f =
    let k = take kept_most (kept_bytes s ++ bytes) in
    let most = length-take kept_most (kept_bytes s ++ bytes) in
    record {
      most = omega (arith, most);
      long =
          length-append k (drop (length k) s.line)
          ∙ omega (arith, length-drop (length k) s.line, most, f.long);
    }
