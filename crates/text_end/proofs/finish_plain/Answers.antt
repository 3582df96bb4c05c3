-- `text_end::finish_plain` meets its contract.
-- Assumes nothing.
use mathlib.Core.List.{List, ◌++◌}
use mathlib.Core.Path.{◌∙◌, ap, ap₂}
use Prim.Native.Nat.{ℕ, ◌+◌, ◌≤◌}
use native.Mathlib.Omega.{arith}
use lib.ListN.{length, length-append}
use Rattle.lines.specs.Fields.{digits_of}
use Rattle.report.specs.Text.{count_line}
use Rattle.text_buffer.specs.Buffer.{written, Put}
use Rattle.text_buffer.proofs.Writing.{written-more}
use Rattle.text_end.proofs.finish_plain.Goals as goal

both : (rest out now out' : List ℕ) (at r : ℕ) → 0 + length rest ≤ length out → Put 0 rest out now at
    → Put at (count_line 0) now out' r → Put 0 (rest ++ count_line 0) out out' r
both rest out now out' at r room p q = record {
  holds =
      q.holds
      ∙ ap₂ (λ (i : ℕ) (o : List ℕ). written i (count_line 0) o) p.place p.holds
      ∙ written-more 0 rest out room (count_line 0);
  place =
      q.place
      ∙ ap (λ (i : ℕ). i + length (count_line 0)) p.place
      ∙ omega (arith, length-append rest (count_line 0));
}

pub returns : goal.returns
unfolding count_line digits_of
returns c = both _ _ _ _ _ _ (omega arith) c.put_bytes-at.ensures c.put_bytes.ensures
