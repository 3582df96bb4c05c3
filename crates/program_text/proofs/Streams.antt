-- The theorem of the program's text, proved: `streamed`; and what follows from it.
-- In order: what parts leave (`reads_kept`); what the end of the input prints; the theorem; cuts and prefixes; laws of
-- the definitions.
-- Assumes nothing.
use mathlib.Core.Bool.{Bool, true, false}
use mathlib.Core.List.{List, [], ◌∷◌, ◌++◌, map, append_assoc}
use mathlib.Core.Path.{◌≡◌, refl, sym, ◌∙◌, ap, ap₂, subst}
use Prim.Native.Nat.{ℕ, ◌+◌, ◌-◌, ◌*◌, ◌≤◌}
use native.Mathlib.Omega.{arith}
use lib.Dec.{ltb}
use lib.ListN.{length, take, drop, length-take, length-drop}
use lib.Seq.{take-append_seam, take-add}
use borrow.Author.Tests.{le-ltb, lt-ltb}
use Rattle.std.specs.Prelude.{Result}
use Rattle.lists.specs.Choice.{pick, refuse_if, first_of}
use Rattle.rows.specs.Join.{join_of}
use Rattle.refusal.specs.Refusal.{answer_number}
use Rattle.refusal.specs.declared.Refusal.{Refusal}
use Rattle.checks.specs.Stores.{Stores}
use Rattle.history.proofs.Kept.{Kept}
use Rattle.lines.specs.Line.{line_of, in_capitals}
use Rattle.lines.specs.declared.Line.{Line}
use Rattle.lines.proofs.Printed.{capitals-read}
use Rattle.refusal_text.specs.Refusals.{refusal_room, last_line, line_count, refusals, unfinished_text}
use Rattle.refusal_text.proofs.Refusals.{unfinished-length, count-append, refusals-append}
use Rattle.report.specs.Text.{count_line}
use Rattle.report.specs.Report.{text_room, report_number, bytes_of}
use Rattle.session_plan.specs.Lanes.{wall_rows_most, fresh, plan_of, used_rows}
use Rattle.session_plan.specs.declared.Session.{Session}
use Rattle.session.specs.Session.{EightPartitions, wall_of}
use Rattle.text_end.specs.Ending.{Finished}
use Rattle.transcript.specs.Rows.{printed_rows}
use Rattle.transcript.proofs.Reported.{report-accepted}
use Rattle.transcript.proofs.Sessions.{rows-printed}
use Rattle.stream.specs.Input.{finished_lines, unfinished, values_of, values_after, rest_after}
use Rattle.stream.specs.Taking.{Steps, none, then, kept_most, kept_bytes, kept_after, PartTaken, taken_of, TakenBy}
use Rattle.stream.specs.Finishing.{rest_text, finish_room, finish_number, ReportAfter, NoReport, FinishedBy}
use Rattle.stream.specs.declared.Reading.{Reading}
use Rattle.stream.specs.declared.Taken.{Taken}
use Rattle.stream.proofs.Cuts.{cut-rest, cut-values, rest-none, kept-values, kept-rest, rest-kept}
use Rattle.stream.proofs.Takes.{take_whole}
use Rattle.program_text.specs.Text.{State, begun, machine_of, after, numbers_of, state_after, answer_to}
use Rattle.program_text.specs.Text.{report_text, text_of_lines, text_of_input}
use Rattle.program_text.specs.Streamed.{Reads, started, then as next, Prints, finished, input_of, Streamed}
use Rattle.program_text.specs.Streamed.{CutsDoNotMatter, Prefix, NeverRefused, KeptDecideNothing, Counted}
use Rattle.program_text.specs.Streamed.{CaseDoesNotMatter}
use Rattle.program_text.proofs.Agreeing.{Agrees, agrees-begun, steps-agree}

-- ---- what parts leave

steps-append : {s s' s'' : Session} {S S' S'' : Stores} {xs ys : List Line} {ms ns : List ℕ}
    → Steps s S xs ms s' S' → Steps s' S' ys ns s'' S'' → Steps s S (xs ++ ys) (ms ++ ns) s'' S''
steps-append none y = y
steps-append (then b x) y = then b (steps-append x y)

-- the lines so far, what was written of them, and what is kept of the next one
record ReadSo (S₀ : Stores) (input text : List ℕ) (s : Reading) (S : Stores) : Type 0 where
  numbers : List ℕ
  steps : Steps fresh S₀ (values_of input) numbers s.session S
  lines : s.lines ≡ line_count 0 numbers
  kept : s.kept ≡ length (take kept_most (unfinished input))
  bytes : kept_bytes s ≡ take kept_most (unfinished input)
  written : text ≡ refusals 0 numbers

module _ (S₀ : Stores) (input text part out out' : List ℕ) (s : Reading) (S S' : Stores)
    (r : Result Taken Refusal)
    (h : ReadSo S₀ input text s S) (room : refusal_room * length part ≤ length out)
    (t : TakenBy s part out S out' S' r) where
  take_none : answer_number r ≡ 0
  take_none =
      t.number
      ∙ sym
      (take_whole s (length part) (length out) (omega (arith, h.kept, length-take kept_most (unfinished input)))
      (omega arith))

  here : PartTaken s part out S out' S' (taken_of s r)
  here = t.accepted take_none

  -- the lines of the part, and what is kept after it, are those of the input
  values-are : values_after (kept_bytes s) part ≡ values_of (unfinished input ++ part)
  values-are =
      ap (λ (k : List ℕ). values_after k part) h.bytes ∙ kept-values (unfinished input) part (rest-none input)

  kept-are : kept_after s part ≡ take kept_most (unfinished (input ++ part))
  kept-are =
      ap (λ (k : List ℕ). take kept_most (rest_after k part)) h.bytes
      ∙ kept-rest (unfinished input) part (rest-none input)
      ∙ ap (take kept_most) (sym (cut-rest input part))

  read-part : ReadSo S₀ (input ++ part) (text ++ take (taken_of s r).bytes out') (taken_of s r).reading S'
  read-part =
      let ks = here.numbers in
      let s' = (taken_of s r).reading.session in
      let x = subst (λ (ls : List Line). Steps s.session S ls ks s' S') values-are here.steps in
      let more : take (taken_of s r).bytes out' ≡ refusals s.lines ks =
      ap₂ take here.bytes here.text ∙ take-append_seam (refusals s.lines ks) _ in
      record {
        numbers = h.numbers ++ ks;
        steps =
            subst (λ (ls : List Line). Steps fresh S₀ ls (h.numbers ++ ks) s' S') (sym (cut-values input part))
            (steps-append h.steps x);
        lines = here.lines ∙ ap (λ (n : ℕ). line_count n ks) h.lines ∙ sym (count-append 0 h.numbers ks);
        kept = here.kept ∙ ap length kept-are;
        bytes = ap₂ take here.kept here.line ∙ take-append_seam (kept_after s part) _ ∙ kept-are;
        written =
            ap₂ ◌++◌ h.written (more ∙ ap (λ (n : ℕ). refusals n ks) h.lines)
            ∙ sym (refusals-append 0 h.numbers ks);
      }

reads_kept : {S₀ : Stores} {parts : List (List ℕ)} {text : List ℕ} {s : Reading} {S : Stores}
    → Reads S₀ parts text s S → ReadSo S₀ (input_of parts) text s S
reads_kept started =
    record { numbers = []; steps = none; lines = refl; kept = refl; bytes = refl; written = refl }
reads_kept {S₀ = S₀}
    (next {parts = ps} {text = text} {s = s} {S = S} {S' = S'} {out = out} {out' = out'} {r = r} part x room t) =
    read-part S₀ (input_of ps) text part out out' s S S' r (reads_kept x) room t

-- ---- the end of the input, on a wall that agrees with a state

module _ (st : State) (s : Reading) (S : Stores) (out rows' out' : List ℕ) (r : Finished) (a : Agrees st S)
    (e : s.session ≡ st.session) (room : finish_room ≤ length out) (f : FinishedBy s S.rows out rows' out' r) where
  kept_here : s.session.complete ≡ true → Kept (machine_of st) (plan_of s.session) (wall_of s.session S)
  kept_here c = rw e (a.late (ap (λ (v : Session). v.complete) (sym e) ∙ c))

  finish-none : answer_number r ≡ 0
  unfolding finish_number first_of
  finish-none = f.number ∙ go s.session.complete refl
    where
      left : ℕ
      left = length out - length (rest_text s)

      go : (b : Bool) → s.session.complete ≡ b
          → first_of
          (refuse_if (ltb (length out) finish_room) 4
          ∷ (pick b (report_number (plan_of s.session) (take (used_rows s.session) S.rows) left) 0 ∷ []))
          ≡ 0
      go true c =
          rw (
            le-ltb (length out) finish_room room,
            report-accepted (machine_of st) s.session S (rw e a.good) (kept_here c) left
                (omega (arith, unfinished-length s.lines (kept_bytes s))),
          )
      go false c = rw (le-ltb (length out) finish_room room)

  -- what `finish` adds
  end-written : take (bytes_of r) out' ≡ rest_text s ++ report_text st
  unfolding report_text
  end-written = rw (← e) (go s.session.complete refl)
    where
      -- with the reading's session, which is the state's
      Goal : Bool → Type 0
      Goal b =
          take (bytes_of r) out'
          ≡ rest_text s
          ++ pick b (printed_rows (plan_of s.session) (join_of s.session.minimum st.outer st.inner))
          (count_line 0)

      with-report : s.session.complete ≡ true → ReportAfter s S.rows out rows' out' r → Goal true
      with-report c g =
          let n = length (rest_text s) in
          let enough : text_room wall_rows_most ≤ length (drop n out) =
          omega (arith, length-drop n out, unfinished-length s.lines (kept_bytes s)) in
          let p =
          rows-printed (machine_of st) s.session S (rw e a.good) (kept_here c) (drop n out)
          (take (used_rows s.session) rows') (drop n out') g.reported g.report enough in
          ap (λ (n : ℕ). take n out') g.bytes
          ∙ take-add n (bytes_of g.reported) out'
          ∙ ap₂ ◌++◌ g.rest (ap₂ take p.bytes p.text ∙ take-append_seam _ _)

      without-report : NoReport s S.rows out rows' out' r → Goal false
      without-report g = ap₂ take g.bytes g.text ∙ take-append_seam (rest_text s ++ count_line 0) _

      go : (b : Bool) → s.session.complete ≡ b → Goal b
      go true c = with-report c (f.complete finish-none c)
      go false c = without-report (f.incomplete finish-none c)

-- ---- the theorem

module _ (S₀ : Stores) (y : EightPartitions S₀) where
  sofar_is : (parts : List (List ℕ)) (text : List ℕ) (s : Reading) (S : Stores) → Reads S₀ parts text s S
      → text ≡ refusals 0 (numbers_of begun (values_of (input_of parts)))
  sofar_is parts text s S x =
      let h = reads_kept x in
      h.written ∙ ap (refusals 0) (steps-agree begun refl (agrees-begun S₀ y) h.steps).numbers

  whole_is : (parts : List (List ℕ)) (text : List ℕ) → Prints S₀ parts text → text ≡ text_of_input (input_of parts)
  unfolding text_of_input
  whole_is ps _
      (finished {text = text} {s = s} {S = S} {out = out} {rows' = rows'} {out' = out'} {r = r} x room f) =
      let h = reads_kept x in
      let values = values_of (input_of ps) in
      let last = unfinished (input_of ps) in
      let g = steps-agree begun refl (agrees-begun S₀ y) h.steps in
      let rest : rest_text s ≡ unfinished_text (line_count 0 (numbers_of begun values)) last =
      ap₂ unfinished_text (h.lines ∙ ap (line_count 0) g.numbers) h.bytes ∙ rest-kept _ last in
      ap₂ ◌++◌ (sofar_is ps text s S x)
      (end-written (state_after begun values) s S out rows' out' r g.agrees g.session room f
      ∙ ap (λ (t : List ℕ). t ++ report_text (state_after begun values)) rest)

pub streamed : Streamed
streamed S₀ y parts = record { sofar = sofar_is S₀ y parts; whole = whole_is S₀ y parts }

pub never-refused : NeverRefused
never-refused S₀ y parts text s S x =
    let h = reads_kept x in
    let g = steps-agree begun refl (agrees-begun S₀ y) h.steps in
    let st = state_after begun (values_of (input_of parts)) in
    record {
      taken = λ part out out' S' r room t. take_none S₀ (input_of parts) text part out out' s S S' r h room t;
      ended = λ out rows' out' r room f.
          finish-none st s S out rows' out' r g.agrees g.session room f;
    }

pub cuts-do-not-matter : CutsDoNotMatter
cuts-do-not-matter S₀ S₁ y z ps qs e text other p q =
    (streamed S₀ y ps).whole text p ∙ ap text_of_input e ∙ sym ((streamed S₁ z qs).whole other q)

-- ---- prefixes

numbers-append : (s : State) (xs ys : List Line)
    → numbers_of s (xs ++ ys) ≡ numbers_of s xs ++ numbers_of (state_after s xs) ys
numbers-append s [] ys = refl
numbers-append s (x ∷ xs) ys = ap (λ (ns : List ℕ). answer_to s x ∷ ns) (numbers-append (after s x) xs ys)

-- the refusals of an input's lines begin those of a longer one's
refusals-begin : (xs ys : List ℕ)
    → (rest : List ℕ)
    × (refusals 0 (numbers_of begun (values_of (xs ++ ys))) ≡ refusals 0 (numbers_of begun (values_of xs)) ++ rest)
refusals-begin xs ys =
    let now = numbers_of begun (values_of xs) in
    let values = values_of (unfinished xs ++ ys) in
    let later = numbers_of (state_after begun (values_of xs)) values in (
      refusals (line_count 0 now) later,
      ap (λ (ls : List Line). refusals 0 (numbers_of begun ls)) (cut-values xs ys)
          ∙ ap (refusals 0) (numbers-append begun (values_of xs) values)
          ∙ refusals-append 0 now later,
    )

-- and those of its whole text
longer : (t u rest end : List ℕ) → u ≡ t ++ rest → (more : List ℕ) × (u ++ end ≡ t ++ more)
longer t u rest end e = (rest ++ end, ap (λ (l : List ℕ). l ++ end) e ∙ append_assoc t rest end)

pub prefix-kept : Prefix
unfolding text_of_input
prefix-kept S₀ y parts text s S x more =
    let h = refusals-begin (input_of parts) more in
    let sofar = (streamed S₀ y parts).sofar text s S x in
    longer text _ h.0 _ (h.1 ∙ ap (λ (t : List ℕ). t ++ h.0) (sym sofar))

-- ---- laws of the definitions

pub kept-decide-nothing : KeptDecideNothing
kept-decide-nothing bytes part e = record {
  values = kept-values bytes part e;
  kept = kept-rest bytes part e;
  refusal = λ n. rest-kept n bytes;
}

count-from : (n : ℕ) (ns : List ℕ) → n + length ns ≤ last_line → line_count n ns ≡ n + length ns
count-from n [] h = omega arith
count-from n (k ∷ ns) h =
    rw (lt-ltb n last_line (omega arith)) (count-from (n + 1) ns (omega arith) ∙ omega arith)

pub counted : Counted
counted ns h = count-from 0 ns (omega arith) ∙ omega arith

-- lines have the values that they have with their labels in capitals
values-capitals : (ls : List (List ℕ)) → map line_of (map in_capitals ls) ≡ map line_of ls
values-capitals [] = refl
values-capitals (l ∷ ls) = ap₂ ◌∷◌ (capitals-read l) (values-capitals ls)

pub case-does-not-matter : CaseDoesNotMatter
unfolding text_of_input
case-does-not-matter xs ys e u =
    ap₂ text_of_lines
    (sym (values-capitals (finished_lines xs)) ∙ ap (map line_of) e ∙ values-capitals (finished_lines ys))
    u
