-- Demand 3 of sessions of lines, proved: `session-kept`. In order: the frames of accepted changes; what a report
-- prints; the theorem.
-- Assumes nothing.
use mathlib.Core.Bool.{true}
use mathlib.Core.List.{List, ◌++◌}
use mathlib.Core.Option.{some}
use mathlib.Core.Path.{◌≡◌, sym, ◌∙◌, ap}
use Prim.Native.Nat.{ℕ, ◌≤◌}
use lib.ListN.{length, drop}
use Rattle.rows.specs.Join.{join_of}
use Rattle.refusal.specs.Refusal.{answer_number}
use Rattle.checks.specs.Stores.{Stores}
use Rattle.history.specs.Machine.{Told, Machine, machine_after}
use Rattle.history.proofs.Kept.{Kept, kept-current-now}
use Rattle.report.specs.Text.{text_of}
use Rattle.report.specs.Report.{text_room, Reported, ReportWritten}
use Rattle.lines.specs.Line.{line_of}
use Rattle.lines.specs.declared.Line.{Line}
use Rattle.lines.specs.declared.Line.TheVariants.{Lane, Least, Change, Malformed}
use Rattle.session_plan.specs.Lanes.{wall_rows_most, plan_of}
use Rattle.session_plan.specs.declared.Session.{Session}
use Rattle.session_plan.proofs.Plans.{Good}
use Rattle.session.specs.Session.{wall_of, Stepped, SteppedBy}
use Rattle.session.proofs.Reached.{reached-good}
use Rattle.transcript.specs.Transcript.{Transcript, begun, then}
use Rattle.transcript.specs.Rows.{printed_rows}
use Rattle.transcript.specs.SessionKept.{Framed, AllFramed, Printed, SessionKept}
use Rattle.transcript.proofs.Holding.{Holding, change-complete, change-frame, reached, holding}
use Rattle.transcript.proofs.Numbers.{all-met}
use Rattle.transcript.proofs.Reported.{report-accepted}
use Rattle.transcript.proofs.Printing.{join-within, text-is}

-- ---- the frames

line-framed : (s : Session) (line : Line) (S S' : Stores) (ts : List Told) (r : Stepped) → Holding ts s S
    → SteppedBy s line S S' r → Framed s line (answer_number r) S S'
line-framed s (Lane m) S S' ts r h b = tt
line-framed s (Least minimum) S S' ts r h b = tt
line-framed s (Change w t) S S' ts r h b =
    λ z.
    let k = h.late (change-complete s w t S (sym b.number ∙ z)) in
    change-frame s w t S S' k.0 k.2 (b.accepted z)
line-framed s Malformed S S' ts r h b = tt

all-framed : {S₀ : Stores} {ns : List ℕ} {ts : List Told} {s : Session} {S : Stores} (x : Transcript S₀ ns ts s S)
    → AllFramed x
all-framed begun = tt
all-framed (then {ts = ts} {s = s} {S = S} {S' = S'} {r = r} bytes x b) =
    (all-framed x, line-framed s (line_of bytes) S S' ts r (holding x) b)

-- ---- the report

-- the wall holds what the machine holds that was told of the lines
machine-kept : (ts : List Told) (s : Session) (S : Stores) → Holding ts s S → s.complete ≡ true → (m : Machine)
    → machine_after (plan_of s) ts ≡ some m → Kept m (plan_of s) (wall_of s S)
machine-kept ts s S h c m e =
    let k = h.late c in
    let same : k.0 ≡ m = cc k.1 in
    rw same at k.2

pub rows-printed : (m : Machine) (s : Session) (S : Stores) → Good s → Kept m (plan_of s) (wall_of s S)
    → (out rows' out' : List ℕ) (r : Reported) → ReportWritten (plan_of s) (wall_of s S).rows out rows' out' r
    → text_room wall_rows_most ≤ length out → Printed (plan_of s) (join_of s.minimum m.outer m.inner) out out' r
rows-printed m s S g k out rows' out' r w h =
    let z : answer_number r ≡ 0 = w.number ∙ report-accepted m s S g k (length out) h in
    let e : text_of (plan_of s) rows' ≡ printed_rows (plan_of s) (join_of s.minimum m.outer m.inner) =
    text-is (plan_of s) (wall_of s S).rows rows' (join_of s.minimum m.outer m.inner) k.rows
    (join-within (plan_of s) (wall_of s S).inner m.outer m.inner k.inner) (w.store z) in
    record {
      number = z;
      bytes = (w.written z).size ∙ ap length e;
      text = (w.written z).text ∙ ap (λ (t : List ℕ). t ++ drop (length t) out) e;
    }

-- ---- the theorem

pub session-kept : SessionKept
session-kept S₀ y ns ts s S x =
    let h = holding x in
    let g = reached-good (reached x) in
    record {
      numbers = all-met y x;
      current = λ c. let k = h.late c in (k.0, k.1, kept-current-now k.0 (plan_of s) (wall_of s S) k.2);
      framed = all-framed x;
      reported = λ c room l. let k = h.late c in report-accepted k.0 s S g k.2 room l;
      printed = λ c m e out rows' out' r w l.
          rows-printed m s S g (machine-kept ts s S h c m e) out rows' out' r w l;
    }
