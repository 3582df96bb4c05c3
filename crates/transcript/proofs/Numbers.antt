-- The numbers that lines get: neither 5 nor 12, since the wall of a complete plan holds what the machine holds, and a
-- change on it gets the number that the machine gives; and not 17, since a line's LAST has at most eight digits.
-- Assumes nothing.
use mathlib.Core.Bool.{true, false, false≢true}
use mathlib.Core.List.{List, [], ◌∷◌}
use mathlib.Core.Path.{◌≡◌, refl, sym, ap, ◌∙◌}
use Prim.Native.Nat.{ℕ}
use lib.Dec.{eqb}
use borrow.Author.Tests.{ne_eqb}
use Rattle.lists.specs.Members.{all, any}
use Rattle.lists.proofs.Choice.{and_left, and_right, and_both, or-none}
use Rattle.interval.specs.Tuple.{tuple_number}
use Rattle.interval.specs.declared.tuple.Tuple.{Tuple}
use Rattle.plan.specs.declared.Partitioning.{Partitioning}
use Rattle.rows.specs.declared.Side.{Side}
use Rattle.rows.specs.declared.Side.TheVariants.{Outer, Inner}
use Rattle.refusal.specs.Refusal.{answer_number}
use Rattle.checks.specs.Stores.{Stores}
use Rattle.history.specs.Machine.{Told, Machine}
use Rattle.history.specs.Answering.{partition_full, rows_pass, none_equal, insert_answer, delete_answer}
use Rattle.history.proofs.Kept.{Kept}
use Rattle.history.proofs.Answered.{insert-answered, delete-answered}
use Rattle.lines.specs.Line.{line_of}
use Rattle.lines.specs.declared.Word.{Word}
use Rattle.lines.specs.declared.Word.TheVariants.{DrawIn, DrawOut, SpotIn, SpotOut}
use Rattle.lines.specs.declared.Line.{Line}
use Rattle.lines.specs.declared.Line.TheVariants.{Lane, Least, Change, Malformed}
use Rattle.lines.proofs.Printed.{ChangeBounds}
use Rattle.session_plan.specs.Lanes.{plan_of, least_check}
use Rattle.session_plan.specs.declared.Session.{Session}
use Rattle.session_plan.proofs.Plans.{Good}
use Rattle.session.specs.Session.{EightPartitions, wall_of, lane_number, call_number, change_line_number, step_number}
use Rattle.session.proofs.Reached.{reached-good}
use Rattle.session.proofs.Lengths.{reached-long}
use Rattle.session.proofs.Numbers.{eight-partitions-as, first-met, refuse-ok, guarded-ok, among-more}
use Rattle.session.proofs.Numbers.{lane_numbers, lane-met, least_numbers, least-met, tuple-met, Bounded, bounded}
use Rattle.transcript.specs.Transcript.{Transcript, begun, then}
use Rattle.transcript.specs.SessionKept.{numbers_met, is_met, NeverLate}
use Rattle.transcript.proofs.Holding.{Holding, reached, holding}

-- ---- a change: it gets the number that the machine gives, which is none of 1 to 5 and not 12

-- its own checks
tuple_is : (t : Tuple) → ChangeBounds t → is_met (tuple_number t) ≡ true
tuple_is = tuple-met is_met refl refl refl

module _ (m : Machine) (t : Tuple) (l : ChangeBounds t) where
  insert-is : (side : Side) → is_met (insert_answer m side t) ≡ true
  unfolding insert_answer
  insert-is side =
      first-met is_met _ refl
      (and_both _ _ (tuple_is t l)
      (and_both _ _ (refuse-ok is_met (partition_full m side t) 9 refl refl)
      (and_both _ _ (refuse-ok is_met (rows_pass m side t) 10 refl refl) refl)))

  delete-is : (side : Side) → is_met (delete_answer m side t) ≡ true
  unfolding delete_answer
  delete-is side =
      first-met is_met _ refl
      (and_both _ _ (tuple_is t l) (and_both _ _ (refuse-ok is_met (none_equal m side t) 11 refl refl) refl))

  call-is : (w : Word) (p : Partitioning) (S : Stores) → Kept m p S → is_met (call_number w p t S) ≡ true
  call-is DrawIn p S k = rw (insert-answered m p S k Outer t) (insert-is Outer)
  call-is DrawOut p S k = rw (delete-answered m p S k Outer t) (delete-is Outer)
  call-is SpotIn p S k = rw (insert-answered m p S k Inner t) (insert-is Inner)
  call-is SpotOut p S k = rw (delete-answered m p S k Inner t) (delete-is Inner)

change-is : (s : Session) (w : Word) (t : Tuple) (S : Stores) (ts : List Told) → ChangeBounds t
    → Holding ts s S → is_met (change_line_number s w t S) ≡ true
unfolding change_line_number
change-is s w t S ts l h =
    guarded-ok is_met s.complete 15 _ refl refl
    (λ c. let k = h.late c in call-is k.0 t l w (plan_of s) (wall_of s S) k.2)

-- ---- a line, and every line

line-is : (s : Session) (line : Line) (S : Stores) (ts : List Told) → Good s → EightPartitions S → Bounded line
    → Holding ts s S → is_met (step_number s line S) ≡ true
line-is s (Lane m) S ts g y l h = among-more lane_numbers numbers_met refl (lane_number s m S) (lane-met s m S g y)
line-is s (Least n) S ts g y l h = among-more least_numbers numbers_met refl (least_check s n) (least-met s n)
line-is s (Change w t) S ts g y l h = change-is s w t S ts l h
line-is s Malformed S ts g y l h = refl

pub all-met : {S₀ : Stores} {ns : List ℕ} {ts : List Told} {s : Session} {S : Stores} → EightPartitions S₀
    → Transcript S₀ ns ts s S → all is_met ns ≡ true
all-met y begun = refl
all-met {S₀ = S₀} y (then {ns = ns} {ts = ts} {s = s} {S = S} {r = r} bytes x b) =
    and_both (is_met (answer_number r)) (all is_met ns)
    (ap is_met b.number
    ∙ line-is s (line_of bytes) S ts (reached-good (reached x)) (eight-partitions-as S₀ S (reached-long (reached x)) y)
    (bounded bytes) (holding x))
    (all-met y x)

-- ---- a number that is none of these no line gets; so none gets 17

unmet : (n : ℕ) (ns : List ℕ) → is_met n ≡ false → all is_met ns ≡ true → any (eqb n) ns ≡ false
unmet n [] u h = refl
unmet n (m ∷ ns) u h =
    or-none (eqb n m) (any (eqb n) ns)
    (ne_eqb n m (λ e. false≢true (sym u ∙ (ap is_met e ∙ and_left (is_met m) (all is_met ns) h))))
    (unmet n ns u (and_right (is_met m) (all is_met ns) h))

pub never-late : NeverLate
never-late S₀ y ns ts s S x = unmet _ ns refl (all-met y x)
