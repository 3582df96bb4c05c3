-- The records of a store's drawings, partition by partition.
-- In order: those of the partitions from i on; the drawings of a partition are legal; how many records there are at
-- most, so that their words are counted in a machine's word.
-- Assumes nothing.
use mathlib.Core.Bool.{true}
use mathlib.Core.List.{List, [], ◌∷◌, ◌++◌}
use mathlib.Core.Path.{◌≡◌, sym, ap, ◌∙◌}
use Prim.Native.Nat.{ℕ, ◌+◌, ◌-◌, ◌*◌, ◌≤◌, ◌<◌}
use native.Mathlib.Nat.{sub-zero}
use native.Mathlib.Omega.{arith}
use lib.Dec.{eqb}
use lib.ListN.{length, length-append, length-map}
use mir.Syntax.{w64}
use mir.Val.{Fits}
use Rattle.lists.specs.Members.{all, gather, up_from, below}
use Rattle.lists.proofs.Choice.{and_left, and_right}
use Rattle.lists.proofs.Members.{all-imply}
use Rattle.lists.proofs.Gather.{gather-gather, length-gather}
use Rattle.lists.proofs.Below.{up_next, up-end}
use Rattle.interval.specs.Time.{calendar_end}
use Rattle.interval.specs.Tuple.{tuple_width, to, during, legal_tuple}
use Rattle.interval.specs.declared.tuple.Tuple.{Tuple}
use Rattle.interval.proofs.Tuples.{legal-tuple, valid-ok}
use Rattle.plan.specs.Plan.{most_tuples, home}
use Rattle.plan.specs.declared.Partitioning.{Partitioning}
use Rattle.plan.proofs.Homes.{legal-plan}
use Rattle.part.specs.Part.{tuples_in}
use Rattle.part.proofs.Parts.{length-tuples, sound-count}
use Rattle.store.specs.Store.{tuple_part, tuple_at_home, sound_tuple_part, stored_tuples}
use Rattle.store.specs.Sides.{Sides}
use Rattle.store.proofs.Stores.{tuples-at-home, sound-tuples-at}
use Rattle.rows.proofs.Counting.{sum-most}
use Rattle.coverage.specs.Gaps.{rows_of, gaps_of}
use Rattle.coverage.proofs.Stretches.{gaps-few}
use Rattle.gaps.specs.Listed.{gaps_by, gaps, words_for}

module _ (p : Partitioning) (outer inner : List ℕ) where
  -- ---- the records of partition i's drawings, and of those of the partitions from i on

  abbrev pub records_at : ℕ → List Tuple
  records_at i = gather (gaps_by p inner) (tuples_in (tuple_part p outer i))

  abbrev pub records_left : ℕ → List Tuple
  records_left i = gather records_at (up_from i (p.count - i))

  pub left-all : gaps p outer inner ≡ records_left 0
  unfolding gaps stored_tuples
  left-all =
      gather-gather (gaps_by p inner) (λ i. tuples_in (tuple_part p outer i)) (below p.count)
      ∙ ap (λ (n : ℕ). gather records_at (up_from 0 n)) (sym (sub-zero p.count))

  pub left-next : (i : ℕ) → i < p.count → records_left i ≡ records_at i ++ records_left (i + 1)
  left-next i l = ap (gather records_at) (up_next i p.count l)

  pub left_end : (i : ℕ) → p.count ≤ i → records_left i ≡ []
  left_end i l = ap (gather records_at) (up-end i p.count l)

  module _ (sides : Sides p outer inner) where
    -- ---- the drawings of a partition are legal

    pub legal-at : (i : ℕ) → i < p.count → all legal_tuple (tuples_in (tuple_part p outer i)) ≡ true
    unfolding tuple_at_home
    legal-at i l =
        all-imply (tuple_at_home p i) legal_tuple (tuples_in (tuple_part p outer i))
        (λ t e. and_left (legal_tuple t) (eqb (home p (to t)) i) e)
        (tuples-at-home p i (tuple_part p outer i) (sound-tuples-at p outer sides.outer_sound i l))

    -- ---- at most a record for each minute of the calendar of a drawing; of a partition's drawings; of all

    few-of : (d : Tuple) → legal_tuple d ≡ true → length (gaps_by p inner d) ≤ calendar_end + 1
    unfolding gaps_by
    few-of d h =
        omega (
          arith,
          length-map (gaps_of d (rows_of p inner d)) (during d),
          gaps-few d (rows_of p inner d),
          (valid-ok d.valid (legal-tuple d h).valid).1,
        )

    few-in : (ds : List Tuple) → all legal_tuple ds ≡ true
        → length (gather (gaps_by p inner) ds) ≤ length ds * (calendar_end + 1)
    few-in [] h = omega arith
    few-in (d ∷ ds) h =
        omega (
          arith,
          length-append (gaps_by p inner d) (gather (gaps_by p inner) ds),
          few-of d (and_left (legal_tuple d) (all legal_tuple ds) h),
          few-in ds (and_right (legal_tuple d) (all legal_tuple ds) h),
        )

    few-at : (i : ℕ) → i < p.count → length (records_at i) ≤ most_tuples * (calendar_end + 1)
    unfolding sound_tuple_part
    few-at i l =
        let part = tuple_part p outer i in
        omega (
          arith,
          few-in (tuples_in part) (legal-at i l),
          length-tuples part,
          sound-count tuple_width p.tuples _ part (sound-tuples-at p outer sides.outer_sound i l),
          (legal-plan p sides.legal).tuples-most,
        )

    pub all_fit : Fits w64 (words_for (0 + length (gaps p outer inner)))
    all_fit =
        let most = sum-most (λ i. length (records_at i)) (most_tuples * (calendar_end + 1)) 0 p.count few-at in
        record {
          fits =
              omega (
                arith,
                most,
                ap length left-all,
                length-gather records_at (up_from 0 (p.count - 0)),
                (legal-plan p sides.legal).most,
              );
        }
