-- What the listed records say of the join: the claims of specs/Joined, by the theorems of the crate coverage.
-- Assumes nothing.
use mathlib.Core.List.{List, [], ◌∷◌}
use mathlib.Core.Path.{ap}
use Prim.Native.Nat.{ℕ, ◌+◌, ◌≤◌}
use native.Mathlib.Omega.{arith}
use lib.ListN.{length, length-append, length-map}
use borrow.Author.Tests.{le-ltb}
use Rattle.lists.specs.Choice.{first_of}
use Rattle.lists.specs.Members.{gather}
use Rattle.interval.specs.Tuple.{during}
use Rattle.interval.specs.declared.tuple.Tuple.{Tuple}
use Rattle.plan.specs.declared.Partitioning.{Partitioning}
use Rattle.store.specs.Store.{stored_tuples}
use Rattle.rows.specs.Join.{join_of, made_with}
use Rattle.rows.specs.declared.Side.TheVariants.{Outer}
use Rattle.rows.proofs.Joins.{join-outer-more}
use Rattle.coverage.specs.Gaps.{rows_of, gaps_of}
use Rattle.coverage.proofs.Lengths.{minutes-add-up, lengths-add-up}
use Rattle.coverage.proofs.Longest.{gaps-are-longest, only-gaps}
use Rattle.coverage.proofs.Few.{few-gaps}
use Rattle.coverage.proofs.NextCovered.{rows-of-made}
use Rattle.gaps.specs.Listed.{gaps_by, gaps, words_for, room_check, gaps_number}
use Rattle.gaps.specs.Joined.{StoredGaps, EnoughRoom}

pub stored-gaps : StoredGaps
stored-gaps p outer inner e d h = record {
  minutes = minutes-add-up d (rows_of p inner d);
  lengths = lengths-add-up d (rows_of p inner d);
  longest = gaps-are-longest d (rows_of p inner d);
  only = only-gaps d (rows_of p inner d);
}

-- ---- how many records there are at the most

module _ (p : Partitioning) (inner : List ℕ) where
  -- of a drawing, one more than it makes rows; of drawings, as many as they and their rows are
  few-records : (d : Tuple)
      → length (gaps_by p inner d) ≤ length (made_with p.minimum Outer d (stored_tuples p inner)) + 1
  unfolding gaps_by
  few-records d =
      omega (
        arith,
        length-map (gaps_of d (rows_of p inner d)) (during d),
        few-gaps d (rows_of p inner d),
        ap length (rows-of-made p inner d),
      )

  few-of-all : (ds : List Tuple)
      → length (gather (gaps_by p inner) ds) ≤ length ds + length (join_of p.minimum ds (stored_tuples p inner))
  few-of-all [] = omega arith
  few-of-all (d ∷ ds) =
      omega (
        arith,
        length-append (gaps_by p inner d) (gather (gaps_by p inner) ds),
        few-records d,
        few-of-all ds,
        ap length (join-outer-more p.minimum d ds (stored_tuples p inner)),
        length-append (made_with p.minimum Outer d (stored_tuples p inner))
            (join_of p.minimum ds (stored_tuples p inner)),
      )

pub enough-room : EnoughRoom
unfolding gaps_number room_check first_of gaps
enough-room p outer inner room e l =
    let fits : words_for (length (gather (gaps_by p inner) (stored_tuples p outer))) ≤ room =
    omega (arith, few-of-all p inner (stored_tuples p outer)) in
    rw (e, le-ltb room (words_for (length (gather (gaps_by p inner) (stored_tuples p outer)))) fits)
