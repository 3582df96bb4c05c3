-- `finish` ends the run, and is not refused.
use Rattle.std.proofs.Common.{List, ◌≡◌, ℕ, ◌≤◌, length, Ok, refl, subst}
use Rattle.std.specs.Result.{IsOk}
use Rattle.refusal.proofs.Answering.{passed-is}
use Rattle.text_end.specs.Ending.{Finished}
use Rattle.stream.specs.Finishing.{finish_room, FinishedBy}
use Rattle.stream.specs.declared.Reading.{Reading}
use Rattle.stream.proofs.Finishes.{finished-within}
use Rattle.program_text.proofs.Streams.{never-refused}
use Rattle.wall.specs.Run.{FollowingRows, EndFollowed}
use Rattle.wall.proofs.end_text.Goals as goal

ended-ok : (s : Reading) (rows out rows' out' : List ℕ) (r : Finished) → FollowingRows s rows
    → finish_room ≤ length out → FinishedBy s rows out rows' out' r → IsOk r
ended-ok s rows out rows' out' r w room f =
    let g = w.follows in
    let none = (never-refused g.first g.long g.parts g.text s _ g.reads).ended out rows' out' r room f in
    rw (passed-is r none).1 refl

ended : (s : Reading) (rows out rows' out' : List ℕ) (r : Finished) (bytes : ℕ) → length out' ≡ length out
    → FinishedBy s rows out rows' out' r → r ≡ Ok bytes → EndFollowed s rows out rows' out' bytes
ended s rows out rows' out' r bytes long f is =
    let g : FinishedBy s rows out rows' out' (Ok bytes) =
    subst (λ (v : Finished). FinishedBy s rows out rows' out' v) is f in
    record { ended = g; within = finished-within s rows out rows' out' (Ok bytes) long g }

pub unwrap-requires : goal.unwrap-requires
unwrap-requires c =
    ended-ok _ _ _ _ _ _ c.requires.following_rows c.requires.finish_room_in_bounds c.finish.ensures

pub returns : goal.returns
returns c = ended _ _ _ _ _ _ _ c.finish.auto.out c.finish.ensures c.unwrap.ensures
