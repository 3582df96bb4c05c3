-- `take` is a step of the run, and is not refused.
use Rattle.std.proofs.Common.{List, ◌∷◌, ◌++◌, ◌≡◌, ℕ, ◌*◌, ◌≤◌, length, take, Result, Ok, refl, subst}
use Rattle.std.specs.Result.{IsOk}
use Rattle.refusal.specs.declared.Refusal.{Refusal}
use Rattle.refusal.proofs.Answering.{passed-is}
use Rattle.checks.specs.Stores.{Stores}
use Rattle.refusal_text.specs.Refusals.{refusal_room}
use Rattle.stream.specs.Taking.{TakenBy}
use Rattle.stream.specs.declared.Reading.{Reading}
use Rattle.stream.specs.declared.Taken.{Taken}
use Rattle.stream.proofs.Takes.{taken-within}
use Rattle.program_text.specs.Streamed.{then}
use Rattle.program_text.proofs.Streams.{never-refused}
use Rattle.wall.specs.Run.{Following, PartFollowed}
use Rattle.wall.proofs.take_part.Goals as goal

taken-ok : (s : Reading) (part out : List ℕ) (S : Stores) (out' : List ℕ) (S' : Stores) (r : Result Taken Refusal)
    → Following s S → refusal_room * length part ≤ length out → TakenBy s part out S out' S' r → IsOk r
taken-ok s part out S out' S' r f room t =
    let none = (never-refused f.first f.long f.parts f.text s S f.reads).taken part out out' S' r room t in
    rw (passed-is r none).1 refl

followed : (s : Reading) (part out : List ℕ) (S : Stores) (out' : List ℕ) (S' : Stores) (r : Result Taken Refusal)
    (taken : Taken) → Following s S → refusal_room * length part ≤ length out → TakenBy s part out S out' S' r
    → r ≡ Ok taken → PartFollowed s part out S out' S' taken
followed s part out S out' S' r taken f room h is =
    let t : TakenBy s part out S out' S' (Ok taken) =
    subst (λ (v : Result Taken Refusal). TakenBy s part out S out' S' v) is h in
    record {
      taken = t;
      follows = record {
        first = f.first;
        long = f.long;
        parts = part ∷ f.parts;
        text = f.text ++ take taken.bytes out';
        reads = then part f.reads room t;
      };
      within = taken-within s part out S out' S' (Ok taken) t;
    }

pub unwrap-requires : goal.unwrap-requires
unwrap-requires c = taken-ok _ _ _ _ _ _ _ c.requires.following c.requires.part_in_bounds c.take.ensures

pub returns : goal.returns
returns c =
    followed _ _ _ _ _ _ _ _ c.requires.following c.requires.part_in_bounds c.take.ensures c.unwrap.ensures
