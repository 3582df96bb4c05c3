-- What a refusal that a call hands on says: its number, and both counts are 0.
-- Assumes nothing.
use mathlib.Core.Path.{◌≡◌, refl, sym}
use Rattle.std.specs.Prelude.{Ok, Err}
use Rattle.refusal.specs.Refusal.{number, answer_number}
use Rattle.refusal.specs.declared.Refusal.{Refusal}
use Rattle.refusal.proofs.Answering.{number-above}
use Rattle.checks.specs.Answer.{Answer}
use Rattle.checks.specs.Stores.{Says}

pub refusal-says : (a : Answer) (r : Refusal) → answer_number a ≡ number r → Says a (number r)
refusal-says (Ok counted) r e = absurd (number-above r (sym e))
refusal-says (Err s) r e = (e, (refl, refl))
