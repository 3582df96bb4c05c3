-- `lines::place_of` meets its contract: the place that `position` finds is that of the definition.
-- Assumes nothing.
use mathlib.Core.Path.{◌≡◌, ◌∙◌}
use borrow.Author.Rules.{rules}
use borrow.Author.Tests.{tests}
use Rattle.std.specs.List.{position}
use Rattle.std.proofs.lemmas.Iterator.{YieldsList-from_slice}
use Rattle.std.proofs.lemmas.Iterator.Search.{position_from_yields_List}
use Rattle.lines.specs.Fields.{is_byte}
use Rattle.lines.proofs.Loops.{place-found}
use Rattle.lines.proofs.place_of.Goals as goal

pub returns : goal.returns
returns c =
    let a = c.args in
    let found : c.position.result ≡ position (is_byte a.byte) a.bytes.now =
    position_from_yields_List (is_byte a.byte) _ _ _ c.position.ensures.ran (YieldsList-from_slice a.bytes.now cc)
    (λ x b q k. search (rules, tests)) in
    c.unwrap_or.ensures ∙ place-found (is_byte a.byte) a.bytes.now _ found
