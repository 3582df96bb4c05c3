-- `report::text::put_label` meets its contract: the letters, then a comma.
-- Assumes nothing.
use mathlib.Core.List.{[], ◌∷◌}
use mathlib.Core.Path.{◌≡◌, sym, ap, ◌∙◌}
use lib.ListN.{length, take}
use Rattle.label.specs.Label.{letters_of}
use Rattle.lines.specs.Fields.{comma}
use Rattle.text_buffer.specs.Buffer.{ended}
use Rattle.text_buffer.proofs.Writing.{Left, left-start, left-room, left-more, left_end}
use Rattle.report.proofs.Pieces.{letters-part, letters-count}
use Rattle.report.proofs.text.put_label.Goals as goal

pub slice_bounds-bytes-end : goal.slice_bounds-bytes-end
slice_bounds-bytes-end c = letters-count c.args.label c.letters_of-letters.result c.letters_of-letters.ensures

pub slice_bounds-put_bytes-end : goal.slice_bounds-put_bytes-end
slice_bounds-put_bytes-end c =
    let lent : take c.letters_of-letters.result.count c.letters_of-letters.result.bytes ≡ letters_of c.args.label =
    letters-part c.args.label c.letters_of-letters.result c.letters_of-letters.ensures in
    c.letters_of-letters.ensures.count ∙ sym (ap length lent)

pub put_bytes-next-requires : goal.put_bytes-next-requires
put_bytes-next-requires c =
    let lent : take c.letters_of-letters.result.count c.letters_of-letters.result.bytes ≡ letters_of c.args.label =
    letters-part c.args.label c.letters_of-letters.result c.letters_of-letters.ensures in
    let a = c.args in
    rw lent
    (left-room a.at (ended (letters_of a.label) comma) a.out.now c.requires a.at a.out.now
    (letters_of a.label)
    (comma ∷ []) (left-start a.at (ended (letters_of a.label) comma) a.out.now))

pub put_bytes-requires : goal.put_bytes-requires
put_bytes-requires c =
    let lent : take c.letters_of-letters.result.count c.letters_of-letters.result.bytes ≡ letters_of c.args.label =
    letters-part c.args.label c.letters_of-letters.result c.letters_of-letters.ensures in
    let comma-left : (let a = c.args in
    Left a.at (ended (letters_of a.label) comma) a.out.now c.put_bytes-next.result (comma ∷ [])
    c.put_bytes-next.new.out) =
    let a = c.args in
    left-more a.at (ended (letters_of a.label) comma) a.out.now c.requires a.at a.out.now
    (letters_of a.label)
    (comma ∷ []) _ _ (left-start a.at (ended (letters_of a.label) comma) a.out.now)
    (rw lent at c.put_bytes-next.ensures) in
    let a = c.args in
    left-room a.at (ended (letters_of a.label) comma) a.out.now c.requires c.put_bytes-next.result
    c.put_bytes-next.new.out (comma ∷ []) [] comma-left

pub returns : goal.returns
returns c =
    let lent : take c.letters_of-letters.result.count c.letters_of-letters.result.bytes ≡ letters_of c.args.label =
    letters-part c.args.label c.letters_of-letters.result c.letters_of-letters.ensures in
    let comma-left : (let a = c.args in
    Left a.at (ended (letters_of a.label) comma) a.out.now c.put_bytes-next.result (comma ∷ [])
    c.put_bytes-next.new.out) =
    let a = c.args in
    left-more a.at (ended (letters_of a.label) comma) a.out.now c.requires a.at a.out.now
    (letters_of a.label)
    (comma ∷ []) _ _ (left-start a.at (ended (letters_of a.label) comma) a.out.now)
    (rw lent at c.put_bytes-next.ensures) in
    let a = c.args in
    left_end a.at (ended (letters_of a.label) comma) a.out.now c.requires _ _
    (left-more a.at (ended (letters_of a.label) comma) a.out.now c.requires c.put_bytes-next.result
    c.put_bytes-next.new.out (comma ∷ []) [] _ _ comma-left c.put_bytes.ensures)
