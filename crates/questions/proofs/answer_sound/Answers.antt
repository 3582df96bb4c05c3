-- `questions::answer_sound` meets its contract: the scan of the questions' window reads the rows that document 02
-- names, and each question has its answer after them.
-- Assumes nothing.
use Rattle.questions.proofs.Sound.{legal-plan, window-scan, scan-able, scan-read, scan-room, scan-answers}
use Rattle.questions.proofs.answer_sound.Goals as goal

pub scan_of-scan-requires : goal.scan_of-scan-requires
scan_of-scan-requires c = legal-plan _ _ c.requires

pub count_rows-requires : goal.count_rows-requires
count_rows-requires c =
    let e = window-scan _ c.args.qs.now _ c.begin-window.ensures.1 _ c.scan_of-scan.ensures in
    (scan-able _ _ c.requires _ _ e, scan-room _ _ c.requires _ _ e _ c.begin-window.ensures.0)

pub stored-requires : goal.stored-requires
stored-requires c =
    scan-able _ _ c.requires _ _
    (window-scan _ c.args.qs.now _ c.begin-window.ensures.1 _ c.scan_of-scan.ensures)

pub returns : goal.returns
returns c =
    let e = window-scan _ c.args.qs.now _ c.begin-window.ensures.1 _ c.scan_of-scan.ensures in (
      scan-answers _ _ c.requires _ _ e _ c.begin-window.ensures.0 _ c.count_rows.ensures,
      scan-read _ _ c.requires _ _ e _ c.stored.ensures,
    )
