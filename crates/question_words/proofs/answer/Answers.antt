-- `question_words::answer` meets its contract: a refusal leaves the words; where the checks pass, the scan of the
-- questions' window reads the rows that document 02 names, and each question has its answer after them.
-- Assumes nothing.
use mathlib.Core.Path.{◌≡◌, refl, sym, ap, ◌∙◌}
use Rattle.std.proofs.Common.{rules}
use Rattle.refusal.proofs.Answering.{number-above}
use Rattle.checks.proofs.Refusals.{refusal-says}
use Rattle.question.specs.Steps.{window_of, scan_of}
use Rattle.question_words.specs.QuestionWords.{questions_in}
use Rattle.question_words.proofs.Passed.{Passed, passed}
use Rattle.question_words.proofs.Scans.{whole_long}
use Rattle.question_words.proofs.Calls.{scan-starts, scan-room, scan-answers, scan-read}
use Rattle.question_words.proofs.answer.Goals as goal

pub returns-in_err-words_number : goal.returns-in_err-words_number
returns-in_err-words_number c =
    let refusal = c.in_err-words_number.field-0.0 in
    let says = refusal-says c.from_residual.result refusal (search rules) in
    record {
      number = says.0 ∙ c.in_err-words_number.ensures;
      changed = says.1.0;
      refused = λ e. (refl, says.1.1);
      accepted = λ e. absurd (number-above refusal (sym says.0 ∙ e));
    }

pub begin-requires : goal.begin-requires
begin-requires c =
    (passed _ _ _ (sym c.in_ok-words_number.ensures)).whole

pub scan_of-scan-requires : goal.scan_of-scan-requires
scan_of-scan-requires c =
    (passed _ _ _ (sym c.in_ok-words_number.ensures)).legal

pub count_rows-requires : goal.count_rows-requires
count_rows-requires c =
    let known : Passed c.args.p c.args.rows.now c.args.ws.now =
    passed _ _ _ (sym c.in_ok-words_number.ensures) in
    let scan-is : c.scan_of-scan.result ≡ scan_of c.args.p (window_of (questions_in c.args.ws.now)) =
    c.scan_of-scan.ensures ∙ ap (scan_of _) c.begin.ensures.1 in
    let done = c.begin.ensures.0 in
    record {
      whole_questions = whole_long _ _ done.long known.whole;
      scannable = scan-starts _ _ _ known.sound _ scan-is;
      ws_value = scan-room _ _ _ known.sound _ scan-is done;
    }

pub stored-requires : goal.stored-requires
stored-requires c =
    let known : Passed c.args.p c.args.rows.now c.args.ws.now =
    passed _ _ _ (sym c.in_ok-words_number.ensures) in
    let scan-is : c.scan_of-scan.result ≡ scan_of c.args.p (window_of (questions_in c.args.ws.now)) =
    c.scan_of-scan.ensures ∙ ap (scan_of _) c.begin.ensures.1 in
    scan-starts _ _ _ known.sound _ scan-is

pub returns : goal.returns
returns c =
    let known : Passed c.args.p c.args.rows.now c.args.ws.now =
    passed _ _ _ (sym c.in_ok-words_number.ensures) in
    let scan-is : c.scan_of-scan.result ≡ scan_of c.args.p (window_of (questions_in c.args.ws.now)) =
    c.scan_of-scan.ensures ∙ ap (scan_of _) c.begin.ensures.1 in
    record {
      number = c.in_ok-words_number.ensures;
      changed = refl;
      refused = λ e. absurd (e refl);
      accepted = λ e. (
        scan-answers _ _ _ known.sound _ scan-is c.begin.ensures.0 c.count_rows.ensures,
        c.stored.ensures ∙ scan-read _ _ _ known.sound _ scan-is,
      );
    }
