use Rattle.std.proofs.Common.{◌≡◌, ◌∙◌, Err, ap, subst}
use Rattle.knit_ports.specs.declared.file_reading.FileReading.{FileReading}
use Rattle.knit_ports.specs.FileReadings.{IsFileReading}
use Rattle.input_answers.specs.Due.{bad_line}
use Rattle.check_main.specs.Top.{broke, large, whole}
use Rattle.check_main.proofs.Calls.{called-refusal, file-input}
use Rattle.check_main.proofs.files.read_file.Goals as goal

pub returns-in-Ok-Whole-clause-ok : goal.returns-in-Ok-Whole-clause-ok
returns-in-Ok-Whole-clause-ok g c =
    let read = subst (IsFileReading _ g.T.LineTaker.took c.args.taker _ _) c.in-Ok-Whole.field-0-is c.in-Ok-Whole.ensures.read in
    record { input = read.input; given = record { bytes = read.whole.consumed; end = read.whole.ended; few = read.whole.within }; taken = read.took }

pub returns-in_ok-answer-in-Ok-Refused-clause-ok : goal.returns-in_ok-answer-in-Ok-Refused-clause-ok
returns-in_ok-answer-in-Ok-Refused-clause-ok g c = λ command chosen reads words ask.
    let read = subst (IsFileReading _ g.T.LineTaker.took c.args.taker _ _) c.in-Ok-Refused.field-0-is c.in-Ok-Refused.ensures.read in
    called-refusal words _ c.in_ok-answer-in-Ok-Refused.answer _ _
    (whole command chosen read.input _ _ ask reads read.whole.consumed read.whole.ended read.whole.within
    (bad_line c.in-Ok-Refused.fault _ read.bad c.in_ok-refusal_of_lines-in-Ok-Refused.ensures)) c.in_ok-answer-in-Ok-Refused.ensures

pub returns-in_ok-answer-in-Ok-TooLong-clause-ok : goal.returns-in_ok-answer-in-Ok-TooLong-clause-ok
returns-in_ok-answer-in-Ok-TooLong-clause-ok g c = λ command chosen reads words ask.
    let read = subst (IsFileReading _ g.T.LineTaker.took c.args.taker _ _) c.in-Ok-TooLong.field-0-is c.in-Ok-TooLong.ensures.read in
    called-refusal words _ c.in_ok-answer-in-Ok-TooLong.answer _ _ (large command chosen read.input ask (file-input command reads) read.consumed read.past) c.in_ok-answer-in-Ok-TooLong.ensures

pub returns-in_ok-answer-in-Err-Failed-clause-ok : goal.returns-in_ok-answer-in-Err-Failed-clause-ok
returns-in_ok-answer-in-Err-Failed-clause-ok g c = λ command chosen reads words ask.
    let failed = c.in-Err-Failed.is ∙ ap Err c.in-Err-Failed.field-0-is in
    called-refusal words _ c.in_ok-answer-in-Err-Failed.answer _ _
    (broke command chosen ask (file-input command reads) (c.read_lines.ensures.failed failed) (c.read_lines.ensures.gave failed)) c.in_ok-answer-in-Err-Failed.ensures
