use Rattle.std.proofs.Common.{◌≡◌, true, refl, subst}
use Rattle.command_words.specs.declared.command.Command.TheVariants.{Text}
use Rattle.knitout_reader.specs.declared.file_reader.FileReader.{FileReader}
use Rattle.knitout_writer.specs.declared.text_writer.TextWriter.{TextWriter}
use Rattle.input_answers.specs.FileRuns.{HasWrittenLines}
use Rattle.check_main.specs.Calls.{HasTakenInput, IsFileOutcome}
use Rattle.check_main.specs.Top.{SourceUse, source_use}
use Rattle.check_main.proofs.Calls.{called-file}
use Rattle.check_main.proofs.files.text_source.Goals as goal

pub answer_text-requires : goal.answer_text-requires
answer_text-requires g c =
    let took : HasTakenInput (FileReader TextWriter) HasWrittenLines c.writer-reader.result c.in-Whole.reader (source_use g.S.Source.left g.S.Source.faults c.args.source.now c.read_file.new.source) =
    subst (IsFileOutcome (FileReader TextWriter) HasWrittenLines c.writer-reader.result (source_use g.S.Source.left g.S.Source.faults c.args.source.now c.read_file.new.source)) c.in-Whole.is c.in_ok-outcome.ensures.ok in
    record { start = c.writer-reader.result; input = took.input; small = took.given.few; taken = took.taken }

pub returns-in_ok-ending-in-Whole-clause-ok : goal.returns-in_ok-ending-in-Whole-clause-ok
returns-in_ok-ending-in-Whole-clause-ok g c = λ words ask.
    let took : HasTakenInput (FileReader TextWriter) HasWrittenLines c.writer-reader.result c.in-Whole.reader (source_use g.S.Source.left g.S.Source.faults c.args.source.now c.read_file.new.source) =
    subst (IsFileOutcome (FileReader TextWriter) HasWrittenLines c.writer-reader.result (source_use g.S.Source.left g.S.Source.faults c.args.source.now c.read_file.new.source)) c.in-Whole.is c.in_ok-outcome.ensures.ok in
    let ending = c.in_ok-ending-in-Whole.ending in
    called-file words Text c.args.plan.now.chosen (source_use g.S.Source.left g.S.Source.faults c.args.source.now c.read_file.new.source) c.without_sessions.result took.input ending.text.items ending.status ask refl took.given
    (c.in_ok-ending-in-Whole.ensures c.writer-reader.result took.input c.writer-reader.ensures.begins took.taken)
    c.without_sessions.ensures.text c.without_sessions.ensures.status c.without_sessions.ensures.played

pub returns-in-Refused-clause-ok : goal.returns-in-Refused-clause-ok
returns-in-Refused-clause-ok g c =
    subst (IsFileOutcome (FileReader TextWriter) HasWrittenLines c.writer-reader.result (source_use g.S.Source.left g.S.Source.faults c.args.source.now c.read_file.new.source)) c.in-Refused.is c.in_ok-outcome.ensures.ok Text c.args.plan.now.chosen refl
