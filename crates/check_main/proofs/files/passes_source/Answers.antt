use Rattle.std.proofs.Common.{◌≡◌, true, refl, subst}
use Rattle.command_words.specs.declared.command.Command.TheVariants.{Passes}
use Rattle.knitout_reader.specs.declared.file_reader.FileReader.{FileReader}
use Rattle.file_run.specs.declared.runner.Runner.{Runner}
use Rattle.pass_grouping.specs.declared.tally.Tally.{Tally}
use Rattle.pass_grouping.specs.Tallies.{HasTallied}
use Rattle.input_answers.specs.FileRuns.{HasRunLines}
use Rattle.check_main.specs.Calls.{HasTakenInput, IsFileOutcome}
use Rattle.check_main.specs.Top.{SourceUse, source_use}
use Rattle.check_main.proofs.Calls.{called-file}
use Rattle.check_main.proofs.files.passes_source.Goals as goal

pub answer_passes-requires : goal.answer_passes-requires
answer_passes-requires g c =
    let took : HasTakenInput (FileReader (Runner Tally)) (HasRunLines Tally HasTallied) c.runner-reader.result c.in-Whole.reader (source_use g.S.Source.left g.S.Source.faults c.args.source.now c.read_file.new.source) =
    subst (IsFileOutcome (FileReader (Runner Tally)) (HasRunLines Tally HasTallied) c.runner-reader.result (source_use g.S.Source.left g.S.Source.faults c.args.source.now c.read_file.new.source)) c.in-Whole.is c.in_ok-outcome.ensures.ok in
    record { start = c.runner-reader.result; input = took.input; small = took.given.few; taken = took.taken }

pub returns-in_ok-ending-in-Whole-clause-ok : goal.returns-in_ok-ending-in-Whole-clause-ok
returns-in_ok-ending-in-Whole-clause-ok g c = λ words ask.
    let took : HasTakenInput (FileReader (Runner Tally)) (HasRunLines Tally HasTallied) c.runner-reader.result c.in-Whole.reader (source_use g.S.Source.left g.S.Source.faults c.args.source.now c.read_file.new.source) =
    subst (IsFileOutcome (FileReader (Runner Tally)) (HasRunLines Tally HasTallied) c.runner-reader.result (source_use g.S.Source.left g.S.Source.faults c.args.source.now c.read_file.new.source)) c.in-Whole.is c.in_ok-outcome.ensures.ok in
    let ending = c.in_ok-ending-in-Whole.ending in
    called-file words Passes c.args.plan.now.chosen (source_use g.S.Source.left g.S.Source.faults c.args.source.now c.read_file.new.source) c.without_sessions.result took.input ending.text.items ending.status ask refl took.given
    (c.in_ok-ending-in-Whole.ensures c.runner-reader.result took.input c.runner-reader.ensures.begins took.taken)
    c.without_sessions.ensures.text c.without_sessions.ensures.status c.without_sessions.ensures.played

pub returns-in-Refused-clause-ok : goal.returns-in-Refused-clause-ok
returns-in-Refused-clause-ok g c =
    subst (IsFileOutcome (FileReader (Runner Tally)) (HasRunLines Tally HasTallied) c.runner-reader.result (source_use g.S.Source.left g.S.Source.faults c.args.source.now c.read_file.new.source)) c.in-Refused.is c.in_ok-outcome.ensures.ok Passes c.args.plan.now.chosen refl
