use Rattle.std.proofs.Common.{◌≡◌, refl, subst}
use Rattle.command_words.specs.declared.command.Command.TheVariants.{Text}
use Rattle.knit_base.specs.Lines.{lines_of}
use Rattle.knitout_writer.specs.Canonical.{IsCanonicalText}
use Rattle.input_answers.proofs.Dues.{due-bad_head, due-canonical}
use Rattle.input_answers.proofs.FileDues.{input-few}
use Rattle.input_answers.proofs.file_answers.answer_text.Goals as goal

pub finish-requires-clause-few : goal.finish-requires-clause-few
finish-requires-clause-few c = input-few c.requires.input c.args.reader.lines c.requires.small c.requires.taken.counted

pub returns-in-Ok : goal.returns-in-Ok
returns-in-Ok c = λ start input writes taken.
    let read = c.in-Ok.ensures.file start (lines_of input) taken in
    due-canonical c.args.plan.now.chosen input c.into_text-text.result.items c.into_text-text.result.items (lines_of input) c.in-Ok.file.head refl read.good read.head_is
    (subst (λ p. IsCanonicalText p c.in-Ok.file.head (lines_of input) c.into_text-text.result.items) writes (c.into_text-text.ensures start.work c.in-Ok.file.head (lines_of input) read.taken)) refl

pub returns-in_ok-ending-in-Err : goal.returns-in_ok-ending-in-Err
returns-in_ok-ending-in-Err c = λ start input writes taken.
    let bad = c.in-Err.ensures.fault start (lines_of input) taken in
    due-bad_head Text c.args.plan.now.chosen input c.in_ok-ending-in-Err.ending.text.items c.in_ok-ending-in-Err.ending.status (lines_of input) c.in-Err.fault c.in_ok-refusal-in-Err.refusal refl
    bad.good bad.refused c.in_ok-refusal-in-Err.ensures c.in_ok-ending-in-Err.ensures
