use Rattle.std.proofs.Common.{◌≡◌, ◌∙◌, refl, subst}
use Rattle.command_words.specs.declared.command.Command.TheVariants.{Check}
use Rattle.knit_base.specs.Lines.{lines_of}
use Rattle.file_run.specs.declared.taker.Nothing.{Nothing}
use Rattle.file_run.specs.Runs.{HasTakenAny}
use Rattle.input_answers.specs.FileRuns.{IsFileRun, IsRunOutcome}
use Rattle.input_answers.proofs.BodyRuns.{check-report}
use Rattle.input_answers.proofs.Dues.{due-judged}
use Rattle.input_answers.proofs.file_answers.answer_check.Goals as goal

pub returns-in_ok-told-in-Ran : goal.returns-in_ok-told-in-Ran
returns-in_ok-told-in-Ran c = λ start input begins taken.
    let chosen = c.args.plan.now.chosen in
    let file = c.in-Ran.file in
    let told = c.in_ok-told-in-Ran.told in
    let ran : IsFileRun Nothing HasTakenAny c.args.style.loops chosen input file =
    subst (IsRunOutcome Nothing HasTakenAny c.args.style.loops chosen input) c.in-Ran.is (c.in_ok-outcome.ensures c.args.style.loops start input begins taken) in
    due-judged c.args.style.loops c.args.style.json chosen input told.text.items told.status (lines_of input) file.head refl ran.headed.good ran.headed.head_is ran.fits
    (check-report chosen.profile c.args.style.loops c.args.style.json file.head.declared (lines_of input) told.text.items _ file.run.judgement told.status ran.ran.judgement
    (c.text_of-broken.ensures ∙ ran.ran.broken) c.in_ok-told-in-Ran.ensures.text c.in_ok-told-in-Ran.ensures.status)

pub returns-in-Refused : goal.returns-in-Refused
returns-in-Refused c = λ start input begins taken.
    subst (IsRunOutcome Nothing HasTakenAny c.args.style.loops c.args.plan.now.chosen input) c.in-Refused.is (c.in_ok-outcome.ensures c.args.style.loops start input begins taken)
    (Check c.args.style.loops c.args.style.json) refl
