use Rattle.std.proofs.Common.{◌≡◌, false, refl, subst}
use Rattle.command_words.specs.declared.command.Command.TheVariants.{Passes}
use Rattle.pass_grouping.specs.declared.tally.Tally.{Tally}
use Rattle.pass_grouping.specs.Tallies.{HasTallied}
use Rattle.input_answers.specs.FileRuns.{IsFileRun, IsRunOutcome}
use Rattle.input_answers.proofs.file_answers.answer_passes.Goals as goal

pub returns-in_ok-told-in-Ran : goal.returns-in_ok-told-in-Ran
returns-in_ok-told-in-Ran c = λ start input begins taken.
    c.in_ok-told-in-Ran.ensures c.args.plan.now.chosen input
    (subst (IsRunOutcome Tally HasTallied false c.args.plan.now.chosen input) c.in-Ran.is (c.in_ok-outcome.ensures false start input begins taken))

pub returns-in-Refused : goal.returns-in-Refused
returns-in-Refused c = λ start input begins taken.
    subst (IsRunOutcome Tally HasTallied false c.args.plan.now.chosen input) c.in-Refused.is (c.in_ok-outcome.ensures false start input begins taken) Passes refl
