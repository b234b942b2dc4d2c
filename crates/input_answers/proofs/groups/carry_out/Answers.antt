use Rattle.std.proofs.Common.{◌≡◌, ◌∙◌, Some, List, ap, subst, sym}
use Rattle.edit_journal.specs.declared.edit.Entry.{Entry}
use Rattle.edit_journal.specs.declared.opening.Opening.{Opening}
use Rattle.input_answers.specs.declared.outcome.GroupOutcome.{GroupOutcome}
use Rattle.input_answers.specs.declared.outcome.Status.{Status}
use Rattle.input_answers.specs.DueGroups.{DueGroups, edited}
use Rattle.reply_report.specs.GroupsText.{IsGroupsReport}
use Rattle.input_answers.specs.Played.{Played, groups_played}
use Rattle.input_answers.proofs.groups.carry_out.Goals as goal

pub returns : goal.returns
returns g c = λ input has.
    let opening : Opening = c.in_ok-opened.opened.book.opening in
    let did : GroupOutcome = record { script = c.args.script; chunks = c.in_ok-book.chunks; replies = c.in_ok-book.replies } in
    let text = c.in_ok-text.text.items in
    let due = edited c.args.head.now opening did text has c.requires.fits c.in_ok-opened.ensures.opening c.in_ok-book.ensures.legal
    (subst (λ (p : Opening × List Entry). IsGroupsReport p.0 p.1 c.in_ok-book.replies text) (λ i. (c.in_ok-book.ensures.opening i, c.in_ok-book.ensures.entries i)) c.in_ok-text.ensures.text) in
    subst (λ (p : Played × Status). DueGroups c.args.plan.now.chosen input p.0 text p.1)
    (λ i. (
      ap (λ (p : Played). record { script = p.script; entries = p.entries; replies = p.replies; groups = Some did }) (sym c.without_sessions-outcome.ensures.played) i,
      sym c.without_sessions-outcome.ensures.status i,
    ))
    due
