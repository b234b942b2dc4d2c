use Rattle.std.proofs.Common.{◌∙◌, ℕ, List, ap, subst, sym}
use Rattle.std.proofs.lemmas.Result.{IfOk-weaker}
use Rattle.journal_file.specs.Faults.{IsBadJournal, IsSavedTextRefused}
use Rattle.tally_tree.specs.Docs.{DocView}
use Rattle.verdict_report.specs.Refusals.{refusal_text}
use Rattle.input_answers.specs.declared.outcome.Status.{Status}
use Rattle.input_answers.specs.DueReplay.{journal_refusal}
use Rattle.input_answers.specs.DueTally.{DueTally, IsDueRange, bad_journal, ended}
use Rattle.input_answers.proofs.tally.answer_tally.Goals as goal

pub returns-in_ok-outline-in-Ok : goal.returns-in_ok-outline-in-Ok
returns-in_ok-outline-in-Ok g c =
    let saved = c.in-Ok.saved in
    IfOk-weaker c.tally_at_end.result _ _
    (λ ending due.
    ended saved.head saved.profile saved.blocks saved.journal.entries ending.text.items ending.status (record { spelt = c.in-Ok.ensures.spelt; lawful = c.in-Ok.ensures.lawful })
    (subst (λ (d : DocView). IsDueRange d c.args.from c.args.to ending.text.items ending.status) (λ i. record { opening = c.in_ok-outline-in-Ok.ensures.opening i; entries = c.in_ok-outline-in-Ok.ensures.entries i }) due))
    c.tally_at_end.ensures

pub returns-in-Err-At : goal.returns-in-Err-At
returns-in-Err-At g c =
    let input : List ℕ = c.args.input.items in
    IfOk-weaker c.refusal.result _ _
    (λ ending is.
    subst (λ (t : List ℕ). DueTally c.args.from c.args.to input t ending.status) (sym (is.0 ∙ ap refusal_text c.refusal_of_journal.ensures))
    (subst (λ (s : Status). DueTally c.args.from c.args.to input (refusal_text (journal_refusal c.in-Err-At.line c.in-Err-At.cause)) s) (sym is.1)
    (bad_journal c.in-Err-At.line c.in-Err-At.cause (subst (IsBadJournal input) c.in-Err-At.field-0-is c.in-Err-At.ensures.bad)
    (subst (IsSavedTextRefused input) c.in-Err-At.field-0-is c.in-Err-At.ensures.refused))))
    c.refusal.ensures
