use Rattle.std.proofs.Common.{◌∙◌, ℕ, List, ap, subst, sym}
use Rattle.std.proofs.lemmas.Result.{IfOk-weaker}
use Rattle.journal_file.specs.Faults.{IsBadJournal, IsSavedTextRefused}
use Rattle.verdict_report.specs.Refusals.{refusal_text}
use Rattle.input_answers.specs.declared.outcome.Status.{Status}
use Rattle.input_answers.specs.DueReplay.{DueReplay, bad_journal, journal_refusal, replayed}
use Rattle.input_answers.proofs.replay.answer_replay.Goals as goal

pub returns-in_ok-text-in-Ok : goal.returns-in_ok-text-in-Ok
returns-in_ok-text-in-Ok g c =
    let saved = c.in-Ok.saved in
    replayed saved.head saved.profile saved.blocks saved.journal.entries c.in_ok-text-in-Ok.text.items (record { spelt = c.in-Ok.ensures.spelt; lawful = c.in-Ok.ensures.lawful }) c.in_ok-text-in-Ok.ensures

pub returns-in-Err-At : goal.returns-in-Err-At
returns-in-Err-At g c =
    let input : List ℕ = c.args.input.items in
    IfOk-weaker c.refusal.result _ _
    (λ ending is.
    subst (λ (t : List ℕ). DueReplay input t ending.status) (sym (is.0 ∙ ap refusal_text c.refusal_of_journal.ensures))
    (subst (λ (s : Status). DueReplay input (refusal_text (journal_refusal c.in-Err-At.line c.in-Err-At.cause)) s) (sym is.1)
    (bad_journal c.in-Err-At.line c.in-Err-At.cause (subst (IsBadJournal input) c.in-Err-At.field-0-is c.in-Err-At.ensures.bad)
    (subst (IsSavedTextRefused input) c.in-Err-At.field-0-is c.in-Err-At.ensures.refused))))
    c.refusal.ensures
