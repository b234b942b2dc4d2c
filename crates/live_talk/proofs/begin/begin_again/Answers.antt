use Rattle.std.proofs.Common.{◌≡◌, ◌∙◌, ℕ, List, length, ap, flat_map, subst, sym, arith}
use Rattle.knit_ports.specs.WholeLines.{with_feed}
use Rattle.input_answers.specs.DueReplay.{journal_refusal}
use Rattle.input_answers.specs.declared.outcome.Status.TheVariants as status
use Rattle.journal_file.specs.Faults.{IsBadJournal, IsSavedTextRefused}
use Rattle.verdict_report.specs.declared.refusal.Refusal.{Refusal}
use Rattle.live_talk.specs.Begins.{RefusesText}
use Rattle.live_talk.proofs.Documents.{begins-again, refused-again}
use Rattle.live_talk.proofs.begin.begin_again.Goals as goal

pub saved_in-requires : goal.saved_in-requires
saved_in-requires g c = omega (arith, ap length c.in_ok-bytes.ensures, c.requires.few)

pub returns-in-Ok : goal.returns-in-Ok
returns-in-Ok g c = λ told is same.
    begins-again c.args.plan.now told c.args.lines c.in-Ok.saved c.in_ok-begun-in-Ok.begun is same (sym c.in_ok-bytes.ensures ∙ c.in-Ok.ensures.spelt) c.in-Ok.ensures.lawful c.in_ok-begun-in-Ok.ensures

pub returns-in-Err-At : goal.returns-in-Err-At
returns-in-Err-At g c = λ told is same.
    subst (λ (r : Refusal). RefusesText c.args.plan.now told r status.BadInput) (sym (c.refusal_of_journal.ensures ∙ (λ i. journal_refusal (c.in-Err-At.line-is i) (c.in-Err-At.cause-is i))))
    (refused-again c.args.plan.now told c.args.lines c.in_ok-bytes.bytes.items c.in-Err-At.line c.in-Err-At.cause is same c.in_ok-bytes.ensures
    (subst (IsBadJournal c.in_ok-bytes.bytes.items) c.in-Err-At.field-0-is c.in-Err-At.ensures.bad) (subst (IsSavedTextRefused c.in_ok-bytes.bytes.items) c.in-Err-At.field-0-is c.in-Err-At.ensures.refused))
