use Rattle.std.proofs.Common.{◌≡◌, ◌∙◌, ◌++◌, List, ap, subst}
use Rattle.std.specs.Prelude.{OnOk}
use Rattle.edit_journal.specs.declared.edit.Entry.{Entry}
use Rattle.edit_journal.specs.declared.opening.Opening.{Opening}
use Rattle.edit_groups.specs.Chunks.{entries_of_chunks}
use Rattle.talk_desk.specs.Styles.{step_in}
use Rattle.reply_report.specs.declared.frame.Frame.{Frame}
use Rattle.talk_desk.specs.Hosts.{known_in, opening_in}
use Rattle.talk_desk.proofs.steps.say_reply.Goals as goal

pub returns-clause-said : goal.returns-clause-said
returns-clause-said g c =
    let opening : c.book-2.result.now.opening ≡ opening_in c.args.document.now = c.book-2.ensures.opening ∙ ap (λ b. b.opening) c.book.ensures ∙ c.lend-held.ensures.book.0 in
    let entries : c.book-2.result.now.entries ≡ entries_of_chunks (known_in c.args.document.now) = c.book-2.ensures.entries ∙ ap (λ b. entries_of_chunks b.chunks) c.book.ensures ∙ ap entries_of_chunks c.lend-held.ensures.book.1 in
    let frame = c.next_frame-frame.ensures.frame in
    subst (λ (p : Opening × List Entry × Frame). OnOk c.say_step_in-said.result (c.say_step_in-said.new.out.items ≡ c.args.out.now.items ++ step_in c.args.document.now.style.json p.0 p.1 p.2 c.args.reply.now))
    (λ i. (opening i, entries i, record { session = frame.0 i; number = frame.1 i })) c.say_step_in-said.ensures.ok
