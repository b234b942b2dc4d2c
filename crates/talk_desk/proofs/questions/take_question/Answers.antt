use Rattle.std.proofs.Common.{◌≡◌, ◌∙◌, List, ap, subst, sym}
use Rattle.edit_journal.specs.declared.edit.Entry.{Entry}
use Rattle.edit_journal.specs.declared.opening.Opening.{Opening}
use Rattle.edit_book.specs.Session.{HasLearned}
use Rattle.edit_groups.specs.Chunks.{entries_of_chunks}
use Rattle.edit_groups.specs.declared.session.GroupSession.{GroupSession}
use Rattle.reply_report.specs.declared.frame.Frame.{Frame}
use Rattle.talk_desk.specs.Hosts.{IsQuestionSaid, known_in, opening_in}
use Rattle.talk_desk.specs.declared.document.Style.{Style}
use Rattle.talk_desk.proofs.Said.{on-ok}
use Rattle.talk_desk.proofs.questions.take_question.Goals as goal

pub returns-clause-said : goal.returns-clause-said
returns-clause-said g c =
    let opening : c.book-2.result.now.opening ≡ opening_in c.args.document.now = c.book-2.ensures.opening ∙ ap (λ b. b.opening) c.book.ensures ∙ c.lend-held.ensures.book.0 in
    let entries : c.book-2.result.now.entries ≡ entries_of_chunks (known_in c.args.document.now) = c.book-2.ensures.entries ∙ ap (λ b. entries_of_chunks b.chunks) c.book.ensures ∙ ap entries_of_chunks c.lend-held.ensures.book.1 in
    let frame = c.next_frame.ensures.frame in
    on-ok c.tell_or_lack-said.result
    (λ f m at.
    subst (λ (p : Style × Opening × List Entry × Frame). IsQuestionSaid p.0 p.1 p.2 m p.3 c.args.question c.args.out.now.items c.tell_or_lack-said.new.out.items)
    (λ i. (c.lend-held.ensures.style i, opening i, entries i, record { session = frame.0 i; number = frame.1 i }))
    (f m (c.block_meant.ensures m (subst (λ (s : GroupSession). HasLearned s.session.learned m) (sym c.next_frame.ensures.session) at.remembers)))) c.tell_or_lack-said.ensures
