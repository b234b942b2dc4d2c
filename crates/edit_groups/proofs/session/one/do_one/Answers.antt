use Rattle.std.proofs.Common.{sym, ap, ◌∙◌, subst}
use Rattle.edit_journal.specs.Documents.{names_given}
use Rattle.edit_book.specs.Memory.{head_told, stamp_told_by}
use Rattle.edit_book.specs.Session.{HasLearned}
use Rattle.edit_groups.specs.Chunks.{entries_of_chunks}
use Rattle.edit_groups.specs.Sessions.{one_memory}
use Rattle.edit_groups.specs.Shared.{group_book_opening}
use Rattle.edit_groups.specs.Turns.{put_after}
use Rattle.edit_groups.proofs.LastPuts.{one_puts}
use Rattle.edit_groups.proofs.OneHeard.{one_learned}
use Rattle.turn_book.specs.Passes.{view_of}
use Rattle.edit_groups.proofs.session.one.do_one.Goals as goal

pub returns-clause-done : goal.returns-clause-done
returns-clause-done g c = λ m remembers.
    let o = group_book_opening c.args.shared.now in let n = c.args.session.now.session.number in
    let v = view_of c.args.pass.now in let w = view_of c.take_one-reply.new.pass in
    let said = c.args.command.now in let r = c.take_one-reply.result in
    let h = c.take_one-reply.ensures.heard m remembers in
    let knows = subst (HasLearned c.learn.new.self) (sym (one_learned m said r) ∙ ap (one_memory m said) h.reply_is) (c.learn.ensures.learned m (c.take_one-reply.ensures.kept m remembers)) in
    record {
      heard = h.heard;
      reply_is = c.as_step.ensures ∙ h.reply_is;
      taken = h.taken;
      kept = record {
        memory = one_memory m said h.heard.reply;
        remembers = knows;
        names = ap (names_given o (entries_of_chunks w.seen)) (c.learn.ensures.head ∙ ap (head_told (stamp_told_by said r)) c.take_one-reply.ensures.head) ∙ c.take_one-reply.ensures.names;
      };
      remembers = λ known. knows;
      last = λ known. c.last_put_after.ensures ∙ ap (put_after said r) known ∙ one_puts o n m said r v w c.requires.number.0 c.requires.number.1 h;
    }
