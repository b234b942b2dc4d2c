use Rattle.std.proofs.Common.{◌≡◌, refl, sym, ap, ◌∙◌, subst}
use Rattle.edit_journal.specs.Documents.{names_given}
use Rattle.script_reader.specs.declared.step.Step.TheVariants as step
use Rattle.edit_book.specs.Session.{HasLearned}
use Rattle.edit_groups.specs.Chunks.{entries_of_chunks}
use Rattle.edit_groups.specs.Sessions.{group_memory}
use Rattle.edit_groups.specs.Shared.{group_book_opening}
use Rattle.edit_groups.specs.Turns.{IsTaught, IsTaughtWhereDone}
use Rattle.edit_groups.specs.declared.reply.GroupReply.{GroupReply}
use Rattle.edit_groups.specs.declared.reply.GroupReply.TheVariants.{Done}
use Rattle.edit_groups.proofs.GroupLast.{NotDone, done_puts, missed_learned, missed_puts}
use Rattle.edit_groups.proofs.GroupTold.{lawful_group}
use Rattle.edit_groups.proofs.Heard.{names_along}
use Rattle.turn_book.specs.Passes.{view_of}
use Rattle.edit_groups.proofs.session.group.do_group.Goals as goal

pub returns-in-Done-clause-done : goal.returns-in-Done-clause-done
returns-in-Done-clause-done g c = λ m remembers.
    let o = group_book_opening c.args.shared.now in let s = c.args.session.now in let n = s.session.number in let cs = c.args.commands.now in
    let v = view_of c.args.pass.now in let w = view_of c.take_group-told.new.pass in
    let h = c.take_group-told.ensures.heard m remembers in let e = h.heard.edits in
    let is : h.heard.reply ≡ Done c.in-Done.version c.in-Done.from c.in-Done.brief = sym h.reply_is ∙ c.in-Done.is in
    let taught : IsTaught m c.in-Done.from c.take_group-told.result.ids cs e = subst (λ (r : GroupReply). IsTaughtWhereDone m c.take_group-told.result.ids cs r e) is h.taught in
    let kept = c.take_group-told.ensures.kept m remembers in
    let knows = subst (HasLearned c.learn_done.new.learned) (ap (λ (r : GroupReply). group_memory m cs r e) (sym is)) (c.learn_done.ensures.learned m e kept taught) in
    record {
      heard = h.heard;
      reply_is = sym is;
      taken = h.taken;
      kept = record {
        memory = group_memory m cs h.heard.reply e;
        remembers = knows;
        names =
            ap (names_given o (entries_of_chunks w.seen)) (c.learn_done.ensures.head m e kept taught ∙ c.take_group-told.ensures.head)
            ∙ names_along o n m (step.Group cs) h.heard v w s.session.learned.head s.session.header.declared h.taken c.requires.names;
      };
      remembers = λ known. knows;
      last = λ known. c.is_one_put.ensures ∙ done_puts o n m cs h.heard c.take_group-told.result.ids v w c.requires.number.0 c.requires.number.1 (lawful_group cs c.requires.step).some taught.told h.taken;
    }

pub returns-in_default : goal.returns-in_default
returns-in_default g c =
    let o = group_book_opening c.args.shared.now in let s = c.args.session.now in let n = s.session.number in let cs = c.args.commands.now in
    let v = view_of c.args.pass.now in let w = view_of c.take_group-told.new.pass in
    record {
      of_this = c.take_group-told.ensures.of_this;
      range = c.take_group-told.ensures.range;
      number = refl;
      done = λ m remembers.
          let h = c.take_group-told.ensures.heard m remembers in
          let not : NotDone h.heard.reply = λ version from brief is. c.in_default.not-Done version from brief (h.reply_is ∙ is) in
          let knows = subst (HasLearned c.learn_missed.new.learned) (sym (missed_learned m cs h.heard.reply h.heard.edits not)) (c.learn_missed.ensures.learned m (c.take_group-told.ensures.kept m remembers)) in
          record {
            heard = h.heard;
            reply_is = h.reply_is;
            taken = h.taken;
            kept = record {
              memory = group_memory m cs h.heard.reply h.heard.edits;
              remembers = knows;
              names =
                  ap (names_given o (entries_of_chunks w.seen)) (c.learn_missed.ensures.head ∙ c.take_group-told.ensures.head)
                  ∙ names_along o n m (step.Group cs) h.heard v w s.session.learned.head s.session.header.declared h.taken c.requires.names;
            };
            remembers = λ known. knows;
            last = λ known. known ∙ missed_puts o n m cs h.heard v w c.requires.number.0 c.requires.number.1 not h.taken;
          };
    }
