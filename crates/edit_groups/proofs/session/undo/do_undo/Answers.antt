use Rattle.std.proofs.Common.{sym, ap, ◌∙◌, subst}
use Rattle.edit_journal.specs.Documents.{names_given}
use Rattle.script_reader.specs.declared.step.Step.TheVariants as step
use Rattle.edit_book.specs.Session.{HasLearned}
use Rattle.edit_groups.specs.Chunks.{entries_of_chunks}
use Rattle.edit_groups.specs.Shared.{group_book_opening}
use Rattle.edit_groups.specs.Turns.{undone_memory}
use Rattle.edit_groups.proofs.Heard.{names_along}
use Rattle.edit_groups.proofs.UndoHeard.{quiet_memory, undo_heard, undo_short}
use Rattle.turn_book.specs.Passes.{view_of}
use Rattle.edit_groups.proofs.session.undo.do_undo.Goals as goal

pub returns-then-not-make_room-clause-done : goal.returns-then-not-make_room-clause-done
returns-then-not-make_room-clause-done g c = λ m remembers.
    let o = group_book_opening c.args.shared.now in let v = view_of c.args.pass.now in let s = c.args.session.now in
    let h = undo_short o s.session.number s.last_put v in
    record {
      heard = h.heard;
      reply_is = h.reply_is;
      taken = h.taken m;
      kept = record { memory = m; remembers = c.make_room.ensures.kept m remembers; names = ap (names_given o (entries_of_chunks v.seen)) c.make_room.ensures.head ∙ c.requires.names };
      remembers = λ known. subst (HasLearned c.make_room.new.self) (sym (quiet_memory m s.last_put) ∙ h.memory known m) (c.make_room.ensures.kept m remembers);
      last = h.after;
    }

pub returns-clause-range : goal.returns-clause-range
returns-clause-range g c = (ap (λ x. x.first) c.turn-told.ensures.turned.after, ap (λ x. x.past) c.turn-told.ensures.turned.after)

pub returns-clause-done : goal.returns-clause-done
returns-clause-done g c = λ m remembers.
    let o = group_book_opening c.args.shared.now in let v = view_of c.args.pass.now in let w = view_of c.turn-told.new.pass in let s = c.args.session.now in
    let h = undo_heard o s.session.number s.last_put c.turn-told.result _ v w c.requires.number.0 c.requires.number.1 c.turn-told.ensures.turned in
    let learned = c.learn_undo.ensures.learned m (c.make_room.ensures.kept m remembers) in
    record {
      heard = h.heard;
      reply_is = h.reply_is;
      taken = h.taken m;
      kept = record {
        memory = undone_memory m s.last_put c.turn-told.result.reply;
        remembers = learned;
        names =
            ap (names_given o (entries_of_chunks w.seen)) (c.learn_undo.ensures.head ∙ h.head c.make_room.new.self.head ∙ c.make_room.ensures.head)
            ∙ names_along o s.session.number m step.Undo h.heard v w s.session.learned.head s.session.header.declared (h.taken m) c.requires.names;
      };
      remembers = λ known. subst (HasLearned c.learn_undo.new.learned) (h.memory known m) learned;
      last = h.after;
    }
