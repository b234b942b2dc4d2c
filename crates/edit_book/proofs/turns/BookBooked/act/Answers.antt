use Rattle.std.proofs.Common.{subst, sym}
use Rattle.edit_journal.specs.declared.edit.Entry.{Entry}
use Rattle.turn_book.specs.Journal.{Appends}
use Rattle.edit_book.specs.declared.reply.BookCommand.{BookCommand}
use Rattle.edit_book.specs.declared.reply.BookCommand.TheVariants.{Put, Add}
use Rattle.edit_book.specs.Turns.{IsFitBookCommand, IsRightReply}
use Rattle.edit_book.proofs.Appended.{turn_appends}
use Rattle.edit_book.proofs.PreparedTexts.{fit_again}
use Rattle.edit_book.proofs.turns.BookBooked.act.Goals as goal

pub returns-in-Put-clause-turn : goal.returns-in-Put-clause-turn
returns-in-Put-clause-turn g c =
    subst (λ (k : BookCommand). Appends (λ (e : Entry). e.session) c.args.number (IsRightReply c.args.self.now.opening c.args.self.now.entries c.args.number k c.put.result) c.args.self.now.entries c.put.new.self.entries)
    (sym c.in-Put.is)
    (turn_appends c.args.self.now.opening c.args.number (Put c.in-Put.block c.in-Put.seen c.in-Put.head c.in-Put.prepared) c.put.result c.args.self.now.entries c.put.new.self.entries c.ids.ensures.below_head c.put.ensures.turned)

pub returns-in-Add-clause-turn : goal.returns-in-Add-clause-turn
returns-in-Add-clause-turn g c =
    subst (λ (k : BookCommand). Appends (λ (e : Entry). e.session) c.args.number (IsRightReply c.args.self.now.opening c.args.self.now.entries c.args.number k c.add.result) c.args.self.now.entries c.add.new.self.entries)
    (sym c.in-Add.is)
    (turn_appends c.args.self.now.opening c.args.number (Add c.in-Add.anchor c.in-Add.head c.in-Add.prepared) c.add.result c.args.self.now.entries c.add.new.self.entries c.ids.ensures.below_head c.add.ensures.turned)

pub put_head-requires-clause-again : goal.put_head-requires-clause-again
put_head-requires-clause-again g c =
    fit_again c.args.self.now.opening c.args.self.now.entries c.in-PutHead.declared c.in-PutHead.again (subst (IsFitBookCommand c.args.self.now.opening c.args.self.now.entries) c.in-PutHead.is c.requires.fits)
