use Rattle.std.proofs.Common.{Ok, refl}
use Rattle.script_reader.specs.declared.command.Command.TheVariants as command
use Rattle.edit_book.specs.declared.reply.BookCommand.TheVariants.{LookHead}
use Rattle.edit_groups.proofs.OneHeard.{heard_turn, heard_unnamed}
use Rattle.edit_groups.proofs.OneTurns.{names_later, names_looked, head_sees_more}
use Rattle.edit_groups.specs.Shared.{group_book_opening}
use Rattle.turn_book.specs.Passes.{view_of}
use Rattle.edit_groups.proofs.session.header.look_head.Goals as goal

pub returns-in-Some-clause-range : goal.returns-in-Some-clause-range
returns-in-Some-clause-range g c = (c.turn_one-reply.ensures.turned.first, c.turn_one-reply.ensures.turned.past)

pub returns-in-None-clause-range : goal.returns-in-None-clause-range
returns-in-None-clause-range g c = (c.turn_one-reply.ensures.turned.first, c.turn_one-reply.ensures.turned.past)

pub returns-in-Some-clause-names : goal.returns-in-Some-clause-names
returns-in-Some-clause-names g c = λ head given.
    names_looked (group_book_opening c.args.shared.now) c.args.number c.turn_one-reply.result (view_of c.args.pass.now) (view_of c.turn_one-reply.new.pass) head c.in-Some.names c.in-Some.ensures c.turn_one-reply.ensures.turned

pub returns-in-None-clause-names : goal.returns-in-None-clause-names
returns-in-None-clause-names g c = λ head given.
    names_later (group_book_opening c.args.shared.now) c.args.number LookHead c.turn_one-reply.result (view_of c.args.pass.now) (view_of c.turn_one-reply.new.pass) c.turn_one-reply.ensures.turned head c.args.header.now.declared given

pub returns-in-Some-clause-heard : goal.returns-in-Some-clause-heard
returns-in-Some-clause-heard g c = λ m.
    heard_turn (group_book_opening c.args.shared.now) c.args.number m command.LookHead c.turn_one-reply.result (view_of c.args.pass.now) (view_of c.turn_one-reply.new.pass) LookHead refl c.turn_one-reply.ensures.turned

pub returns-in-None-clause-heard : goal.returns-in-None-clause-heard
returns-in-None-clause-heard g c = λ m.
    heard_unnamed (group_book_opening c.args.shared.now) c.args.number m command.LookHead (view_of c.args.pass.now) (view_of c.turn_one-reply.new.pass)
    (head_sees_more (group_book_opening c.args.shared.now) c.args.number c.turn_one-reply.result (view_of c.args.pass.now) (view_of c.turn_one-reply.new.pass) c.turn_one-reply.ensures.turned)
