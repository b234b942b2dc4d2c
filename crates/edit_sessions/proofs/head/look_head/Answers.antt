use Rattle.edit_book.specs.declared.reply.BookCommand.TheVariants.{LookHead}
use Rattle.edit_sessions.proofs.Turns.{names_later, names_looked}
use Rattle.edit_sessions.specs.Shared.{shared_opening}
use Rattle.turn_book.specs.Passes.{view_of}
use Rattle.edit_sessions.proofs.head.look_head.Goals as goal

pub returns-in-Some-clause-names : goal.returns-in-Some-clause-names
returns-in-Some-clause-names g c = λ head given.
    names_looked (shared_opening c.args.shared.now) c.args.number c.turn-reply.result _ (view_of c.args.pass.now) (view_of c.turn-reply.new.pass) head c.in-Some.names c.in-Some.ensures c.turn-reply.ensures.turned

pub returns-in-None-clause-names : goal.returns-in-None-clause-names
returns-in-None-clause-names g c = λ head given.
    names_later (shared_opening c.args.shared.now) c.args.number c.turn-reply.result _ (view_of c.args.pass.now) (view_of c.turn-reply.new.pass) LookHead head c.args.header.now.declared c.turn-reply.ensures.turned given
