use Rattle.std.proofs.Common.{ap, ◌∙◌}
use Rattle.edit_journal.specs.Documents.{names_given}
use Rattle.edit_sessions.specs.Shared.{shared_opening}
use Rattle.edit_book.proofs.NamesKept.{asks_blocks, head_kept, of_blocks}
use Rattle.edit_book.specs.Replies.{request_of_command}
use Rattle.edit_sessions.proofs.Turns.{names_beside}
use Rattle.turn_book.specs.Passes.{view_of}
use Rattle.edit_sessions.proofs.take.take.Goals as goal

pub turn-requires-clause-fits : goal.turn-requires-clause-fits
turn-requires-clause-fits g c = c.in-Ok.ensures.fits (shared_opening c.args.shared.now) (view_of c.args.pass.now).seen c.requires.setting c.requires.names

pub returns-in-Ok-clause-names : goal.returns-in-Ok-clause-names
returns-in-Ok-clause-names g c =
    names_beside (shared_opening c.args.shared.now) c.args.number c.turn.result _ (view_of c.args.pass.now) (view_of c.turn.new.pass) c.args.command.now c.in-Ok.asked c.args.learned.now.head c.args.header.now.declared
    (asks_blocks c.args.command.now (request_of_command c.in-Ok.asked) (of_blocks c.args.command.now c.in_default.not-LookHead c.in_default.not-PutHead) c.in-Ok.ensures.kind) c.turn.ensures.turned c.requires.names

pub returns-clause-names : goal.returns-clause-names
returns-clause-names g c = ap (names_given (shared_opening c.args.shared.now) (view_of c.args.pass.now).seen) (head_kept c.args.command.now c.in-Err.reply c.args.learned.now.head c.in-Err.ensures.untold) ∙ c.requires.names
