use Rattle.edit_sessions.proofs.Turns.{texts_given}
use Rattle.edit_sessions.specs.Shared.{shared_opening}
use Rattle.turn_book.specs.Passes.{view_of}
use Rattle.edit_sessions.proofs.head.all_texts.Goals as goal

pub returns-in-Texts-clause-given : goal.returns-in-Texts-clause-given
returns-in-Texts-clause-given g c =
    texts_given (shared_opening c.args.shared.now) c.args.number c.turn.result _ (view_of c.args.pass.now) (view_of c.turn.new.pass) _ _ c.in-Texts.is c.turn.ensures.turned
