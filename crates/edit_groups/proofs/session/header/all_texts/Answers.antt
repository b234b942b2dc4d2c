use Rattle.edit_groups.proofs.OneTurns.{texts_given, texts_see_more}
use Rattle.edit_groups.specs.Shared.{group_book_opening}
use Rattle.turn_book.specs.Passes.{view_of}
use Rattle.edit_groups.proofs.session.header.all_texts.Goals as goal

pub returns-in-Texts-clause-more : goal.returns-in-Texts-clause-more
returns-in-Texts-clause-more g c = texts_see_more (group_book_opening c.args.shared.now) c.args.number c.turn_one.result (view_of c.args.pass.now) (view_of c.turn_one.new.pass) c.turn_one.ensures.turned

pub returns-in-Texts-clause-given : goal.returns-in-Texts-clause-given
returns-in-Texts-clause-given g c = texts_given (group_book_opening c.args.shared.now) c.args.number c.turn_one.result (view_of c.args.pass.now) (view_of c.turn_one.new.pass) _ _ c.in-Texts.is c.turn_one.ensures.turned
