use Rattle.std.proofs.Common.{subst}
use Rattle.edit_journal.specs.declared.edit.Edit.TheVariants as edit
use Rattle.edit_book.specs.Outlines.{MayCome}
use Rattle.tally_examples.proofs.tests.edits.renames.Goals as goal

pub follows-requires-clause-comes : goal.follows-requires-clause-comes
follows-requires-clause-comes g c =
    let comes = c.may_change_head.ensures.yes c.names.result c.if-not-may_change_head.false in
    subst (λ opening. MayCome opening c.args.doc.now.entries (edit.Head 0 c.names.result)) c.outline.ensures.opening
    (subst (λ entries. MayCome c.outline.result.now.opening entries (edit.Head 0 c.names.result)) c.outline.ensures.entries comes)
