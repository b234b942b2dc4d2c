use Rattle.std.proofs.Common.{sym, subst}
use Rattle.edit_book.specs.Outlines.{MayCome}
use Rattle.journal_file.specs.Faults.{MayNotCome}
use Rattle.journal_file.specs.SavedForms.{line_edit}
use Rattle.journal_file.proofs.entry_line.EntryLine.may_come.Goals as goal

pub returns-in-Header-clause-yes : goal.returns-in-Header-clause-yes
returns-in-Header-clause-yes c = λ text many yes.
    subst (λ e. MayCome c.args.outline.now.opening c.args.outline.now.entries (line_edit e text)) (sym c.in-Header.is) (c.may_change_head.ensures.yes c.in-Header.words.names yes)

pub returns-in-Header-clause-not : goal.returns-in-Header-clause-not
returns-in-Header-clause-not c = λ none.
    subst (MayNotCome c.args.outline.now.opening c.args.outline.now.entries) (sym c.in-Header.is) (λ text many come. c.may_change_head.ensures.not c.in-Header.words.names none come)
