use Rattle.std.proofs.Common.{subst, arith}
use Rattle.edit_journal.specs.Documents.{body}
use Rattle.edit_book.specs.Books.{BookView, document}
use Rattle.edit_book.specs.Verdicts.{IsBriefOn, setting_of}
use Rattle.edit_book.proofs.Trees.{root_good, root_fits}
use Rattle.edit_book.proofs.Verdicts.{brief_at, root_brief}
use Rattle.edit_book.proofs.Boxes.{root_of}
use Rattle.edit_book.proofs.book.Book.verdict.Goals as goal

pub brief_of-requires-clause-good : goal.brief_of-requires-clause-good
brief_of-requires-clause-good c = root_good _ _ _ _ c.self.invariant (root_of _ _ c.deref.ensures _ c.root.ensures)

pub brief_of-requires-clause-lines : goal.brief_of-requires-clause-lines
brief_of-requires-clause-lines c = let fits = root_fits _ _ _ _ c.self.invariant (root_of _ _ c.deref.ensures _ c.root.ensures) in omega (arith, fits, c.first.ensures)

pub returns : goal.returns
returns c =
    subst (λ (w : BookView). IsBriefOn (setting_of w.opening (document w)) (body (document w)) c.brief_of.result) c.self.view_is
    (root_brief _ _ _ _ _ c.self.invariant (root_of _ _ c.deref.ensures _ c.root.ensures) (brief_at c.root.result _ _ _ c.first.ensures c.brief_of.ensures))
