use Rattle.std.proofs.Common.{subst, arith}
use Rattle.std.proofs.lemmas.Result.{IfOk-weaker}
use Rattle.edit_journal.specs.Documents.{body}
use Rattle.edit_book.specs.Books.{BookView, document}
use Rattle.edit_book.specs.Verdicts.{HasVerdict, setting_of}
use Rattle.edit_book.proofs.Trees.{root_good, root_fits}
use Rattle.edit_book.proofs.Verdicts.{root_verdict, told_at}
use Rattle.edit_book.proofs.Boxes.{root_of}
use Rattle.edit_book.proofs.book.Book.whole_verdict.Goals as goal

pub verdict_of-requires-clause-good : goal.verdict_of-requires-clause-good
verdict_of-requires-clause-good c = root_good _ _ _ _ c.self.invariant (root_of _ _ c.deref.ensures _ c.root.ensures)

pub verdict_of-requires-clause-lines : goal.verdict_of-requires-clause-lines
verdict_of-requires-clause-lines c = let fits = root_fits _ _ _ _ c.self.invariant (root_of _ _ c.deref.ensures _ c.root.ensures) in omega (arith, fits, c.first.ensures)

pub returns : goal.returns
returns c =
    IfOk-weaker c.verdict_of.result _ _
    (λ told is.
    subst (λ (w : BookView). HasVerdict (setting_of w.opening (document w)) (body (document w)) told) c.self.view_is (root_verdict _ _ _ _ told c.self.invariant (root_of _ _ c.deref.ensures _ c.root.ensures) (told_at c.root.result _ _ told c.first.ensures is)))
    c.verdict_of.ensures.verdict
