use Rattle.std.proofs.Common.{◌≡◌, false, nat_le, subst, sym, ◌∙◌, arith}
use Rattle.carriage_model.specs.State.{empty_state}
use Rattle.edit_book.specs.Books.{BookView}
use Rattle.edit_book.specs.Entered.{stops_by}
use Rattle.edit_book.proofs.AskedLoops.{goes_told, stops_told}
use Rattle.edit_book.proofs.Trees.{root_good, root_fits}
use Rattle.summary_tree.specs.Leaves.{applied_each}
use Rattle.edit_book.proofs.Verdicts.{brief_at}
use Rattle.edit_book.proofs.Boxes.{root_of}
use Rattle.edit_book.proofs.book.Book.stops_before.Goals as goal

pub brief_of-requires-clause-good : goal.brief_of-requires-clause-good
brief_of-requires-clause-good c = root_good _ _ _ _ c.self.invariant (root_of _ _ c.deref.ensures _ c.root.ensures)

pub brief_of-requires-clause-lines : goal.brief_of-requires-clause-lines
brief_of-requires-clause-lines c = let fits = root_fits _ _ _ _ c.self.invariant (root_of _ _ c.deref.ensures _ c.root.ensures) in omega (arith, fits, c.first.ensures)

pub returns-in-Sound : goal.returns-in-Sound
returns-in-Sound c =
    subst (λ (w : BookView). false ≡ stops_by c.args.line (applied_each w.tree.leaves empty_state w.opening.setting.first)) c.self.view_is
    (goes_told _ _ _ c.args.line _ _ _ _ (root_of _ _ c.deref.ensures _ c.root.ensures) (brief_at c.root.result _ _ _ c.first.ensures (sym c.in-Sound.is ∙ c.brief_of.ensures)))

pub returns-in-Broken : goal.returns-in-Broken
returns-in-Broken c =
    subst (λ (w : BookView). nat_le c.in-Broken.fault.line c.args.line ≡ stops_by c.args.line (applied_each w.tree.leaves empty_state w.opening.setting.first)) c.self.view_is
    (stops_told _ _ _ c.args.line _ (root_of _ _ c.deref.ensures _ c.root.ensures) (brief_at c.root.result _ _ _ c.first.ensures (sym c.in-Broken.is ∙ c.brief_of.ensures)))
