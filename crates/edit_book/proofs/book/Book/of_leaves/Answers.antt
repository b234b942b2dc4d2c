use Rattle.std.proofs.Common.{sym, subst, ◌∙◌}
use Rattle.edit_book.specs.Books.{AreLawfulLeaves}
use Rattle.edit_book.specs.Outlines.{outline_document}
use Rattle.edit_book.specs.Verdicts.{setting_of}
use Rattle.edit_book.proofs.Blocks.{with_leaves}
use Rattle.edit_book.proofs.Boxes.{leaves_of}
use Rattle.edit_book.proofs.Trees.{sound_of}
use Rattle.edit_book.proofs.Work.{leaves_work}
use Rattle.edit_book.proofs.book.Book.of_leaves.Goals as goal

pub start-requires : goal.start-requires
start-requires g c = sound_of _ _ _ (with_leaves _ _ _ c.ids-ids.ensures.lawful c.requires)

pub returns-in_err-tree-clause-steps : goal.returns-in_err-tree-clause-steps
returns-in_err-tree-clause-steps g c =
    leaves_work (setting_of c.args.outline.opening (outline_document c.args.outline)) c.args.leaves.items (outline_document c.args.outline).blocks c.args.steps.now c.start.new.steps c.requires c.start.ensures.steps

pub returns-in_err-tree-2-clause-steps : goal.returns-in_err-tree-2-clause-steps
returns-in_err-tree-2-clause-steps g c =
    leaves_work (setting_of c.args.outline.opening (outline_document c.args.outline)) c.args.leaves.items (outline_document c.args.outline).blocks c.args.steps.now c.start.new.steps c.requires c.start.ensures.steps

pub invariant_of-result : goal.invariant_of-result
invariant_of-result g c =
    subst (AreLawfulLeaves c.args.outline.opening c.args.outline.entries) (sym (leaves_of _ _ c.in_ok-tree-2.ensures.ok ∙ c.in_ok-tree.ensures.leaves)) (with_leaves _ _ _ c.ids-ids.ensures.lawful c.requires)

pub returns-clause-steps : goal.returns-clause-steps
returns-clause-steps g c =
    leaves_work (setting_of c.args.outline.opening (outline_document c.args.outline)) c.args.leaves.items (outline_document c.args.outline).blocks c.args.steps.now c.start.new.steps c.requires c.start.ensures.steps
