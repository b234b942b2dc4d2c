use Rattle.std.proofs.Common.{List, sym, subst, arith}
use Rattle.edit_book.specs.HeaderTrees.{AreLeavesOf}
use Rattle.edit_book.specs.Outlines.{outline_document}
use Rattle.edit_book.specs.Verdicts.{setting_of}
use Rattle.edit_book.proofs.Openings.{prepared_count, prepared_leaves, prepared_work}
use Rattle.summary_tree.specs.Leaves.{Leaf}
use Rattle.edit_book.proofs.book.Book.of_outline.Goals as goal

pub of-requires : goal.of-requires
of-requires g c = let many = prepared_count c.args.blocks.items (outline_document c.args.outline).blocks c.requires.texts in omega (arith, many, c.ids-ids.ensures.lawful.fits.blocks_fit)

pub of_leaves-requires : goal.of_leaves-requires
of_leaves-requires g c =
    subst (λ (l : List Leaf). AreLeavesOf (setting_of c.args.outline.opening (outline_document c.args.outline)) l (outline_document c.args.outline).blocks) (sym c.in_ok-leaves.ensures.leaves)
    (prepared_leaves (setting_of c.args.outline.opening (outline_document c.args.outline)) c.args.blocks.items (outline_document c.args.outline).blocks c.requires.texts c.requires.prepared)

pub returns-clause-steps : goal.returns-clause-steps
returns-clause-steps g c =
    prepared_work (setting_of c.args.outline.opening (outline_document c.args.outline)) c.args.blocks.items (outline_document c.args.outline).blocks c.args.steps.now c.of_leaves.new.steps c.requires.texts c.of_leaves.ensures.steps
