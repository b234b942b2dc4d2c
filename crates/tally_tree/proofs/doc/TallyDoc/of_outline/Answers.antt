use Rattle.std.proofs.Common.{subst}
use Rattle.std.specs.List.{AllZip}
use Rattle.knit_base.specs.declared.setting.Setting.{Setting}
use Rattle.edit_journal.specs.Documents.{Block}
use Rattle.edit_book.proofs.Blocks.{outline_lawful}
use Rattle.edit_book.specs.Outlines.{outline_document}
use Rattle.tally_tree.specs.Tallies.{TallyCounts}
use Rattle.tally_tree.specs.Trees.{IsTallyIn, leaf_tallies}
use Rattle.tally_tree.proofs.doc.TallyDoc.of_outline.Goals as goal

pub invariant_of-result : goal.invariant_of-result
invariant_of-result g c = record {
  lawful = outline_lawful _ _ _ _ _ _ _ c.outline.invariant.0 c.outline.view_is;
  kept = c.in_ok-tree.ensures.kept;
  tallies =
      subst (λ (s : Setting). AllZip (λ (v : TallyCounts) (b : Block). IsTallyIn s v b.lines) (leaf_tallies c.in_ok-tree.tree.shape c.in_ok-tree.tree.store.leaves.items) (outline_document c.args.outline).blocks) c.setting.ensures.setting
      c.in_ok-tree.ensures.tallies;
}
