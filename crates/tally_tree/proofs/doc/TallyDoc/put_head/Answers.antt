use Rattle.std.proofs.Common.{◌∙◌, ap, sym, subst}
use Rattle.knit_base.specs.Limits.{IsLawfulProfile}
use Rattle.tally_tree.specs.Trees.{leaf_tallies}
use Rattle.tally_tree.proofs.DocTrees.{head_next}
use Rattle.tally_tree.proofs.doc.TallyDoc.put_head.Goals as goal

pub tree_of-requires : goal.tree_of-requires
tree_of-requires g c = subst (λ s. IsLawfulProfile s.profile) (sym c.in_ok-setting.ensures) c.self.invariant.lawful.setting.profile

pub invariant_of-self-2 : goal.invariant_of-self-2
invariant_of-self-2 g c = record {
  lawful = c.follow.ensures.lawful;
  kept = c.in_ok-tree.ensures.kept;
  tallies = head_next c.self.inside.outline c.follow.new.self c.in_ok-try_clone.field-0 c.follow.ensures.opening c.in_ok-follow.ensures.ok c.follow.ensures.lawful c.requires.head.0 c.args.declared.now c.in_ok-setting.setting
      (leaf_tallies c.in_ok-tree.tree.shape c.in_ok-tree.tree.store.leaves.items) (ap (λ e. e.edit) c.in_ok-try_clone.ensures ∙ c.requires.head.1) c.in_ok-setting.ensures c.in_ok-tree.ensures.tallies;
}
