use Rattle.std.proofs.Common.{◌∙◌, ap}
use Rattle.value_tree.proofs.LeafLists.{value_of_leaf}
use Rattle.value_tree.proofs.tree.ValueTree.leaf.Goals as goal

pub returns : goal.returns
returns g c =
    let w = value_of_leaf (g.S.Values.leaf_at c.args.self.now.store) c.args.self.now.shape.tree c.args.at c.requires.kept.there c.requires.place in
    (w.0, ap (g.S.Values.leaf_at c.args.self.now.store) c.leaf.ensures ∙ w.1, w.2)
