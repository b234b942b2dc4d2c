use Rattle.value_tree.proofs.Changes.{root_stands}
use Rattle.value_tree.proofs.tree.ValueTree.root.Goals as goal

pub returns-clause-stands : goal.returns-clause-stands
returns-clause-stands g c = root_stands g.S.Values.join g.S.Values.fits g.S.Values.cost g.S.Values.room g.S.Values.after g.S.Values.within g.S.Values.sound g.S.Values.stands g.met.S.Values.stand_laws g.met.S.Values.cost_law (g.S.Values.leaf_at c.args.self.now.store) (g.S.Values.node_at c.args.self.now.store) c.args.self.now.shape.tree c.root.result c.root.ensures c.requires.kept.there c.requires.kept.sound_leaves c.requires.kept.keeps
