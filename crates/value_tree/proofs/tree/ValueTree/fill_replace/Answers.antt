use Rattle.std.proofs.Common.{refl}
use Rattle.value_tree.proofs.Changes.{rooms_replace}
use Rattle.value_tree.proofs.tree.ValueTree.fill_replace.Goals as goal

pub fill_need-requires : goal.fill_need-requires
fill_need-requires g c = record { there = rw (c.touch.ensures.listed) (rooms_replace g.S.Values.join g.S.Values.room g.S.Values.after (g.S.Values.leaf_at c.args.self.now.store) (g.S.Values.node_at c.args.self.now.store) c.leaf-number.result c.args.at c.args.room c.args.self.now.shape.tree c.args.self.now.shape c.len-len.ensures.lawful refl c.requires.kept.there c.requires.kept.keeps) }
