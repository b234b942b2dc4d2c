use Rattle.std.proofs.lemmas.Result.{IfOk-weaker}
use Rattle.value_tree.proofs.TreeParts.{parts_before_stand}
use Rattle.value_tree.proofs.tree.ValueTree.parts_before.Goals as goal

pub returns-clause-stand : goal.returns-clause-stand
returns-clause-stand g c =
    IfOk-weaker c.parts_before.result _ _
    (λ parts h. parts_before_stand g.S.Values.join g.S.Values.fits g.S.Values.cost g.S.Values.sound g.S.Values.stands g.met.S.Values.stand_laws g.met.S.Values.cost_law (g.S.Values.leaf_at c.args.self.now.store) (g.S.Values.node_at c.args.self.now.store) c.args.self.now.shape.tree parts.items c.args.at c.requires.kept.keeps c.requires.kept.there c.requires.kept.sound_leaves h)
    c.parts_before.ensures.parts
