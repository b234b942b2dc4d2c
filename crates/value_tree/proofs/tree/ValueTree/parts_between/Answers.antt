use Rattle.std.proofs.lemmas.Result.{IfOk-weaker}
use Rattle.value_tree.proofs.Stretches.{parts_between_stand}
use Rattle.value_tree.proofs.tree.ValueTree.parts_between.Goals as goal

pub returns : goal.returns
returns g c =
    record {
      stand =
          IfOk-weaker c.parts_between.result _ _
          (λ parts h. parts_between_stand g.S.Values.join g.S.Values.fits g.S.Values.cost g.S.Values.sound g.S.Values.stands g.met.S.Values.stand_laws g.met.S.Values.cost_law (g.S.Values.leaf_at c.args.self.now.store) (g.S.Values.node_at c.args.self.now.store) c.args.self.now.shape.tree parts.items c.args.from c.args.to c.requires.kept.keeps c.requires.kept.there c.requires.kept.sound_leaves h)
          c.parts_between.ensures.parts;
      few = c.parts_between.ensures.few;
    }
