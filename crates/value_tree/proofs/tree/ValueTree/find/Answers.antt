use Rattle.std.proofs.Common.{sym, ◌∙◌, arith}
use Rattle.tree_shape.specs.Values.{leaf_values}
use Rattle.value_tree.proofs.Offsets.{begun, found_past}
use Rattle.value_tree.proofs.tree.ValueTree.find.Goals as goal

pub count_of-requires : goal.count_of-requires
count_of-requires g c =
    let b = begun g.S.Values.join g.S.Values.fits g.S.Values.cost g.S.Counts.count (g.S.Values.leaf_at c.args.self.now.store) (g.S.Values.node_at c.args.self.now.store) g.met.S.Counts.count_law g.S.Values.sound g.S.Values.stands g.met.S.Values.stand_laws g.met.S.Values.cost_law c.args.self.now.shape.tree c.in-Some.root (sym c.in-Some.is ∙ c.root.ensures) c.requires.kept.there c.requires.kept.sound_leaves c.requires.kept.keeps c.len-len.ensures.lawful.few in
    (b.v, b.value_is)

pub returns-then-count_of-offset : goal.returns-then-count_of-offset
returns-then-count_of-offset g c =
    let b = begun g.S.Values.join g.S.Values.fits g.S.Values.cost g.S.Counts.count (g.S.Values.leaf_at c.args.self.now.store) (g.S.Values.node_at c.args.self.now.store) g.met.S.Counts.count_law g.S.Values.sound g.S.Values.stands g.met.S.Values.stand_laws g.met.S.Values.cost_law c.args.self.now.shape.tree c.in-Some.root (sym c.in-Some.is ∙ c.root.ensures) c.requires.kept.there c.requires.kept.sound_leaves c.requires.kept.keeps c.len-len.ensures.lawful.few in
    sym (found_past g.S.Counts.count (leaf_values (g.S.Values.leaf_at c.args.self.now.store) c.args.self.now.shape.tree) c.args.offset (omega (arith, b.counts_is, c.count_of.ensures b.v b.value_is, c.if-count_of-offset.true)))

pub loop-i-init : goal.loop-i-init
loop-i-init g c =
    let b = begun g.S.Values.join g.S.Values.fits g.S.Values.cost g.S.Counts.count (g.S.Values.leaf_at c.args.self.now.store) (g.S.Values.node_at c.args.self.now.store) g.met.S.Counts.count_law g.S.Values.sound g.S.Values.stands g.met.S.Values.stand_laws g.met.S.Values.cost_law c.args.self.now.shape.tree c.in-Some.root (sym c.in-Some.is ∙ c.root.ensures) c.requires.kept.there c.requires.kept.sound_leaves c.requires.kept.keeps c.len-len.ensures.lawful.few in
    b.start c.args.offset (omega (arith, c.count_of.ensures b.v b.value_is, c.if-count_of-offset.false))
