use Rattle.std.proofs.Common.{take, sym, ◌∙◌, ap, arith}
use Rattle.std.proofs.lemmas.List.{take_all}
use Rattle.tree_shape.specs.Values.{leaf_values}
use Rattle.tree_shape.specs.View.{height_of_tree}
use Rattle.value_tree.specs.Found.{total_count}
use Rattle.value_tree.proofs.Descents.{begins, total_some}
use Rattle.value_tree.proofs.LeafLists.{count_values}
use Rattle.value_tree.proofs.Offsets.{begun}
use Rattle.value_tree.proofs.tree.ValueTree.count_before.Goals as goal

pub count_of-all-requires : goal.count_of-all-requires
count_of-all-requires g c =
    let b = begun g.S.Values.join g.S.Values.fits g.S.Values.cost g.S.Counts.count (g.S.Values.leaf_at c.args.self.now.store) (g.S.Values.node_at c.args.self.now.store) g.met.S.Counts.count_law g.S.Values.sound g.S.Values.stands g.met.S.Values.stand_laws g.met.S.Values.cost_law c.args.self.now.shape.tree c.in-Some.root (sym c.in-Some.is ∙ c.root.ensures) c.requires.kept.there c.requires.kept.sound_leaves c.requires.kept.keeps c.len-leaves.ensures.lawful.few in
    (b.v, b.value_is)

pub returns-then-leaves-at : goal.returns-then-leaves-at
returns-then-leaves-at g c =
    let b = begun g.S.Values.join g.S.Values.fits g.S.Values.cost g.S.Counts.count (g.S.Values.leaf_at c.args.self.now.store) (g.S.Values.node_at c.args.self.now.store) g.met.S.Counts.count_law g.S.Values.sound g.S.Values.stands g.met.S.Values.stand_laws g.met.S.Values.cost_law c.args.self.now.shape.tree c.in-Some.root (sym c.in-Some.is ∙ c.root.ensures) c.requires.kept.there c.requires.kept.sound_leaves c.requires.kept.keeps c.len-leaves.ensures.lawful.few in
    let xs = leaf_values (g.S.Values.leaf_at c.args.self.now.store) c.args.self.now.shape.tree in
    let whole = take_all c.args.at xs (omega (arith, count_values (g.S.Values.leaf_at c.args.self.now.store) c.args.self.now.shape.tree c.requires.kept.there, c.len-leaves.ensures.leaves, c.if-leaves-at.true)) in
    omega (arith, b.counts_is, c.count_of-all.ensures b.v b.value_is, ap (total_count g.S.Counts.count) whole)

pub loop-i-init : goal.loop-i-init
loop-i-init g c =
    begins g.S.Values.join g.S.Values.fits g.S.Values.cost g.S.Counts.count (g.S.Values.leaf_at c.args.self.now.store) (g.S.Values.node_at c.args.self.now.store) g.met.S.Counts.count_law g.S.Values.sound g.S.Values.stands g.met.S.Values.stand_laws g.met.S.Values.cost_law c.args.self.now.shape.tree c.in-Some.root c.args.at (sym c.in-Some.is ∙ c.root.ensures) c.requires.kept.there c.requires.kept.sound_leaves c.requires.kept.keeps (omega (arith, c.len-leaves.ensures.leaves, c.if-leaves-at.false))

pub descend-descent-requires : goal.descend-descent-requires
descend-descent-requires g c =
    let b = begun g.S.Values.join g.S.Values.fits g.S.Values.cost g.S.Counts.count (g.S.Values.leaf_at c.args.self.now.store) (g.S.Values.node_at c.args.self.now.store) g.met.S.Counts.count_law g.S.Values.sound g.S.Values.stands g.met.S.Values.stand_laws g.met.S.Values.cost_law c.args.self.now.shape.tree c.in-Some.root (sym c.in-Some.is ∙ c.root.ensures) c.requires.kept.there c.requires.kept.sound_leaves c.requires.kept.keeps c.len-leaves.ensures.lawful.few in
    let xs = leaf_values (g.S.Values.leaf_at c.args.self.now.store) c.args.self.now.shape.tree in
    let low = total_some g.S.Counts.count xs c.args.at in
    let is = c.count_of-all.ensures b.v b.value_is in
    (total_count g.S.Counts.count (take c.args.at xs), c.loop-i._i, height_of_tree c.args.self.now.shape.tree, omega (arith, c.loop-i-test.true, c.height-i-end.ensures.height), omega (arith, low, b.counts_is, is, c.count_of-all.type_inv), c.loop-i.invariant)
