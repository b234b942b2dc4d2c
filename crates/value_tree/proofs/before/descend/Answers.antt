use Rattle.std.proofs.Common.{◌≡◌, ◌∙◌, ap, arith}
use Rattle.tree_shape.specs.Tree.{name, count}
use Rattle.tree_shape.specs.Values.{part}
use Rattle.value_tree.proofs.Descents.{at_inner, near_value, near_is_part, go_near, go_far, low_far}
use Rattle.value_tree.proofs.before.descend.Goals as goal

pub children-near-requires : goal.children-near-requires
children-near-requires g c =
    let q = c.requires in
    let o = at_inner g.S.Values.join g.S.Values.fits g.S.Values.cost g.S.Counts.count (g.S.Values.leaf_at c.args.store.now) (g.S.Values.node_at c.args.store.now) g.met.S.Counts.count_law c.args.shape.now.tree q.0 q.1 q.2 c.args.descent c.in-Inner.inner q.5 c.in-Inner.is in
    (o.1, o.2, o.3.part)

pub leaves_below-leaves-requires : goal.leaves_below-leaves-requires
leaves_below-leaves-requires g c =
    let q = c.requires in
    let o = at_inner g.S.Values.join g.S.Values.fits g.S.Values.cost g.S.Counts.count (g.S.Values.leaf_at c.args.store.now) (g.S.Values.node_at c.args.store.now) g.met.S.Counts.count_law c.args.shape.now.tree q.0 q.1 q.2 c.args.descent c.in-Inner.inner q.5 c.in-Inner.is in
    let near : c.children-near.result.0 ≡ name o.1 = ap (λ p. p.0) (c.children-near.ensures o.1 o.2 o.3.part) in
    (o.1, near, near_is_part g.S.Values.join g.S.Values.fits g.S.Values.cost g.S.Counts.count (g.S.Values.leaf_at c.args.store.now) (g.S.Values.node_at c.args.store.now) g.met.S.Counts.count_law c.args.shape.now.tree q.0 q.1 q.2 c.args.descent o.0 c.in-Inner.inner o.1 o.2 o.3)

pub returns-then-descent-leaves : goal.returns-then-descent-leaves
returns-then-descent-leaves g c = λ whole done high more w.
    let o = at_inner g.S.Values.join g.S.Values.fits g.S.Values.cost g.S.Counts.count (g.S.Values.leaf_at c.args.store.now) (g.S.Values.node_at c.args.store.now) g.met.S.Counts.count_law c.args.shape.now.tree whole done high c.args.descent c.in-Inner.inner w c.in-Inner.is in
    let near : c.children-near.result.0 ≡ name o.1 = ap (λ p. p.0) (c.children-near.ensures o.1 o.2 o.3.part) in
    let many : c.leaves_below-leaves.result ≡ count o.1 = c.leaves_below-leaves.ensures o.1 near (near_is_part g.S.Values.join g.S.Values.fits g.S.Values.cost g.S.Counts.count (g.S.Values.leaf_at c.args.store.now) (g.S.Values.node_at c.args.store.now) g.met.S.Counts.count_law c.args.shape.now.tree whole done high c.args.descent o.0 c.in-Inner.inner o.1 o.2 o.3) in
    (o.0, o.1, go_near g.S.Values.join g.S.Values.fits g.S.Values.cost g.S.Counts.count (g.S.Values.leaf_at c.args.store.now) (g.S.Values.node_at c.args.store.now) g.met.S.Counts.count_law c.args.shape.now.tree whole done high c.args.descent o.0 c.in-Inner.inner o.1 o.2 o.3 c.children-near.result.0 near (omega (arith, many, c.if-descent-leaves.true)) more)

pub count_of-requires : goal.count_of-requires
count_of-requires g c =
    let q = c.requires in
    let o = at_inner g.S.Values.join g.S.Values.fits g.S.Values.cost g.S.Counts.count (g.S.Values.leaf_at c.args.store.now) (g.S.Values.node_at c.args.store.now) g.met.S.Counts.count_law c.args.shape.now.tree q.0 q.1 q.2 c.args.descent c.in-Inner.inner q.5 c.in-Inner.is in
    let near : c.children-near.result.0 ≡ name o.1 = ap (λ p. p.0) (c.children-near.ensures o.1 o.2 o.3.part) in
    (o.3.fit.0, ap (part (g.S.Values.leaf_at c.args.store.now) (g.S.Values.node_at c.args.store.now)) near ∙ near_value g.S.Values.join g.S.Values.fits g.S.Values.cost g.S.Counts.count (g.S.Values.leaf_at c.args.store.now) (g.S.Values.node_at c.args.store.now) g.met.S.Counts.count_law c.args.shape.now.tree q.0 q.1 q.2 c.args.descent o.0 c.in-Inner.inner o.1 o.2 o.3)

pub overflow_add-result : goal.overflow_add-result
overflow_add-result g c =
    let q = c.requires in
    let o = at_inner g.S.Values.join g.S.Values.fits g.S.Values.cost g.S.Counts.count (g.S.Values.leaf_at c.args.store.now) (g.S.Values.node_at c.args.store.now) g.met.S.Counts.count_law c.args.shape.now.tree q.0 q.1 q.2 c.args.descent c.in-Inner.inner q.5 c.in-Inner.is in
    let near : c.children-near.result.0 ≡ name o.1 = ap (λ p. p.0) (c.children-near.ensures o.1 o.2 o.3.part) in
    let many : c.leaves_below-leaves.result ≡ count o.1 = c.leaves_below-leaves.ensures o.1 near (near_is_part g.S.Values.join g.S.Values.fits g.S.Values.cost g.S.Counts.count (g.S.Values.leaf_at c.args.store.now) (g.S.Values.node_at c.args.store.now) g.met.S.Counts.count_law c.args.shape.now.tree q.0 q.1 q.2 c.args.descent o.0 c.in-Inner.inner o.1 o.2 o.3) in
    let here = c.count_of.ensures o.3.fit.0 (ap (part (g.S.Values.leaf_at c.args.store.now) (g.S.Values.node_at c.args.store.now)) near ∙ near_value g.S.Values.join g.S.Values.fits g.S.Values.cost g.S.Counts.count (g.S.Values.leaf_at c.args.store.now) (g.S.Values.node_at c.args.store.now) g.met.S.Counts.count_law c.args.shape.now.tree q.0 q.1 q.2 c.args.descent o.0 c.in-Inner.inner o.1 o.2 o.3) in
    omega (arith, q.4, low_far g.S.Values.join g.S.Values.fits g.S.Values.cost g.S.Counts.count (g.S.Values.leaf_at c.args.store.now) (g.S.Values.node_at c.args.store.now) g.met.S.Counts.count_law c.args.shape.now.tree q.0 q.1 q.2 c.args.descent o.0 c.in-Inner.inner o.1 o.2 o.3 c.count_of.result here (omega (arith, many, c.if-descent-leaves.false)))

pub returns-else-descent-leaves : goal.returns-else-descent-leaves
returns-else-descent-leaves g c = λ whole done high more w.
    let o = at_inner g.S.Values.join g.S.Values.fits g.S.Values.cost g.S.Counts.count (g.S.Values.leaf_at c.args.store.now) (g.S.Values.node_at c.args.store.now) g.met.S.Counts.count_law c.args.shape.now.tree whole done high c.args.descent c.in-Inner.inner w c.in-Inner.is in
    let near : c.children-near.result.0 ≡ name o.1 = ap (λ p. p.0) (c.children-near.ensures o.1 o.2 o.3.part) in
    let far : c.children-near.result.1 ≡ name o.2 = ap (λ p. p.1) (c.children-near.ensures o.1 o.2 o.3.part) in
    let many : c.leaves_below-leaves.result ≡ count o.1 = c.leaves_below-leaves.ensures o.1 near (near_is_part g.S.Values.join g.S.Values.fits g.S.Values.cost g.S.Counts.count (g.S.Values.leaf_at c.args.store.now) (g.S.Values.node_at c.args.store.now) g.met.S.Counts.count_law c.args.shape.now.tree whole done high c.args.descent o.0 c.in-Inner.inner o.1 o.2 o.3) in
    let here = c.count_of.ensures o.3.fit.0 (ap (part (g.S.Values.leaf_at c.args.store.now) (g.S.Values.node_at c.args.store.now)) near ∙ near_value g.S.Values.join g.S.Values.fits g.S.Values.cost g.S.Counts.count (g.S.Values.leaf_at c.args.store.now) (g.S.Values.node_at c.args.store.now) g.met.S.Counts.count_law c.args.shape.now.tree whole done high c.args.descent o.0 c.in-Inner.inner o.1 o.2 o.3) in
    (o.0, o.2, go_far g.S.Values.join g.S.Values.fits g.S.Values.cost g.S.Counts.count (g.S.Values.leaf_at c.args.store.now) (g.S.Values.node_at c.args.store.now) g.met.S.Counts.count_law c.args.shape.now.tree whole done high c.args.descent o.0 c.in-Inner.inner o.1 o.2 o.3 c.children-near.result.1 c.leaves_below-leaves.result c.count_of.result far many here (omega (arith, c.if-descent-leaves.false)) more)
