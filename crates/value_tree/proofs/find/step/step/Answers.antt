use Rattle.std.proofs.Common.{◌≡◌, ◌+◌, ◌≤◌, ◌∙◌, ap, arith}
use Rattle.tree_shape.specs.Tree.{name, count}
use Rattle.tree_shape.specs.Values.{part}
use Rattle.value_tree.proofs.Offsets.{at_inner, near_value, near_is_part, go_near, go_far}
use Rattle.value_tree.proofs.find.step.step.Goals as goal

pub children-near-requires : goal.children-near-requires
children-near-requires g c =
    let q = c.requires in
    let o = at_inner g.S.Values.join g.S.Values.fits g.S.Values.cost g.S.Counts.count (g.S.Values.leaf_at c.args.store.now) (g.S.Values.node_at c.args.store.now) g.met.S.Counts.count_law c.args.shape.now.tree q.0 q.1 q.2 c.args.walk c.in-Inner.inner q.4 c.in-Inner.is in
    (o.1, o.2, o.3.part)

pub count_of-here-requires : goal.count_of-here-requires
count_of-here-requires g c =
    let q = c.requires in
    let o = at_inner g.S.Values.join g.S.Values.fits g.S.Values.cost g.S.Counts.count (g.S.Values.leaf_at c.args.store.now) (g.S.Values.node_at c.args.store.now) g.met.S.Counts.count_law c.args.shape.now.tree q.0 q.1 q.2 c.args.walk c.in-Inner.inner q.4 c.in-Inner.is in
    let both = c.children-near.ensures o.1 o.2 o.3.part in
    let near : c.children-near.result.0 ≡ name o.1 = ap (λ p. p.0) both in
    let v = near_value g.S.Values.join g.S.Values.fits g.S.Values.cost g.S.Counts.count (g.S.Values.leaf_at c.args.store.now) (g.S.Values.node_at c.args.store.now) g.met.S.Counts.count_law c.args.shape.now.tree q.0 q.1 q.2 c.args.walk o.0 c.in-Inner.inner o.1 o.2 o.3 in
    (o.3.fit.0, ap (part (g.S.Values.leaf_at c.args.store.now) (g.S.Values.node_at c.args.store.now)) near ∙ v)

pub returns-then-walk-here : goal.returns-then-walk-here
returns-then-walk-here g c = λ whole done high more w.
    let o = at_inner g.S.Values.join g.S.Values.fits g.S.Values.cost g.S.Counts.count (g.S.Values.leaf_at c.args.store.now) (g.S.Values.node_at c.args.store.now) g.met.S.Counts.count_law c.args.shape.now.tree whole done high c.args.walk c.in-Inner.inner w c.in-Inner.is in
    let both = c.children-near.ensures o.1 o.2 o.3.part in
    let near : c.children-near.result.0 ≡ name o.1 = ap (λ p. p.0) both in
    let v = near_value g.S.Values.join g.S.Values.fits g.S.Values.cost g.S.Counts.count (g.S.Values.leaf_at c.args.store.now) (g.S.Values.node_at c.args.store.now) g.met.S.Counts.count_law c.args.shape.now.tree whole done high c.args.walk o.0 c.in-Inner.inner o.1 o.2 o.3 in
    let here = c.count_of-here.ensures o.3.fit.0 (ap (part (g.S.Values.leaf_at c.args.store.now) (g.S.Values.node_at c.args.store.now)) near ∙ v) in
    (o.0, o.1, go_near g.S.Values.join g.S.Values.fits g.S.Values.cost g.S.Counts.count (g.S.Values.leaf_at c.args.store.now) (g.S.Values.node_at c.args.store.now) g.met.S.Counts.count_law c.args.shape.now.tree whole done high c.args.walk o.0 c.in-Inner.inner o.1 o.2 o.3 c.children-near.result.0 c.count_of-here.result near here c.if-walk-here.true more)

pub leaves_below-requires : goal.leaves_below-requires
leaves_below-requires g c =
    let q = c.requires in
    let o = at_inner g.S.Values.join g.S.Values.fits g.S.Values.cost g.S.Counts.count (g.S.Values.leaf_at c.args.store.now) (g.S.Values.node_at c.args.store.now) g.met.S.Counts.count_law c.args.shape.now.tree q.0 q.1 q.2 c.args.walk c.in-Inner.inner q.4 c.in-Inner.is in
    let both = c.children-near.ensures o.1 o.2 o.3.part in
    let near : c.children-near.result.0 ≡ name o.1 = ap (λ p. p.0) both in
    (o.1, near, near_is_part g.S.Values.join g.S.Values.fits g.S.Values.cost g.S.Counts.count (g.S.Values.leaf_at c.args.store.now) (g.S.Values.node_at c.args.store.now) g.met.S.Counts.count_law c.args.shape.now.tree q.0 q.1 q.2 c.args.walk o.0 c.in-Inner.inner o.1 o.2 o.3)

pub overflow_add-result : goal.overflow_add-result
overflow_add-result g c =
    let q = c.requires in
    let o = at_inner g.S.Values.join g.S.Values.fits g.S.Values.cost g.S.Counts.count (g.S.Values.leaf_at c.args.store.now) (g.S.Values.node_at c.args.store.now) g.met.S.Counts.count_law c.args.shape.now.tree q.0 q.1 q.2 c.args.walk c.in-Inner.inner q.4 c.in-Inner.is in
    let both = c.children-near.ensures o.1 o.2 o.3.part in
    let near : c.children-near.result.0 ≡ name o.1 = ap (λ p. p.0) both in
    let below : c.leaves_below.result ≡ count o.1 = c.leaves_below.ensures o.1 near (near_is_part g.S.Values.join g.S.Values.fits g.S.Values.cost g.S.Counts.count (g.S.Values.leaf_at c.args.store.now) (g.S.Values.node_at c.args.store.now) g.met.S.Counts.count_law c.args.shape.now.tree q.0 q.1 q.2 c.args.walk o.0 c.in-Inner.inner o.1 o.2 o.3) in
    let few : c.args.walk.at + c.leaves_below.result ≤ 65536 = omega (arith, below, o.3.few) in
    omega (arith, few)

pub returns-else-walk-here : goal.returns-else-walk-here
returns-else-walk-here g c = λ whole done high more w.
    let o = at_inner g.S.Values.join g.S.Values.fits g.S.Values.cost g.S.Counts.count (g.S.Values.leaf_at c.args.store.now) (g.S.Values.node_at c.args.store.now) g.met.S.Counts.count_law c.args.shape.now.tree whole done high c.args.walk c.in-Inner.inner w c.in-Inner.is in
    let both = c.children-near.ensures o.1 o.2 o.3.part in
    let near : c.children-near.result.0 ≡ name o.1 = ap (λ p. p.0) both in
    let far : c.children-near.result.1 ≡ name o.2 = ap (λ p. p.1) both in
    let v = near_value g.S.Values.join g.S.Values.fits g.S.Values.cost g.S.Counts.count (g.S.Values.leaf_at c.args.store.now) (g.S.Values.node_at c.args.store.now) g.met.S.Counts.count_law c.args.shape.now.tree whole done high c.args.walk o.0 c.in-Inner.inner o.1 o.2 o.3 in
    let here = c.count_of-here.ensures o.3.fit.0 (ap (part (g.S.Values.leaf_at c.args.store.now) (g.S.Values.node_at c.args.store.now)) near ∙ v) in
    let below : c.leaves_below.result ≡ count o.1 = c.leaves_below.ensures o.1 near (near_is_part g.S.Values.join g.S.Values.fits g.S.Values.cost g.S.Counts.count (g.S.Values.leaf_at c.args.store.now) (g.S.Values.node_at c.args.store.now) g.met.S.Counts.count_law c.args.shape.now.tree whole done high c.args.walk o.0 c.in-Inner.inner o.1 o.2 o.3) in
    (o.0, o.2, go_far g.S.Values.join g.S.Values.fits g.S.Values.cost g.S.Counts.count (g.S.Values.leaf_at c.args.store.now) (g.S.Values.node_at c.args.store.now) g.met.S.Counts.count_law c.args.shape.now.tree whole done high c.args.walk o.0 c.in-Inner.inner o.1 o.2 o.3 c.children-near.result.1 c.leaves_below.result c.count_of-here.result far below here c.if-walk-here.false more)
