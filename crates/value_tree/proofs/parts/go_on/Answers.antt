use Rattle.std.proofs.Common.{◌≡◌, ◌+◌, ◌-◌, sym, subst, ap, arith}
use Rattle.tree_shape.specs.Tree.{name, count}
use Rattle.value_tree.specs.Parts.{IsPartingAt}
use Rattle.value_tree.proofs.TreeParts.{at_inner, go_near, go_far, left_of}
use Rattle.value_tree.proofs.parts.go_on.Goals as goal

pub children-near-requires : goal.children-near-requires
children-near-requires c =
    let q = c.requires in
    let o = at_inner c.args.shape.now.tree q.0 q.1 q.2 c.args.parting c.args.parts.now.items c.in-Inner.inner q.4 c.in-Inner.is in
    (o.0, o.1, o.2.part)

pub leaves_below-leaves-requires : goal.leaves_below-leaves-requires
leaves_below-leaves-requires c =
    let q = c.requires in
    let o = at_inner c.args.shape.now.tree q.0 q.1 q.2 c.args.parting c.args.parts.now.items c.in-Inner.inner q.4 c.in-Inner.is in
    let near : c.children-near.result.0 ≡ name o.0 = ap (λ p. p.0) (c.children-near.ensures o.0 o.1 o.2.part) in
    (o.0, near, left_of c.in-Inner.inner o.0 o.1 c.args.shape.now.tree o.2.part)

pub returns-then-parting-leaves : goal.returns-then-parting-leaves
returns-then-parting-leaves c = λ before done high more w.
    let o = at_inner c.args.shape.now.tree before done high c.args.parting c.args.parts.now.items c.in-Inner.inner w c.in-Inner.is in
    let near : c.children-near.result.0 ≡ name o.0 = ap (λ p. p.0) (c.children-near.ensures o.0 o.1 o.2.part) in
    let many : c.leaves_below-leaves.result ≡ count o.0 = c.leaves_below-leaves.ensures o.0 near (left_of c.in-Inner.inner o.0 o.1 c.args.shape.now.tree o.2.part) in
    (o.0, go_near c.args.shape.now.tree before done high c.args.parting c.args.parts.now.items c.in-Inner.inner o.0 o.1 o.2 c.children-near.result.0 near (omega (arith, many, c.if-parting-leaves.true)) more)

pub returns : goal.returns
returns c = λ before done high more w.
    let o = at_inner c.args.shape.now.tree before done high c.args.parting c.args.parts.now.items c.in-Inner.inner w c.in-Inner.is in
    let near : c.children-near.result.0 ≡ name o.0 = ap (λ p. p.0) (c.children-near.ensures o.0 o.1 o.2.part) in
    let far : c.children-near.result.1 ≡ name o.1 = ap (λ p. p.1) (c.children-near.ensures o.0 o.1 o.2.part) in
    let many : c.leaves_below-leaves.result ≡ count o.0 = c.leaves_below-leaves.ensures o.0 near (left_of c.in-Inner.inner o.0 o.1 c.args.shape.now.tree o.2.part) in
    let gone = go_far c.args.shape.now.tree before done high c.args.parting c.args.parts.now.items c.in-Inner.inner o.0 o.1 o.2 c.children-near.result.0 c.children-near.result.1 c.leaves_below-leaves.result near far many (omega (arith, c.if-parting-leaves.false)) more in
    (o.1, subst (λ xs. IsPartingAt c.args.shape.now.tree before (done + 1) high (record { child = c.children-near.result.1; at = c.args.parting.at - c.leaves_below-leaves.result }) xs o.1) (sym c.in_ok-push.ensures.items) gone)
