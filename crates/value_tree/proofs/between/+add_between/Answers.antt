use Rattle.std.proofs.Common.{◌≡◌, ◌++◌, sym, ◌∙◌, ap, arith, append-nil}
use Rattle.tree_shape.specs.Tree.{name, count}
use Rattle.value_tree.proofs.TreeParts.{left_of}
use Rattle.value_tree.proofs.Stretches.{between_none, at_node, lower_left, lower_right, left_stretch, right_stretch, both_added}
use Rattle.value_tree.proofs.between.+add_between.Goals as goal

pub returns-then-to-from : goal.returns-then-to-from
returns-then-to-from t c = λ part s.
    sym (append-nil c.args.parts.now.items) ∙ ap (λ v. c.args.parts.now.items ++ v) (sym (between_none part c.args.from c.args.to c.if-to-from.true))

pub children-near-requires : goal.children-near-requires
children-near-requires t c =
    let o = at_node c.args.shape.now.tree c.args.counted c.args.to c.in-Inner.inner c.requires.0 c.requires.1 c.in-Inner.is in
    (o.0, o.1, o.3.part)

pub leaves_below-middle-requires : goal.leaves_below-middle-requires
leaves_below-middle-requires t c =
    let o = at_node c.args.shape.now.tree c.args.counted c.args.to c.in-Inner.inner c.requires.0 c.requires.1 c.in-Inner.is in
    (o.0, ap (λ p. p.0) (c.children-near.ensures o.0 o.1 o.3.part), left_of c.in-Inner.inner o.0 o.1 c.args.shape.now.tree o.3.part)

pub add_between-requires : goal.add_between-requires
add_between-requires t c =
    let tree = c.args.shape.now.tree in
    let o = at_node tree c.args.counted c.args.to c.in-Inner.inner c.requires.0 c.requires.1 c.in-Inner.is in
    let near : c.children-near.result.0 ≡ name o.0 = ap (λ p. p.0) (c.children-near.ensures o.0 o.1 o.3.part) in
    let middle : c.leaves_below-middle.result ≡ count o.0 = c.leaves_below-middle.ensures o.0 near (left_of c.in-Inner.inner o.0 o.1 tree o.3.part) in
    (omega (arith, c.decreases, lower_left tree c.args.counted c.args.to c.in-Inner.inner o.0 o.1 o.3 c.leaves_below-middle.result middle), (o.0, left_stretch tree c.args.counted c.args.to c.in-Inner.inner o.0 o.1 o.3 c.leaves_below-middle.result middle c.children-near.result.0 c.min.result near c.min.ensures))

pub overflow_sub-right : goal.overflow_sub-right
overflow_sub-right t c =
    let tree = c.args.shape.now.tree in
    let o = at_node tree c.args.counted c.args.to c.in-Inner.inner c.requires.0 c.requires.1 c.in-Inner.is in
    let near : c.children-near.result.0 ≡ name o.0 = ap (λ p. p.0) (c.children-near.ensures o.0 o.1 o.3.part) in
    let middle : c.leaves_below-middle.result ≡ count o.0 = c.leaves_below-middle.ensures o.0 near (left_of c.in-Inner.inner o.0 o.1 tree o.3.part) in
    omega (arith, lower_left tree c.args.counted c.args.to c.in-Inner.inner o.0 o.1 o.3 c.leaves_below-middle.result middle)

pub add_between-requires-2 : goal.add_between-requires-2
add_between-requires-2 t c =
    let tree = c.args.shape.now.tree in
    let o = at_node tree c.args.counted c.args.to c.in-Inner.inner c.requires.0 c.requires.1 c.in-Inner.is in
    let near : c.children-near.result.0 ≡ name o.0 = ap (λ p. p.0) (c.children-near.ensures o.0 o.1 o.3.part) in
    let far : c.children-near.result.1 ≡ name o.1 = ap (λ p. p.1) (c.children-near.ensures o.0 o.1 o.3.part) in
    let middle : c.leaves_below-middle.result ≡ count o.0 = c.leaves_below-middle.ensures o.0 near (left_of c.in-Inner.inner o.0 o.1 tree o.3.part) in
    (omega (arith, c.decreases, lower_right tree c.args.counted c.args.to c.in-Inner.inner o.0 o.1 o.3 c.leaves_below-middle.result middle), (o.1, right_stretch tree c.args.counted c.args.to c.in-Inner.inner o.0 o.1 o.3 c.leaves_below-middle.result middle c.children-near.result.1 c.saturating_sub-rest.result far c.saturating_sub-rest.ensures))

pub returns : goal.returns
returns t c = λ part s.
    let tree = c.args.shape.now.tree in
    let o = at_node tree c.args.counted c.args.to c.in-Inner.inner part s c.in-Inner.is in
    let near : c.children-near.result.0 ≡ name o.0 = ap (λ p. p.0) (c.children-near.ensures o.0 o.1 o.3.part) in
    let far : c.children-near.result.1 ≡ name o.1 = ap (λ p. p.1) (c.children-near.ensures o.0 o.1 o.3.part) in
    let middle : c.leaves_below-middle.result ≡ count o.0 = c.leaves_below-middle.ensures o.0 near (left_of c.in-Inner.inner o.0 o.1 tree o.3.part) in
    let first = c.in_ok-add_between.ensures o.0 (left_stretch tree c.args.counted c.args.to c.in-Inner.inner o.0 o.1 o.3 c.leaves_below-middle.result middle c.children-near.result.0 c.min.result near c.min.ensures) in
    let second = c.in_ok-add_between-2.ensures o.1 (right_stretch tree c.args.counted c.args.to c.in-Inner.inner o.0 o.1 o.3 c.leaves_below-middle.result middle c.children-near.result.1 c.saturating_sub-rest.result far c.saturating_sub-rest.ensures) in
    rw o.2 (both_added tree c.args.counted c.args.to c.in-Inner.inner o.0 o.1 o.3 c.leaves_below-middle.result middle c.args.from c.min.result c.saturating_sub.result c.saturating_sub-rest.result c.args.parts.now.items c.add_between.new.parts.items c.add_between-2.new.parts.items
    (omega (arith, c.if-counted-to.false)) c.min.ensures c.saturating_sub.ensures c.saturating_sub-rest.ensures first second)
