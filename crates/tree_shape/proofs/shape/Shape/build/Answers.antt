use Rattle.std.proofs.Common.{◌≡◌, ◌+◌, ◌-◌, List, length, Some, sym, ◌∙◌, ap, subst, arith}
use Rattle.std.specs.List.{All}
use Rattle.tree_shape.specs.declared.node.Node.{Node}
use Rattle.tree_shape.specs.Numbers.{NumbersView}
use Rattle.tree_shape.specs.Parents.{ParentsView, parents_of, rows_in, with_parents, RowIsPlaced, PartsHaveParents}
use Rattle.tree_shape.specs.View.{tree_at}
use Rattle.tree_shape.proofs.Halves.{built_shape, built_linked}
use Rattle.tree_shape.proofs.shape.Shape.build.Goals as goal

pub note_nodes-requires-clause-places : goal.note_nodes-requires-clause-places
note_nodes-requires-clause-places c =
    let built = c.build_below-root.ensures.built in
    let nodes = c.build_below-root.new.nodes.items in
    let long : length nodes + 1 ≡ c.args.leaves = omega (arith, ap length c.as_slice.ensures.value, c.as_slice.ensures.len, c.build_below-root.ensures.len, c.in_ok-nodes.ensures.len) in
    let b = built_shape c.in_ok-nodes.nodes.items nodes c.args.leaves c.build_below-root.result built.0 c.in_ok-nodes.ensures.items (omega (arith, c.if-leaves-eq0.false)) c.requires long built.1 in
    let v = parents_of c.reserve.new.self in
    subst (λ (ns : List Node). All (RowIsPlaced (length v.leaves) (length v.inners)) (rows_in 0 ns)) (sym c.as_slice.ensures.value) (built_linked v nodes c.args.leaves c.build_below-root.result built.0 b c.in_ok-reserve.ensures.leaves c.in_ok-reserve.ensures.inners).1

pub invariant_of-result : goal.invariant_of-result
invariant_of-result c =
    let built = c.build_below-root.ensures.built in
    let nodes = c.build_below-root.new.nodes.items in
    let long : length nodes + 1 ≡ c.args.leaves = omega (arith, ap length c.as_slice.ensures.value, c.as_slice.ensures.len, c.build_below-root.ensures.len, c.in_ok-nodes.ensures.len) in
    let b = built_shape c.in_ok-nodes.nodes.items nodes c.args.leaves c.build_below-root.result built.0 c.in_ok-nodes.ensures.items (omega (arith, c.if-leaves-eq0.false)) c.requires long built.1 in
    let v = parents_of c.reserve.new.self in
    let noted : parents_of c.note_nodes.new.self ≡ with_parents v (rows_in 0 nodes) = c.note_nodes.ensures.noted ∙ ap (λ (ns : List Node). with_parents v (rows_in 0 ns)) c.as_slice.ensures.value in
    let drawn : c.in_ok-leaves.leaves.drawn ≡ c.args.leaves = ap (λ (n : NumbersView). n.drawn) c.in_ok-leaves.ensures.numbers in
    let more : c.in_ok-inners.inners.drawn ≡ c.args.leaves - 1 = ap (λ (n : NumbersView). n.drawn) c.in_ok-inners.ensures.numbers in (
      rw (c.in_ok-leaves.ensures.numbers, c.in_ok-inners.ensures.numbers) b.shape,
      omega (arith, c.build_below-root.ensures.len, c.in_ok-nodes.ensures.len, more),
      omega (arith, c.in_ok-leaves.ensures.room, drawn),
      omega (arith, c.in_ok-inners.ensures.room, more),
      subst (λ (w : ParentsView). PartsHaveParents w (Some (tree_at nodes c.build_below-root.result))) (sym noted) (built_linked v nodes c.args.leaves c.build_below-root.result built.0 b c.in_ok-reserve.ensures.leaves c.in_ok-reserve.ensures.inners).0,
      record {
        leaves = omega (arith, drawn, c.in_ok-reserve.ensures.leaves, c.note_nodes.ensures.leaves);
        inners = omega (arith, more, c.in_ok-reserve.ensures.inners, c.note_nodes.ensures.inners);
      },
    )

pub returns-clause-leaves : goal.returns-clause-leaves
returns-clause-leaves c =
    let built = c.build_below-root.ensures.built in
    let nodes = c.build_below-root.new.nodes.items in
    let long : length nodes + 1 ≡ c.args.leaves = omega (arith, ap length c.as_slice.ensures.value, c.as_slice.ensures.len, c.build_below-root.ensures.len, c.in_ok-nodes.ensures.len) in
    (built_shape c.in_ok-nodes.nodes.items nodes c.args.leaves c.build_below-root.result built.0 c.in_ok-nodes.ensures.items (omega (arith, c.if-leaves-eq0.false)) c.requires long built.1).leaves_are

pub returns-clause-inners : goal.returns-clause-inners
returns-clause-inners c =
    let built = c.build_below-root.ensures.built in
    let nodes = c.build_below-root.new.nodes.items in
    let long : length nodes + 1 ≡ c.args.leaves = omega (arith, ap length c.as_slice.ensures.value, c.as_slice.ensures.len, c.build_below-root.ensures.len, c.in_ok-nodes.ensures.len) in
    (built_shape c.in_ok-nodes.nodes.items nodes c.args.leaves c.build_below-root.result built.0 c.in_ok-nodes.ensures.items (omega (arith, c.if-leaves-eq0.false)) c.requires long built.1).inners_are
