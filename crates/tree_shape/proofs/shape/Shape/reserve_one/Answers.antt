use Rattle.std.proofs.Common.{ap, arith}
use Rattle.std.specs.Option.{option_map}
use Rattle.tree_shape.specs.Numbers.{NumbersView}
use Rattle.tree_shape.specs.Parents.{parents_of}
use Rattle.tree_shape.specs.View.{tree_at}
use Rattle.tree_shape.proofs.ParentLinks.{linked_longer}
use Rattle.tree_shape.proofs.shape.Shape.reserve_one.Goals as goal

pub invariant_of-self-in_err-reserve : goal.invariant_of-self-in_err-reserve
invariant_of-self-in_err-reserve c =
    let drawn = ap (λ (v : NumbersView). v.drawn) c.reserve_one.ensures.same in
    let more = ap (λ (v : NumbersView). v.drawn) c.reserve_one-2.ensures.same in (
      rw (c.reserve.ensures.items, c.reserve_one.ensures.same, c.reserve_one-2.ensures.same) c.self.invariant.0,
      omega (arith, c.reserve.ensures.len, c.self.invariant.1, more),
      omega (arith, c.reserve_one.ensures.capacity, c.self.invariant.2, drawn),
      omega (arith, c.reserve_one-2.ensures.capacity, c.self.invariant.3, more),
      rw c.reserve.ensures.items c.self.invariant.4,
      record { leaves = omega (arith, drawn, c.self.invariant.5.leaves); inners = omega (arith, more, c.self.invariant.5.inners) },
    )

pub invariant_of-self-2 : goal.invariant_of-self-2
invariant_of-self-2 c =
    let drawn = ap (λ (v : NumbersView). v.drawn) c.reserve_one.ensures.same in
    let more = ap (λ (v : NumbersView). v.drawn) c.reserve_one-2.ensures.same in (
      rw (c.reserve.ensures.items, c.reserve_one.ensures.same, c.reserve_one-2.ensures.same) c.self.invariant.0,
      omega (arith, c.reserve.ensures.len, c.self.invariant.1, more),
      omega (arith, c.reserve_one.ensures.capacity, c.self.invariant.2, drawn),
      omega (arith, c.reserve_one-2.ensures.capacity, c.self.invariant.3, more),
      rw c.reserve.ensures.items (linked_longer (parents_of c.self.inside.parents) (parents_of c.reserve-2.new.self) (option_map (tree_at c.self.inside.nodes.items) c.self.inside.root) c.reserve-2.ensures.same_leaves c.reserve-2.ensures.same_inners c.self.invariant.4),
      record { leaves = omega (arith, drawn, c.self.invariant.5.leaves, c.reserve-2.ensures.more_leaves); inners = omega (arith, more, c.self.invariant.5.inners, c.reserve-2.ensures.more_inners) },
    )
