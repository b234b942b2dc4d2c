use Rattle.std.proofs.Common.{length, ap, arith}
use Rattle.tree_shape.proofs.Heights.{at_most_22}
use Rattle.tree_shape.proofs.shape.plan_take.Goals as goal

pub shrink-requires : goal.shrink-requires
shrink-requires c =
    let h = c.requires.place in
    let low = at_most_22 h.0 h.1.balanced h.1.few in
    (h.0, h.1.named, h.1.stands, h.2, omega (arith, ap length c.requires.empty), h.1.balanced)
