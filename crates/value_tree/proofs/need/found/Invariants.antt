use Rattle.std.proofs.Common.{◌≡◌, ◌-◌, take, None}
use Rattle.tree_shape.specs.Composing.{latest_room}
use Rattle.value_tree.proofs.need.found.Given as goal

abbrev pub invariant-loop-behind : goal.invariant-loop-behind
invariant-loop-behind g l = latest_room l.node l.dirty (g.S.Values.rooms l.need) None ≡ latest_room l.node l.dirty (take (l.rows - l.behind) (g.S.Values.rooms l.need)) None
