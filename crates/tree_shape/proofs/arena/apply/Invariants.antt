use Rattle.std.proofs.Common.{◌≡◌, drop}
use Rattle.tree_shape.specs.Apply.{FitRows, nodes_with_rows}
use Rattle.tree_shape.proofs.arena.apply.Given as goal

abbrev pub invariant-loop-i : goal.invariant-loop-i
invariant-loop-i l = record {
  same : nodes_with_rows l.nodes (drop l.i l.dirty) ≡ nodes_with_rows l.initial.nodes l.dirty;
  fit : FitRows l.nodes (drop l.i l.dirty);
}
