use Rattle.std.proofs.Common.{take}
use Rattle.tree_shape.specs.View.{leaves_of_tree, height_of_tree}
use Rattle.value_tree.specs.Parts.{IsParting}
use Rattle.value_tree.proofs.parts.parts_before.Given as goal

abbrev pub invariant-loop-i : goal.invariant-loop-i
invariant-loop-i l = IsParting l.shape.tree (take l.at (leaves_of_tree l.shape.tree)) l._i (height_of_tree l.shape.tree) l.parting l.parts.items
