use Rattle.std.proofs.Common.{List, length}
use Rattle.tree_shape.specs.Values.{part}
use Rattle.value_tree.specs.Parts.{StandFor}
use Rattle.summary_tree.specs.Leaves.{Leaf, StandTogether, WholeLeaf}
use Rattle.summary_tree.specs.Store.{leaf_in, node_in}
use Rattle.summary_tree.proofs.NeedleEntries.{IsToldOf}
use Rattle.summary_tree.proofs.entry.loops_behind.Given as goal

abbrev pub invariant-loop-part : goal.invariant-loop-part
invariant-loop-part l =
    (all : List Leaf) → StandTogether all → StandFor WholeLeaf (part (leaf_in l.store.faces l.store.tables.items) (node_in l.store.faces)) l.fn.parts.items all
    → IsToldOf l.store.faces l.store.tables.items all l.fn.needle l.parts.items l.segs

abbrev pub decreases-loop-part : goal.decreases-loop-part
decreases-loop-part l = length l.parts.items
