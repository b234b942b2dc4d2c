use Rattle.std.proofs.Common.{◌≡◌, length, take}
use Rattle.std.specs.List.{AllZip}
use Rattle.tally_tree.specs.Trees.{HasLeaf}
use Rattle.tally_tree.proofs.trees.store_of.Given as goal

abbrev pub invariant-loop-text : goal.invariant-loop-text
invariant-loop-text g l = AllZip (HasLeaf l.setting) l.store.leaves.items (take l.text-index l.texts) × (length l.store.nodes.items ≡ length l.store.leaves.items)
