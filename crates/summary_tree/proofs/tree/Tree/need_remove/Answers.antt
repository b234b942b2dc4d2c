use Rattle.std.proofs.Common.{false, refl, subst, arith}
use Rattle.summary_compose.specs.Rooms.{room_after}
use Rattle.value_tree.specs.Kept.{IsRemoveNeed}
use Rattle.summary_tree.specs.Leaves.{leaf_room}
use Rattle.summary_tree.specs.Store.{leaf_in, node_in}
use Rattle.summary_tree.specs.Trees.{TreeView}
use Rattle.summary_tree.proofs.Layouts.{count_is}
use Rattle.summary_tree.proofs.Needs.{remove_met}
use Rattle.summary_tree.proofs.tree.Tree.need_remove.Goals as goal

pub need_remove-requires-clause-place : goal.need_remove-requires-clause-place
need_remove-requires-clause-place c =
    let here = c.self.inside.whole in
    omega (arith, c.requires, count_is here.shape here.store.faces here.store.tables.items here.store.scratch.room c.args.self.now c.self.view_is c.self.invariant)

pub returns : goal.returns
returns c =
    remove_met c.args.self.now c.args.at (record { rooms = c.need_remove.result; leaf = false })
    (subst (λ (v : TreeView). IsRemoveNeed leaf_room room_after (leaf_in v.laid.faces v.laid.tables) (node_in v.laid.faces) v.laid.shape c.args.at c.need_remove.result) c.self.view_is c.need_remove.ensures.need) refl
