use Rattle.std.proofs.Common.{true, refl, subst, arith}
use Rattle.face_data.specs.View.{summary_of}
use Rattle.summary_compose.specs.Rooms.{room_after}
use Rattle.value_tree.specs.Kept.{IsInsertNeed}
use Rattle.summary_tree.specs.Leaves.{leaf_room}
use Rattle.summary_tree.specs.Rooms.{kept_room}
use Rattle.summary_tree.specs.Store.{leaf_in, node_in}
use Rattle.summary_tree.specs.Trees.{TreeView, laid_out}
use Rattle.summary_tree.proofs.Layouts.{count_is}
use Rattle.summary_tree.proofs.Needs.{insert_met}
use Rattle.summary_tree.proofs.tree.Tree.need_insert.Goals as goal

pub need_insert-requires-clause-place : goal.need_insert-requires-clause-place
need_insert-requires-clause-place c =
    let here = c.self.inside.whole in
    omega (arith, c.requires.place, count_is here.shape here.store.faces here.store.tables.items here.store.scratch.room c.args.self.now c.self.view_is c.self.invariant)

pub returns : goal.returns
returns c =
    let here = c.self.inside.whole in
    let laid = laid_out here.shape here.store.faces here.store.tables.items here.store.scratch.room in
    let reckoned = subst (λ r. IsInsertNeed leaf_room room_after (leaf_in laid.laid.faces laid.laid.tables) (node_in laid.laid.faces) laid.laid.shape c.args.at r c.need_insert.result) c.kept_room.ensures c.need_insert.ensures.need in
    insert_met c.args.self.now c.args.at (record { rooms = c.need_insert.result; leaf = true }) (summary_of c.args.face.now)
    (subst (λ (v : TreeView). IsInsertNeed leaf_room room_after (leaf_in v.laid.faces v.laid.tables) (node_in v.laid.faces) v.laid.shape c.args.at (kept_room (summary_of c.args.face.now)) c.need_insert.result) c.self.view_is reckoned) refl

pub need_insert-requires-clause-few : goal.need_insert-requires-clause-few
need_insert-requires-clause-few c =
    let here = c.self.inside.whole in
    omega (arith, c.requires.few, count_is here.shape here.store.faces here.store.tables.items here.store.scratch.room c.args.self.now c.self.view_is c.self.invariant)
