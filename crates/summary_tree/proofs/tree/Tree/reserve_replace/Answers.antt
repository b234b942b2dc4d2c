use Rattle.std.proofs.Common.{false, refl, ap, subst, sym, arith}
use Rattle.std.proofs.lemmas.Result.{on_ok_weaker}
use Rattle.face_data.specs.View.{summary_of}
use Rattle.summary_compose.specs.Rooms.{room_after}
use Rattle.tree_shape.specs.View.{ShapeView, IsSameShape}
use Rattle.value_tree.specs.Kept.{IsReplaceNeed}
use Rattle.summary_tree.specs.Leaves.{leaf_room}
use Rattle.summary_tree.specs.Rooms.{kept_room}
use Rattle.summary_tree.specs.Store.{leaf_in, node_in, faces_place_count, HasRooms}
use Rattle.summary_tree.specs.Trees.{TreeView, Meets, laid_out}
use Rattle.summary_tree.proofs.Layouts.{count_is, is_same, keeps_place, keeps_room}
use Rattle.summary_tree.proofs.Needs.{replace_met, same_self}
use Rattle.summary_tree.proofs.tree.Tree.reserve_replace.Goals as goal

pub fill_replace-requires-clause-place : goal.fill_replace-requires-clause-place
fill_replace-requires-clause-place c =
    let here = c.self.inside.whole in
    omega (arith, c.requires.place, count_is here.shape here.store.faces here.store.tables.items here.store.scratch.room c.args.self.now c.self.view_is c.self.invariant)

pub returns-in-Some-clause-ok : goal.returns-in-Some-clause-ok
returns-in-Some-clause-ok c =
    let here = c.self.inside.whole in
    let then = c.reserve.new.self in
    let e = c.reserve.ensures in
    let needed = c.fill_replace.new.need in
    let laid = laid_out here.shape here.store.faces here.store.tables.items here.store.scratch.room in
    let reckoned = subst (λ r. IsReplaceNeed leaf_room room_after (leaf_in laid.laid.faces laid.laid.tables) (node_in laid.laid.faces) laid.laid.shape c.args.at r needed) c.kept_room.ensures c.fill_replace.ensures.need in
    let need = subst (λ (v : TreeView). IsReplaceNeed leaf_room room_after (leaf_in v.laid.faces v.laid.tables) (node_in v.laid.faces) v.laid.shape c.args.at (kept_room (summary_of c.args.face.now)) needed) c.self.view_is reckoned in
    let shape : IsSameShape here.shape then.shape = record { tree = ap (λ (s : ShapeView). s.tree) e.shape; leaf_numbers = ap (λ (s : ShapeView). s.leaf_numbers) e.shape; inner_numbers = ap (λ (s : ShapeView). s.inner_numbers) e.shape } in
    let same = is_same here.shape here.store.faces here.store.tables.items here.store.scratch.room c.args.self.now c.self.view_is c.self.invariant then.shape then.store.faces then.store.tables.items then.store.scratch.room shape e.leaves e.nodes in
    on_ok_weaker c.reserve.result
    (λ met. (replace_met c.args.self.now c.args.at (record { rooms = needed; leaf = false }) (summary_of c.args.face.now) need refl (laid_out then.shape then.store.faces then.store.tables.items then.store.scratch.room) same).0 (record { rooms = subst (HasRooms then.store.faces then.store.scratch.room) c.deref.ensures met; leaf = λ h. absurd (cc) }))
    e.met

pub returns-in-Some-clause-ready : goal.returns-in-Some-clause-ready
returns-in-Some-clause-ready c = λ can.
    let here = c.self.inside.whole in
    let needed = c.fill_replace.new.need in
    let laid = laid_out here.shape here.store.faces here.store.tables.items here.store.scratch.room in
    let reckoned = subst (λ r. IsReplaceNeed leaf_room room_after (leaf_in laid.laid.faces laid.laid.tables) (node_in laid.laid.faces) laid.laid.shape c.args.at r needed) c.kept_room.ensures c.fill_replace.ensures.need in
    let need = subst (λ (v : TreeView). IsReplaceNeed leaf_room room_after (leaf_in v.laid.faces v.laid.tables) (node_in v.laid.faces) v.laid.shape c.args.at (kept_room (summary_of c.args.face.now)) needed) c.self.view_is reckoned in
    let met = (replace_met c.args.self.now c.args.at (record { rooms = needed; leaf = false }) (summary_of c.args.face.now) need refl c.args.self.now (same_self c.args.self.now)).1 can in
    c.reserve.ensures.ready
    (subst (HasRooms here.store.faces here.store.scratch.room) (sym c.deref.ensures) (subst (λ (v : TreeView). HasRooms v.laid.faces v.laid.scratch needed) (sym c.self.view_is) met.rooms))

pub returns-in-Some-clause-same : goal.returns-in-Some-clause-same
returns-in-Some-clause-same c =
    let here = c.self.inside.whole in
    let then = c.reserve.new.self in
    let e = c.reserve.ensures in
    is_same here.shape here.store.faces here.store.tables.items here.store.scratch.room c.args.self.now c.self.view_is c.self.invariant then.shape then.store.faces then.store.tables.items then.store.scratch.room
    (record { tree = ap (λ (s : ShapeView). s.tree) e.shape; leaf_numbers = ap (λ (s : ShapeView). s.leaf_numbers) e.shape; inner_numbers = ap (λ (s : ShapeView). s.inner_numbers) e.shape }) e.leaves e.nodes

pub returns-in-Some-clause-keeps : goal.returns-in-Some-clause-keeps
returns-in-Some-clause-keeps c =
    let here = c.self.inside.whole in
    let then = c.reserve.new.self in
    let e = c.reserve.ensures in
    keeps_room here.shape here.store.faces here.store.tables.items here.store.scratch.room c.args.self.now c.self.view_is c.self.invariant then.shape then.store.faces then.store.tables.items then.store.scratch.room e.memory
    (keeps_place (faces_place_count here.store.faces here.store.tables.items) (faces_place_count then.store.faces then.store.tables.items) here.shape then.shape e.slots e.shape)

pub returns-in-None-clause-keeps : goal.returns-in-None-clause-keeps
returns-in-None-clause-keeps c = λ need m. c.reserve_anew.ensures.keeps need (subst (λ (v : TreeView). Meets v need) (sym c.self.view_is) m)
