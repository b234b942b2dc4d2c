use Rattle.std.proofs.Common.{ap}
use Rattle.tree_shape.specs.View.{ShapeView}
use Rattle.summary_tree.specs.Store.{faces_place_count}
use Rattle.summary_tree.proofs.Layouts.{is_same, keeps_place, keeps_room}
use Rattle.summary_tree.proofs.tree.Tree.reserve.Goals as goal

pub returns-then-need-clause-same : goal.returns-then-need-clause-same
returns-then-need-clause-same c =
    let here = c.self.inside.whole in
    let then = c.reserve_insert.new.self in
    let e = c.reserve_insert.ensures in
    is_same here.shape here.store.faces here.store.tables.items here.store.scratch.room c.args.self.now c.self.view_is c.self.invariant then.shape then.store.faces then.store.tables.items then.store.scratch.room e.shape e.leaves e.nodes

pub returns-else-need-clause-same : goal.returns-else-need-clause-same
returns-else-need-clause-same c =
    let here = c.self.inside.whole in
    let then = c.reserve.new.self in
    let e = c.reserve.ensures in
    is_same here.shape here.store.faces here.store.tables.items here.store.scratch.room c.args.self.now c.self.view_is c.self.invariant then.shape then.store.faces then.store.tables.items then.store.scratch.room
    (record { tree = ap (λ (s : ShapeView). s.tree) e.shape; leaf_numbers = ap (λ (s : ShapeView). s.leaf_numbers) e.shape; inner_numbers = ap (λ (s : ShapeView). s.inner_numbers) e.shape }) e.leaves e.nodes

pub returns-then-need-clause-keeps : goal.returns-then-need-clause-keeps
returns-then-need-clause-keeps c =
    let here = c.self.inside.whole in
    let then = c.reserve_insert.new.self in
    let e = c.reserve_insert.ensures in
    keeps_room here.shape here.store.faces here.store.tables.items here.store.scratch.room c.args.self.now c.self.view_is c.self.invariant then.shape then.store.faces then.store.tables.items then.store.scratch.room e.memory e.place

pub returns-else-need-clause-keeps : goal.returns-else-need-clause-keeps
returns-else-need-clause-keeps c =
    let here = c.self.inside.whole in
    let then = c.reserve.new.self in
    let e = c.reserve.ensures in
    keeps_room here.shape here.store.faces here.store.tables.items here.store.scratch.room c.args.self.now c.self.view_is c.self.invariant then.shape then.store.faces then.store.tables.items then.store.scratch.room e.memory
    (keeps_place (faces_place_count here.store.faces here.store.tables.items) (faces_place_count then.store.faces then.store.tables.items) here.shape then.shape e.slots e.shape)
