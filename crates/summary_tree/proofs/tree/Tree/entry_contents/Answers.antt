use Rattle.std.proofs.Common.{◌≡◌, take, sym, ap, subst, arith}
use Rattle.std.proofs.lemmas.Result.{IfOk-weaker}
use Rattle.carriage_model.specs.State.{State, empty_state}
use Rattle.face_data.specs.Summaries.Outcome.{went_on}
use Rattle.tree_shape.specs.Values.{leaf_values, part}
use Rattle.value_tree.specs.Parts.{StandFor}
use Rattle.summary_tree.specs.declared.store.FaceStore.{FaceStore}
use Rattle.summary_tree.specs.Leaves.{WholeLeaf, applied_each, leaf_line_count}
use Rattle.summary_tree.specs.Store.{leaf_in, node_in}
use Rattle.summary_tree.specs.Trees.{TreeView}
use Rattle.summary_tree.proofs.Layouts.{count_is}
use Rattle.summary_tree.proofs.SoundLeaves.{taken_together, fewer_lines}
use Rattle.summary_tree.proofs.tree.Tree.entry_contents.Goals as goal

pub parts_before-requires-clause-place : goal.parts_before-requires-clause-place
parts_before-requires-clause-place c =
    let here = c.self.inside.whole in
    omega (arith, c.requires.place, count_is here.shape here.store.faces here.store.tables.items here.store.scratch.room c.args.self.now c.self.view_is c.self.invariant)

pub loops_behind-requires : goal.loops_behind-requires
loops_behind-requires c =
    let here = c.self.inside.whole in
    let first = take c.args.at (leaf_values (leaf_in here.store.faces here.store.tables.items) here.shape.tree) in (
      first,
      taken_together c.args.at (leaf_values (leaf_in here.store.faces here.store.tables.items) here.shape.tree) c.self.invariant.sound_leaves,
      subst (λ (s : FaceStore). StandFor WholeLeaf (part (leaf_in s.faces s.tables.items) (node_in s.faces)) c.in_ok-parts.parts.items first) (sym c.store.ensures) c.in_ok-parts.ensures.stand,
      omega (arith, c.requires.lines, fewer_lines c.args.at (leaf_values (leaf_in here.store.faces here.store.tables.items) here.shape.tree), ap (λ (v : TreeView). leaf_line_count v.leaves) c.self.view_is),
    )

pub returns : goal.returns
returns c =
    let here = c.self.inside.whole in
    let first = take c.args.at (leaf_values (leaf_in here.store.faces here.store.tables.items) here.shape.tree) in
    let together = taken_together c.args.at (leaf_values (leaf_in here.store.faces here.store.tables.items) here.shape.tree) c.self.invariant.sound_leaves in
    let stand = subst (λ (s : FaceStore). StandFor WholeLeaf (part (leaf_in s.faces s.tables.items) (node_in s.faces)) c.in_ok-parts.parts.items first) (sym c.store.ensures) c.in_ok-parts.ensures.stand in
    IfOk-weaker c.loops_behind.result _ _
    (λ loops h. subst (λ (v : TreeView). (s : State) → applied_each (take c.args.at v.leaves) empty_state c.args.first ≡ went_on s → loops ≡ s.stacks c.args.needle) c.self.view_is (h first together stand))
    c.loops_behind.ensures
