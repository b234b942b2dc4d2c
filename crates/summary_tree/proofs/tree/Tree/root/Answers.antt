use Rattle.std.proofs.Common.{◌≡◌, List, [], Some, refl, sym, ◌∙◌, ap, subst}
use Rattle.face_data.specs.View.{summary_of}
use Rattle.tree_shape.specs.Values.{leaf_values}
use Rattle.summary_tree.specs.declared.store.FaceStore.{FaceStore}
use Rattle.summary_tree.specs.Faces.{face_in}
use Rattle.summary_tree.specs.Leaves.{Leaf, IsRootOf, IsWholeOf}
use Rattle.summary_tree.specs.Store.{leaf_in, child_slot}
use Rattle.summary_tree.specs.Trees.{TreeView}
use Rattle.summary_tree.proofs.Meets.{part_face, same_there}
use Rattle.summary_tree.proofs.Roots.{no_leaves}
use Rattle.summary_tree.proofs.SoundLeaves.{root_is}
use Rattle.summary_tree.proofs.tree.Tree.root.Goals as goal

pub returns-in_default : goal.returns-in_default
returns-in_default c =
    let here = c.self.inside.whole in
    let all = leaf_values (leaf_in here.store.faces here.store.tables.items) here.shape.tree in
    let empty : all ≡ [] = c.in_default.ensures.none refl in
    let whole = subst (λ (leaves : List Leaf). IsWholeOf leaves (summary_of c.of_no_line.result)) (sym empty) (subst (IsWholeOf []) (sym c.of_no_line.ensures.summary) no_leaves) in
    subst (λ (v : TreeView). IsRootOf v.leaves c.of_no_line.result) c.self.view_is (root_is all c.of_no_line.result c.self.invariant.sound_leaves whole c.of_no_line.ensures.packed)

pub returns-in-Some-face : goal.returns-in-Some-face
returns-in-Some-face c =
    let here = c.self.inside.whole in
    let all = leaf_values (leaf_in here.store.faces here.store.tables.items) here.shape.tree in
    let view = c.in-Some-face.face in
    let top = c.in-Some.ensures.stands in
    let place = child_slot c.in-Some.root in
    let seen : face_in here.store.faces place ≡ Some (summary_of view) = ap (λ (s : FaceStore). face_in s.faces place) (sym c.store.ensures) ∙ c.in-Some-face.ensures.some in
    let there : face_in here.store.faces place ≡ Some top.0.0 = part_face here.store.faces here.store.tables.items c.in-Some.root top.0 top.1 in
    let whole = subst (IsWholeOf all) (same_there (face_in here.store.faces place) top.0.0 (summary_of view) there seen) top.2 in
    subst (λ (v : TreeView). IsRootOf v.leaves view) c.self.view_is (root_is all view c.self.invariant.sound_leaves whole c.in-Some-face.ensures.packed)
