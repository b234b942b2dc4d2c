use Rattle.std.proofs.Common.{◌≡◌, [], ◌∷◌, ◌++◌, arith, sym, ◌∙◌, append_assoc, append-nil}
use Rattle.tree_shape.specs.Tree.{name}
use Rattle.tree_shape.specs.Plan.{tree_of_plan, rows, inner_on, dirty_row}
use Rattle.tree_shape.specs.Removal.{part_beside, outer}
use Rattle.tree_shape.proofs.Turns.{name_inner_on, height_inner_on}
use Rattle.tree_shape.proofs.OtherParts.{opened_on}
use Rattle.tree_shape.proofs.removal.raise_twice.Goals as goal

pub returns : goal.returns
returns c = λ p before bt ot r.
    let v = opened_on _ c.args.side _ bt c.row-split.result r.named r.stands c.row-split.ensures in
    let e = part_beside c.args.side v.left v.right in
    let g = outer c.args.side v.left v.right in
    let eb = c.beside_of.ensures ∙ v.beside_is in
    let og = c.outer_of.ensures ∙ v.outer_is in
    let he = c.part_of-first.ensures.high e eb v.stands_beside in
    let hg = c.part_of-second.ensures.high g og v.stands_outer in
    let low = inner_on c.args.side c.args.node (tree_of_plan p) e in
    let side_node = inner_on c.args.side c.args.far g ot in
    let list : c.push-3.new.self ≡ (((before ++ rows p) ++ dirty_row c.args.side c.args.node (name (tree_of_plan p)) (name e) ∷ []) ++ dirty_row c.args.side c.args.far (name g) (name ot) ∷ []) ++ dirty_row c.args.side c.args.lower (name low) (name side_node) ∷ [] =
    c.push-3.ensures ∙ cc (c.push-2.ensures, c.push.ensures, c.row_on.ensures, c.row_on-2.ensures, c.row_on-3.ensures, r.listed, r.child, c.part_of-first.ensures.child, c.part_of-second.ensures.child, eb, og, r.named_outer, name_inner_on c.args.side c.args.node (tree_of_plan p) e, name_inner_on c.args.side c.args.far g ot) in
    rw v.is ((sym (name_inner_on c.args.side c.args.lower low side_node), omega (arith, he, hg, height_inner_on c.args.side c.args.lower low side_node, height_inner_on c.args.side c.args.node (tree_of_plan p) e, height_inner_on c.args.side c.args.far g ot, r.high, r.high_outer)), list ∙ simp (append_assoc, append-nil))
