use Rattle.std.proofs.Common.{◌≡◌, [], ◌∷◌, ◌++◌, arith, sym, ◌∙◌, append_assoc, append-nil}
use Rattle.tree_shape.specs.Tree.{name}
use Rattle.tree_shape.specs.Plan.{tree_of_plan, rows, inner_on, dirty_row}
use Rattle.tree_shape.proofs.Turns.{name_inner_on, height_inner_on}
use Rattle.tree_shape.proofs.removal.raise_once.Goals as goal

pub returns : goal.returns
returns c = λ nodes p before bt ot r eh.
    let low = inner_on c.args.side c.args.node (tree_of_plan p) bt in
    let list : c.push-2.new.self ≡ ((before ++ rows p) ++ dirty_row c.args.side c.args.node (name (tree_of_plan p)) (name bt) ∷ []) ++ dirty_row c.args.side c.args.far (name low) (name ot) ∷ [] =
    c.push-2.ensures ∙ cc (c.push.ensures, c.row_on.ensures, c.row_on-2.ensures, r.listed, r.child, r.named, r.named_outer, name_inner_on c.args.side c.args.node (tree_of_plan p) bt) in
    ((sym (name_inner_on c.args.side c.args.far low ot), omega (arith, height_inner_on c.args.side c.args.far low ot, height_inner_on c.args.side c.args.node (tree_of_plan p) bt, r.high, r.high_outer)), list ∙ simp (append_assoc, append-nil))
