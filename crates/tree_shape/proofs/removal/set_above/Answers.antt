use Rattle.std.proofs.Common.{◌≡◌, [], ◌∷◌, ◌++◌, arith, sym, ◌∙◌, append_assoc, append-nil}
use Rattle.tree_shape.specs.Tree.{name}
use Rattle.tree_shape.specs.Plan.{tree_of_plan, rows, dirty_row}
use Rattle.tree_shape.proofs.Turns.{name_inner_on, height_inner_on}
use Rattle.tree_shape.proofs.removal.set_above.Goals as goal

pub returns : goal.returns
returns c = λ nodes p before f l e.
    let list : c.push.new.self ≡ (before ++ rows p) ++ dirty_row c.args.side c.args.node (name (tree_of_plan p)) (name f) ∷ [] = c.push.ensures ∙ cc (c.row_on.ensures, l.listed, l.child, l.named) in
    ((sym (name_inner_on c.args.side c.args.node (tree_of_plan p) f), omega (arith, height_inner_on c.args.side c.args.node (tree_of_plan p) f, l.high)), list ∙ simp (append_assoc, append-nil))
