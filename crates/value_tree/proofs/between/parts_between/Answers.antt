use Rattle.std.proofs.Common.{◌++◌, sym, ◌∙◌, ap}
use Rattle.value_tree.specs.Between.{tree_parts_between}
use Rattle.value_tree.proofs.Stretches.{at_root, tree_between, tree_few}
use Rattle.value_tree.proofs.between.parts_between.Goals as goal

pub returns-clause-parts : goal.returns-clause-parts
returns-clause-parts c =
    let tree = c.args.shape.now.tree in
    let o = at_root tree c.in-Some.child c.len-leaves.result c.args.to (sym c.in-Some.is ∙ c.root.ensures) c.len-leaves.ensures.leaves c.requires in
    let added = c.in_ok-add_between.ensures o.0 o.2 ∙ ap (λ v. v ++ tree_parts_between c.args.from c.args.to o.0) c.new-parts.ensures.items in
    tree_between tree o.0 c.args.from c.args.to c.add_between.new.parts.items o.1 c.requires added

pub returns-clause-few : goal.returns-clause-few
returns-clause-few c =
    let tree = c.args.shape.now.tree in
    let o = at_root tree c.in-Some.child c.len-leaves.result c.args.to (sym c.in-Some.is ∙ c.root.ensures) c.len-leaves.ensures.leaves c.requires in
    let added = c.in_ok-add_between.ensures o.0 o.2 ∙ ap (λ v. v ++ tree_parts_between c.args.from c.args.to o.0) c.new-parts.ensures.items in
    tree_few tree o.0 c.args.from c.args.to c.add_between.new.parts.items o.1 c.len-leaves.ensures.lawful.balanced added
