use Rattle.std.proofs.Common.{◌≡◌, ℕ, ◌<◌, ◌≤◌, ◌-◌, List, arith, sym, ◌∙◌, ap, Some}
use Rattle.std.proofs.lemmas.Grind.{common_steps}
use Rattle.std.specs.List.{slice_get}
use Rattle.tree_shape.specs.declared.node.Child.{Child}
use Rattle.tree_shape.specs.declared.node.Child.TheVariants.{Inner}
use Rattle.tree_shape.specs.declared.node.Node.{Node}
use Rattle.tree_shape.specs.Tree.{Tree, name, height, count, NodesStand, HasLeafAt, stored_height}
use Rattle.tree_shape.proofs.ArenaTrees.{arena_inner_opened, stored_height_is_height, length_leaves}
use Rattle.tree_shape.proofs.node.+leaf_at.Goals as goal

pub leaves_of-before-requires : goal.leaves_of-before-requires
leaves_of-before-requires t c =
    let o = arena_inner_opened _ _ _ c.row-node.result (sym c.in-Inner.is ∙ c.requires.1) c.requires.2 c.row-node.ensures in
    (o.left, ap (λ (node : Node). node.left) o.node_is, o.stands_left)

-- the left part: where it has the leaf, and that it is lower
first : (rows : List Node) (child : Child) (n : ℕ) (node : Node) (at before : ℕ) → child ≡ Inner n → HasLeafAt rows child at → slice_get rows n ≡ Some node → ((t : Tree) → node.left ≡ name t → NodesStand rows t → before ≡ count t) → at < before → (stored_height rows node.left < stored_height rows child) × HasLeafAt rows node.left at
first rows child n node at before is has row told lt =
    let o = arena_inner_opened rows n has.0 node (sym is ∙ has.1) has.2 row in
    let named : node.left ≡ name o.left = ap (λ (node : Node). node.left) o.node_is in
    let here = stored_height_is_height rows child has.0 has.1 has.2 in
    let there = stored_height_is_height rows node.left o.left named o.stands_left in
    let high = ap height o.is in
    let leaves_before = told o.left named o.stands_left in
    (omega arith, (o.left, named, o.stands_left, omega arith))

second : (rows : List Node) (child : Child) (n : ℕ) (node : Node) (at before : ℕ) → child ≡ Inner n → HasLeafAt rows child at → slice_get rows n ≡ Some node → ((t : Tree) → node.left ≡ name t → NodesStand rows t → before ≡ count t) → before ≤ at → (stored_height rows node.right < stored_height rows child) × HasLeafAt rows node.right (at - before)
second rows child n node at before is has row told le =
    let o = arena_inner_opened rows n has.0 node (sym is ∙ has.1) has.2 row in
    let named : node.left ≡ name o.left = ap (λ (node : Node). node.left) o.node_is in
    let named_right : node.right ≡ name o.right = ap (λ (node : Node). node.right) o.node_is in
    let here = stored_height_is_height rows child has.0 has.1 has.2 in
    let there = stored_height_is_height rows node.right o.right named_right o.stands_right in
    let high = ap height o.is in
    let many = ap count o.is in
    let leaves_before = told o.left named o.stands_left in
    (omega arith, (o.right, named_right, o.stands_right, omega arith))

pub leaf_at-requires : goal.leaf_at-requires
leaf_at-requires t c =
    let f = first _ _ _ _ _ _ c.in-Inner.is c.requires c.row-node.ensures c.leaves_of-before.ensures c.if-at-before.true in
    (omega arith, f.1)

pub leaf_at-requires-else-at-before : goal.leaf_at-requires-else-at-before
leaf_at-requires-else-at-before t c =
    let f = second _ _ _ _ _ _ c.in-Inner.is c.requires c.row-node.ensures c.leaves_of-before.ensures c.if-at-before.false in
    (omega arith, f.1)

pub returns-then-at-before : goal.returns-then-at-before
returns-then-at-before t c = λ u e s.
    let o = arena_inner_opened _ _ u c.row-node.result (sym c.in-Inner.is ∙ e) s c.row-node.ensures in
    let named : c.row-node.result.left ≡ name o.left = ap (λ (node : Node). node.left) o.node_is in
    let r = c.leaf_at.ensures o.left named o.stands_left in
    let b = c.leaves_of-before.ensures o.left named o.stands_left in
    rw o.is (r ∙ grind (arith, common_steps, length_leaves))

pub returns-else-at-before : goal.returns-else-at-before
returns-else-at-before t c = λ u e s.
    let o = arena_inner_opened _ _ u c.row-node.result (sym c.in-Inner.is ∙ e) s c.row-node.ensures in
    let named : c.row-node.result.left ≡ name o.left = ap (λ (node : Node). node.left) o.node_is in
    let named_right : c.row-node.result.right ≡ name o.right = ap (λ (node : Node). node.right) o.node_is in
    let r = c.leaf_at-else-at-before.ensures o.right named_right o.stands_right in
    let b = c.leaves_of-before.ensures o.left named o.stands_left in
    rw o.is (r ∙ grind (arith, common_steps, length_leaves))
