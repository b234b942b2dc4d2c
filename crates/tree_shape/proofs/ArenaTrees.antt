-- What follows from a tree that an arena stands for.
use Rattle.std.proofs.Common.{◌≡◌, ℕ, List, length, Some, refl, sym, ◌∙◌, ap, arith, length-append}
use Rattle.std.specs.List.{slice_get}
use Rattle.tree_shape.specs.declared.node.Child.{Child}
use Rattle.tree_shape.specs.declared.node.Child.TheVariants.{Inner}
use Rattle.tree_shape.specs.declared.node.Node.{Node}
use Rattle.tree_shape.specs.Tree.{Tree, leaf, inner, name, height, count, leaves, node_of_parts, NodesStand, stored_height, height_in}

-- a tree whose root is an inner node, opened
pub record Opened (rows : List Node) (n : ℕ) (t : Tree) (node : Node) : Type 0 where
  pub left : Tree
  pub right : Tree
  pub is : t ≡ inner n left right
  pub node_is : node ≡ node_of_parts left right
  pub stands_left : NodesStand rows left
  pub stands_right : NodesStand rows right

pub arena_inner_opened : (rows : List Node) (n : ℕ) (t : Tree) (node : Node) → Inner n ≡ name t → NodesStand rows t → slice_get rows n ≡ Some node → Opened rows n t node
arena_inner_opened rows n (leaf m) node e s g = cc
arena_inner_opened rows n (inner m l r) node e s g =
    let same : n ≡ m = cc in
    let row : Some node ≡ Some (node_of_parts l r) = sym g ∙ (ap (slice_get rows) same ∙ s.0) in
    record { left = l; right = r; is = ap (λ k. inner k l r) (sym same); node_is = cc; stands_left = s.1; stands_right = s.2 }

pub stored_height_is_height : (rows : List Node) (child : Child) (t : Tree) → child ≡ name t → NodesStand rows t → stored_height rows child ≡ height t
stored_height_is_height rows child (leaf n) e s = ap (stored_height rows) e
stored_height_is_height rows child (inner n l r) e s = ap (stored_height rows) e ∙ ap height_in s.0

pub length_leaves : (t : Tree) → length (leaves t) ≡ count t
length_leaves (leaf n) = refl
length_leaves (inner n l r) = omega (arith, length-append (leaves l) (leaves r), length_leaves l, length_leaves r)
