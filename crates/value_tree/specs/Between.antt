-- The parts of a tree that lie whole from one of its leaves to another, and a walk that gathers them.
use Rattle.std.specs.Prelude.{◌≡◌, ℕ, ◌+◌, ◌-◌, ◌≤◌, min, nat_le, cond, List, [], ◌∷◌, ◌++◌, Option}
use Rattle.tree_shape.specs.declared.node.Child.{Child}
use Rattle.tree_shape.specs.declared.node.Child.TheVariants.{Leaf, Inner}
use Rattle.tree_shape.specs.Tree.{Tree, leaf, inner, name, count}
use Rattle.tree_shape.specs.Changes.{IsSubtreeOf}
use Rattle.value_tree.specs.declared.between.Counted.{Counted}

-- The parts from one leaf to another, which isn't counted: the tree itself where the stretch is as long as it, and else those of its
-- left part and then those of its right part.
abbrev pub tree_parts_between : ℕ → ℕ → Tree → List Child
tree_parts_between from to (leaf n) = cond (nat_le 1 (to - from)) (Leaf n ∷ []) []
tree_parts_between from to (inner n l r) = cond (nat_le (count l + count r) (to - from)) (Inner n ∷ []) (tree_parts_between from (min to (count l)) l ++ tree_parts_between (from - count l) (to - count l) r)

-- the child is the root of this part of the tree, with the number of its leaves, and the stretch ends within it
pub record IsStretch (tree : Option Tree) (counted : Counted) (to : ℕ) (t : Tree) : Type 0 where
  pub part : IsSubtreeOf t tree
  pub named : counted.child ≡ name t
  pub leaves : counted.leaves ≡ count t
  pub inside : to ≤ count t
