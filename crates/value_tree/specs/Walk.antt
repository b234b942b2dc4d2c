-- Walks down a tree: to the leaf that has an offset, and to a position.
use Rattle.std.specs.Prelude.{◌≡◌, ℕ, ◌+◌, ◌<◌, ◌≤◌, take, Option}
use Rattle.tree_shape.specs.Tree.{Tree, name, leaves, height, count}
use Rattle.tree_shape.specs.Changes.{IsSubtreeOf}
use Rattle.tree_shape.specs.Values.{AreThere, KeepsNodeValues, values_of_numbers}
use Rattle.tree_shape.specs.Composing.{ValuesFit}
use Rattle.value_tree.specs.Found.{total_count, found_in, place_further}
use Rattle.value_tree.specs.declared.before.Descent.{Descent}
use Rattle.value_tree.specs.declared.find.LeafWalk.{LeafWalk}

module _ {V : Type 0} (join : V → V → V) (fits : V → V → Type 0) (cost : V → ℕ) (counts : V → ℕ) (leaf_at node_at : ℕ → Option V) where
  -- after so many steps of at most so many, it has come to this part of the tree
  pub record IsWalkAt (tree : Option Tree) (whole : Option (ℕ × ℕ)) (done high : ℕ) (walk : LeafWalk) (each : ℕ) (t : Tree) : Type 0 where
    pub named : walk.child ≡ name t
    pub part : IsSubtreeOf t tree
    pub there : AreThere leaf_at (leaves t)
    pub keeps : KeepsNodeValues join leaf_at node_at t
    pub fit : ValuesFit join fits cost each leaf_at t
    pub inside : walk.left < total_count counts (values_of_numbers leaf_at (leaves t))
    pub found : whole ≡ place_further walk.at (found_in counts (values_of_numbers leaf_at (leaves t)) walk.left)
    pub few : walk.at + count t ≤ 65536
    pub low : height t + done ≤ high

  abbrev pub IsWalk : Option Tree → Option (ℕ × ℕ) → ℕ → ℕ → LeafWalk → Type 0
  IsWalk tree whole done high walk = (each : ℕ) × (t : Tree) × IsWalkAt tree whole done high walk each t

  -- on the way to a position: after so many steps of at most so many, it has come to this part of the tree, and this is what all leaves before the position count
  pub record IsDescentAt (tree : Option Tree) (whole done high : ℕ) (descent : Descent) (each : ℕ) (t : Tree) : Type 0 where
    pub named : descent.child ≡ name t
    pub part : IsSubtreeOf t tree
    pub keeps : KeepsNodeValues join leaf_at node_at t
    pub fit : ValuesFit join fits cost each leaf_at t
    pub inside : descent.at < count t
    pub counted : whole ≡ descent.before + total_count counts (take descent.at (values_of_numbers leaf_at (leaves t)))
    pub low : height t + done ≤ high
    pub there : AreThere leaf_at (leaves t)

  abbrev pub IsDescent : Option Tree → ℕ → ℕ → ℕ → Descent → Type 0
  IsDescent tree whole done high descent = (each : ℕ) × (t : Tree) × IsDescentAt tree whole done high descent each t
