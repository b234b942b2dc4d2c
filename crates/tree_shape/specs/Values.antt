-- A value for each leaf and each inner node of a tree: what a change has to compose anew.
use Rattle.std.specs.Prelude.{◌≡◌, ℕ, eqb, cond, List, [], ◌∷◌, Option, Some, None}
use Rattle.tree_shape.specs.declared.node.Child.{Child}
use Rattle.tree_shape.specs.declared.node.Child.TheVariants.{Leaf, Inner}
use Rattle.tree_shape.specs.declared.dirty.DirtyRow.{DirtyRow}
use Rattle.tree_shape.specs.Tree.{Tree, leaf, inner, leaves}

-- there is one
abbrev pub IsThere : {V : Type 0} → Option V → Type 0
IsThere {V} o = (v : V) × (o ≡ Some v)

-- both composed, if both are there
abbrev pub joined_values : {V : Type 0} → (V → V → V) → Option V → Option V → Option V
joined_values join None b = None
joined_values join (Some a) None = None
joined_values join (Some a) (Some b) = Some (join a b)

-- the value of a child, from those of the leaves and of the inner nodes
abbrev pub part : {V : Type 0} → (ℕ → Option V) → (ℕ → Option V) → Child → Option V
part leaf_at node_at (Leaf n) = leaf_at n
part leaf_at node_at (Inner n) = node_at n

-- the same values, but for one node's
abbrev pub with_node : {V : Type 0} → (ℕ → Option V) → ℕ → Option V → ℕ → Option V
with_node node_at n v k = cond (eqb k n) v (node_at k)

-- the values of leaves that are there, in order
abbrev pub joined_on : {V : Type 0} → Option V → List V → List V
joined_on None vs = vs
joined_on (Some v) vs = v ∷ vs

abbrev pub values_of_numbers : {V : Type 0} → (ℕ → Option V) → List ℕ → List V
values_of_numbers leaf_at [] = []
values_of_numbers leaf_at (n ∷ ns) = joined_on (leaf_at n) (values_of_numbers leaf_at ns)

-- the leaves of a tree, if there is one
abbrev pub leaf_values : {V : Type 0} → (ℕ → Option V) → Option Tree → List V
leaf_values leaf_at None = []
leaf_values leaf_at (Some t) = values_of_numbers leaf_at (leaves t)

module _ {V : Type 0} (join : V → V → V) (leaf_at : ℕ → Option V) where
  -- the value of a tree, composed of its leaves'
  abbrev pub value : Tree → Option V
  value (leaf n) = leaf_at n
  value (inner n l r) = joined_values join (value l) (value r)

  -- each inner node has the value composed of its leaves'
  abbrev pub KeepsNodeValues : (ℕ → Option V) → Tree → Type 0
  KeepsNodeValues node_at (leaf n) = Unit {0}
  KeepsNodeValues node_at (inner n l r) = (node_at n ≡ joined_values join (value l) (value r)) × KeepsNodeValues node_at l × KeepsNodeValues node_at r

  -- the same, of a tree that may have no leaf
  abbrev pub KeepsAll : (ℕ → Option V) → Option Tree → Type 0
  KeepsAll node_at None = Unit {0}
  KeepsAll node_at (Some t) = KeepsNodeValues node_at t

  -- what a row's node gets
  abbrev pub row_value : (ℕ → Option V) → DirtyRow → Option V
  row_value node_at row = joined_values join (part leaf_at node_at row.left) (part leaf_at node_at row.right)

  -- composed anew, row after row
  abbrev pub values_refreshed : (ℕ → Option V) → List DirtyRow → ℕ → Option V
  values_refreshed node_at [] = node_at
  values_refreshed node_at (row ∷ rest) = values_refreshed (with_node node_at row.node (row_value node_at row)) rest

  -- what is composed, row after row
  abbrev pub composed_all : (ℕ → Option V) → List DirtyRow → List (Option V)
  composed_all node_at [] = []
  composed_all node_at (row ∷ rest) = row_value node_at row ∷ composed_all (with_node node_at row.node (row_value node_at row)) rest

-- each of these leaves has a value
abbrev pub AreThere : {V : Type 0} → (ℕ → Option V) → List ℕ → Type 0
AreThere leaf_at [] = Unit {0}
AreThere leaf_at (n ∷ ns) = IsThere (leaf_at n) × AreThere leaf_at ns
