-- A tree built from halves.
use Rattle.std.specs.Prelude.{◌≡◌, ℕ, zero, suc, ◌-◌, ◌<◌, ◌≤◌, ◌^◌, List, [], ◌∷◌, ◌++◌, length, Option, Some, None}
use Rattle.tree_shape.specs.declared.node.Child.{Child}
use Rattle.tree_shape.specs.declared.node.Node.{Node}
use Rattle.tree_shape.specs.declared.node.Side.TheVariants.{Left}
use Rattle.tree_shape.specs.declared.dirty.DirtyRow.{DirtyRow}
use Rattle.tree_shape.specs.Plan.{Plan, kept, made, rows}
use Rattle.tree_shape.specs.Tree.{Tree, leaf, inner, name, height, count, leaves, IsBalanced, NodesStand}

-- the inner nodes' numbers, each after those below it
abbrev pub inners_up : Tree → List ℕ
inners_up (leaf n) = []
inners_up (inner n l r) = inners_up l ++ (inners_up r ++ n ∷ [])

-- the same, of a tree that may have no leaf
abbrev pub inners_upward : Option Tree → List ℕ
inners_upward None = []
inners_upward (Some t) = inners_up t

-- so many numbers that follow one another
abbrev pub numbers_from : ℕ → ℕ → List ℕ
numbers_from first zero = []
numbers_from first (suc many) = first ∷ numbers_from (suc first) many

-- the least height of a tree of so many leaves
pub record IsLeastHeight (many high : ℕ) : Type 0 where
  pub enough : many ≤ 2 ^ high
  pub least : 1 ≤ high → 2 ^ (high - 1) < many

-- a tree over leaves whose numbers follow one another, whose nodes stand behind those that there were
pub record IsBuiltFrom (old new : List Node) (first many : ℕ) (child : Child) (t : Tree) : Type 0 where
  pub named : child ≡ name t
  pub behind : (more : List Node) × (new ≡ old ++ more)
  pub stands : NodesStand new t
  pub leaves_are : leaves t ≡ numbers_from first many
  pub inners_are : inners_up t ≡ numbers_from (length old) (many - 1)
  pub counted : count t ≡ many
  pub high : IsLeastHeight many (height t)
  pub balanced : IsBalanced t

-- every inner node written
abbrev pub all_made : Tree → Plan
all_made (leaf n) = kept (leaf n)
all_made (inner n l r) = made Left n (all_made l) (all_made r)

-- the rows of all inner nodes, each after those below it
abbrev pub all_rows : Option Tree → List DirtyRow
all_rows None = []
all_rows (Some t) = rows (all_made t)
