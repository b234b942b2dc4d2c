-- Parts of a tree that lie whole before a position, and a walk down that gathers them.
use Rattle.std.specs.Prelude.{◌≡◌, ℕ, ◌+◌, ◌<◌, ◌≤◌, take, List, [], ◌∷◌, ◌++◌, length, Option, Some}
use Rattle.tree_shape.specs.declared.node.Child.{Child}
use Rattle.tree_shape.specs.Tree.{Tree, name, leaves, height, count}
use Rattle.tree_shape.specs.Changes.{IsSubtreeOf}
use Rattle.value_tree.specs.declared.parts.Parting.{Parting}

-- they are children of the tree, and the leaves below them, one after the other, are these
abbrev pub AreParts : Option Tree → List Child → List ℕ → Type 0
AreParts tree [] numbers = numbers ≡ []
AreParts tree (child ∷ children) numbers = (t : Tree) × (rest : List ℕ) × (child ≡ name t) × IsSubtreeOf t tree × (numbers ≡ leaves t ++ rest) × AreParts tree children rest

-- their values stand for these leaves, one after the other
abbrev pub StandFor : {V : Type 0} → (List V → V → Type 0) → (Child → Option V) → List Child → List V → Type 0
StandFor {V} stands value_of [] all = all ≡ []
StandFor {V} stands value_of (child ∷ children) all = (front : List V) × (back : List V) × (v : V) × (all ≡ front ++ back) × (value_of child ≡ Some v) × stands front v × StandFor stands value_of children back

-- After so many steps of at most so many, the walk has come to this part of the tree. The leaves before the position are those of
-- the parts that it gathered, and some of this part.
pub record IsPartingAt (tree : Option Tree) (before : List ℕ) (done high : ℕ) (parting : Parting) (parts : List Child) (t : Tree) : Type 0 where
  pub named : parting.child ≡ name t
  pub part : IsSubtreeOf t tree
  pub inside : parting.at < count t
  pub numbers : List ℕ
  pub parts_are : AreParts tree parts numbers
  pub whole : before ≡ numbers ++ take parting.at (leaves t)
  pub low : height t + done ≤ high
  pub few : length parts ≤ done

abbrev pub IsParting : Option Tree → List ℕ → ℕ → ℕ → Parting → List Child → Type 0
IsParting tree before done high parting parts = (t : Tree) × IsPartingAt tree before done high parting parts t
