-- What contracts see of a shape.
use Rattle.std.specs.Prelude.{◌≡◌, ℕ, zero, suc, ◌<◌, ◌≤◌, Bool, List, [], ◌∷◌, ◌++◌, Option, Some, None, refl}
use Rattle.std.specs.Option.{option_map}
use Rattle.std.specs.List.{slice_get}
use Rattle.std.specs.Coded.{Coded, code_by, coded×, coded_ℕ, coded_list, coded_option, coded_bool}
use Rattle.std.proofs.Common.{ap, ◌∙◌}
use Rattle.std.proofs.lemmas.List.{append_assoc}
use Rattle.tree_shape.specs.declared.node.Child.{Child}
use Rattle.tree_shape.specs.declared.node.Child.TheVariants.{Leaf, Inner}
use Rattle.tree_shape.specs.declared.node.Node.{Node}
use Rattle.tree_shape.specs.declared.dirty.DirtyRow.{DirtyRow}
use Rattle.tree_shape.specs.Tree.{Tree, leaf, inner, name, height, count, leaves, inner_node_numbers, IsBalanced, NodesStand, stored_height}
use Rattle.tree_shape.specs.Plan.{plan_grown, tree_of_plan, rows}
use Rattle.tree_shape.specs.Removal.{plan_shrunk, node_removed, plan_touched}
use Rattle.tree_shape.specs.Numbers.{NumbersView, numbers_without_next, given_back, AreNumbersAccounted}
use Rattle.tree_shape.specs.Apply.{times}

-- A tree is stored as its nodes, each after its parts.
abbrev pub push_tree : ℕ → ℕ → List Tree → List Tree
push_tree zero n stack = leaf n ∷ stack
push_tree (suc k) n [] = []
push_tree (suc k) n (r ∷ []) = []
push_tree (suc k) n (r ∷ (l ∷ stack)) = inner n l r ∷ stack

-- the trees that are left when all words are read
abbrev pub read_trees : List (ℕ × ℕ) → List Tree → List Tree
read_trees [] stack = stack
read_trees (p ∷ rest) stack = read_trees rest (push_tree p.0 p.1 stack)

-- the words of a tree: whether it is an inner node, and its number
abbrev pub tree_words : Tree → List (ℕ × ℕ)
tree_words (leaf n) = (0, n) ∷ []
tree_words (inner n l r) = tree_words l ++ (tree_words r ++ (1, n) ∷ [])

-- the topmost of a stack
abbrev pub first_tree : List Tree → Tree
first_tree [] = leaf 0
first_tree (t ∷ stack) = t

-- the tree of its words
abbrev pub tree_from : List (ℕ × ℕ) → Tree
tree_from words = first_tree (read_trees words [])

read_words : (t : Tree) (rest : List (ℕ × ℕ)) (stack : List Tree) → read_trees (tree_words t ++ rest) stack ≡ read_trees rest (t ∷ stack)
read_words (leaf n) rest stack = refl
read_words (inner n l r) rest stack =
    ap (λ w. read_trees w stack) (append_assoc (tree_words l) (tree_words r ++ (1, n) ∷ []) rest)
    ∙ (read_words l ((tree_words r ++ (1, n) ∷ []) ++ rest) stack
    ∙ (ap (λ w. read_trees w (l ∷ stack)) (append_assoc (tree_words r) ((1, n) ∷ []) rest)
    ∙ read_words r ((1, n) ∷ rest) (l ∷ stack)))

no_rest : (ws : List (ℕ × ℕ)) → ws ≡ ws ++ []
no_rest [] = refl
no_rest (w ∷ ws) = ap (λ v. w ∷ v) (no_rest ws)

-- a tree is read back from its words
pub tree_back : (t : Tree) → tree_from (tree_words t) ≡ t
tree_back t = ap (λ w. first_tree (read_trees w [])) (no_rest (tree_words t)) ∙ ap first_tree (read_words t [] [])

-- how a tree is stored in a value
abbrev pub tree_code : Coded Tree
tree_code = code_by (List (ℕ × ℕ)) (coded_list (coded× coded_ℕ coded_ℕ)) tree_words tree_from tree_back

-- the tree, the numbers of its leaves and of its inner nodes, and whether there is room for one insert
pub record ShapeView : Type 0 where
  pub tree : Option Tree
  pub leaf_numbers : NumbersView
  pub inner_numbers : NumbersView
  pub room : Bool

-- how the numbers are stored in a value
abbrev pub numbers_code : Coded NumbersView
numbers_code = code_by (List ℕ × ℕ) (coded× (coded_list coded_ℕ) coded_ℕ) (λ v. (v.free, v.drawn)) (λ p. record { free = p.0; drawn = p.1 }) (λ _. refl)

-- how a shape's value is stored
abbrev pub shape_code : Coded ShapeView
shape_code = code_by (Option Tree × (NumbersView × (NumbersView × Bool))) (coded× (coded_option tree_code) (coded× numbers_code (coded× numbers_code coded_bool)))
    (λ v. (v.tree, (v.leaf_numbers, (v.inner_numbers, v.room)))) (λ p. record { tree = p.0; leaf_numbers = p.1.0; inner_numbers = p.1.1.0; room = p.1.1.1 }) (λ _. refl)

-- The tree of a node, read off the arena.
abbrev pub tree_unfolded : ℕ → List Node → Child → Tree
tree_unfolded f nodes (Leaf n) = leaf n
tree_unfolded zero nodes (Inner n) = leaf n
tree_unfolded (suc f) nodes (Inner n) = elim (slice_get nodes n) [ None ↦ leaf n | Some node ↦ inner n (tree_unfolded f nodes node.left) (tree_unfolded f nodes node.right) ]

-- the tree of a child, by the height that is stored for it
abbrev pub tree_at : List Node → Child → Tree
tree_at nodes child = tree_unfolded (stored_height nodes child) nodes child

-- a root's tree, balanced, with no number twice
pub record IsSoundTree (nodes : List Node) (child : Child) (t : Tree) : Type 0 where
  pub named : child ≡ name t
  pub stands : NodesStand nodes t
  pub balanced : IsBalanced t
  pub once : (k : ℕ) → times k t ≤ 1
  pub few : count t ≤ 65536

-- the root, if there is one, has a sound tree
abbrev pub IsRoot : List Node → Option Child → Type 0
IsRoot nodes None = Unit {0}
IsRoot nodes (Some child) = (t : Tree) × IsSoundTree nodes child t

-- the number of leaves
abbrev pub leaf_count_of : Option Tree → ℕ
leaf_count_of None = 0
leaf_count_of (Some t) = count t

-- the leaves' numbers, from left to right
abbrev pub leaves_of_tree : Option Tree → List ℕ
leaves_of_tree None = []
leaves_of_tree (Some t) = leaves t

-- the inner nodes' numbers
abbrev pub inners_of_tree : Option Tree → List ℕ
inners_of_tree None = []
inners_of_tree (Some t) = inner_node_numbers t

-- the height, 0 for no leaf
abbrev pub height_of_tree : Option Tree → ℕ
height_of_tree None = 0
height_of_tree (Some t) = height t

-- the tree, if there is one, is balanced
abbrev pub IsBalancedTree : Option Tree → Type 0
IsBalancedTree None = Unit {0}
IsBalancedTree (Some t) = IsBalanced t

-- the tree after an insertion of a leaf, below a new inner node where there was a leaf already
abbrev pub tree_with : ℕ → ℕ → ℕ → Option Tree → Tree
tree_with at new number None = leaf new
tree_with at new number (Some t) = tree_of_plan (plan_grown at new number t)

-- the rows that it lists
abbrev pub rows_with : ℕ → ℕ → ℕ → Option Tree → List DirtyRow
rows_with at new number None = []
rows_with at new number (Some t) = rows (plan_grown at new number t)

-- the inner nodes' numbers after an insertion
abbrev pub inners_with : Option Tree → NumbersView → NumbersView
inners_with None v = v
inners_with (Some t) v = numbers_without_next v

-- the tree after a removal
abbrev pub tree_without : ℕ → Option Tree → Option Tree
tree_without at None = None
tree_without at (Some (leaf n)) = None
tree_without at (Some (inner n l r)) = Some (tree_of_plan (plan_shrunk at (inner n l r)))

-- the rows that it lists
abbrev pub rows_without : ℕ → Option Tree → List DirtyRow
rows_without at None = []
rows_without at (Some t) = rows (plan_shrunk at t)

-- the inner nodes' numbers after a removal: the node above the leaf goes
abbrev pub inners_without : ℕ → Option Tree → NumbersView → NumbersView
inners_without at None v = v
inners_without at (Some (leaf n)) v = v
inners_without at (Some (inner n l r)) v = given_back (node_removed at (inner n l r)) v

-- the rows of the nodes above a leaf
abbrev pub rows_above : ℕ → Option Tree → List DirtyRow
rows_above at None = []
rows_above at (Some t) = rows (plan_touched at t)

-- an arena, its root and its numbers, as they always are
pub record IsShape (nodes : List Node) (top : Option Child) (leaf_numbers inner_numbers : NumbersView) : Type 0 where
  pub sound : IsRoot nodes top
  pub leaves : AreNumbersAccounted leaf_numbers (leaves_of_tree (option_map (tree_at nodes) top))
  pub inners : AreNumbersAccounted inner_numbers (inners_of_tree (option_map (tree_at nodes) top))

-- what always holds of a shape
pub record IsLawfulShape (shape : ShapeView) : Type 0 where
  pub balanced : IsBalancedTree shape.tree
  pub few : leaf_count_of shape.tree ≤ 65536
  pub leaves : AreNumbersAccounted shape.leaf_numbers (leaves_of_tree shape.tree)
  pub inners : AreNumbersAccounted shape.inner_numbers (inners_of_tree shape.tree)

-- all but the room is the same
pub record IsSameShape (old new : ShapeView) : Type 0 where
  pub tree : new.tree ≡ old.tree
  pub leaf_numbers : new.leaf_numbers ≡ old.leaf_numbers
  pub inner_numbers : new.inner_numbers ≡ old.inner_numbers

-- a sound root with a place for one more leaf, and a number for one more inner node
abbrev pub HasPlace : List Node → Child → ℕ → ℕ → Type 0
HasPlace nodes child at number = (t : Tree) × IsSoundTree nodes child t × (at ≤ count t) × (count t < 65536) × (times number t ≡ 0)

-- a sound root with that leaf
abbrev pub HasSoundLeaf : List Node → Child → ℕ → Type 0
HasSoundLeaf nodes child at = (t : Tree) × IsSoundTree nodes child t × (at < count t)
