-- What a walk over the rows of a change needs: both parts are there and fit, the room for what is composed, and a bound on the steps.
use Rattle.std.specs.Prelude.{◌≡◌, ℕ, ◌+◌, ◌≤◌, eqb, cond, List, [], ◌∷◌, ◌++◌, map, length, drop, Option, Some, None}
use Rattle.tree_shape.specs.declared.dirty.DirtyRow.{DirtyRow}
use Rattle.tree_shape.specs.Values.{IsThere, part, with_node, row_value, composed_all, values_refreshed, value}
use Rattle.tree_shape.specs.Tree.{Tree, leaf, inner, name}

-- which values may stand beside each other in one tree, and what a composed value stands for
pub record StandLaws {V : Type 0} (sound : List V → Type 0) (stands : List V → V → Type 0) (join : V → V → V) (fits : V → V → Type 0) : Type 0 where
  pub one : (v : V) → sound (v ∷ []) → stands (v ∷ []) v
  pub front : (xs ys : List V) → sound (xs ++ ys) → sound xs
  pub back : (xs ys : List V) → sound (xs ++ ys) → sound ys
  pub both : (xs ys : List V) (a b : V) → sound (xs ++ ys) → stands xs a → stands ys b → fits a b × stands (xs ++ ys) (join a b)

-- a bound on room that is known before the values are
pub record RoomLaws {V R : Type 0} (join : V → V → V) (fits : V → V → Type 0) (room : V → R) (after : R → R → R) (within : R → R → Type 0) : Type 0 where
  pub same : (a : R) → within a a
  pub along : (a b c : R) → within a b → within b c → within a c
  pub bounds : (a b : V) → fits a b → within (room (join a b)) (after (room a) (room b))
  pub rises : (a b c d : R) → within a b → within c d → within (after a c) (after b d)

module _ {V R : Type 0} (join : V → V → V) (fits : V → V → Type 0) (room : V → R) (after : R → R → R) (within : R → R → Type 0) (leaf_at : ℕ → Option V) where
  -- both parts are there and fit, and this room is enough for the two composed
  abbrev pub FitsStep : (ℕ → Option V) → DirtyRow → R → Type 0
  FitsStep node_at row r = (a : V) × (b : V) × (part leaf_at node_at row.left ≡ Some a) × (part leaf_at node_at row.right ≡ Some b) × fits a b × within (after (room a) (room b)) r

  -- the same of each row, as the values then are
  abbrev pub FitSteps : (ℕ → Option V) → List DirtyRow → List R → Type 0
  FitSteps node_at [] rooms = Unit {0}
  FitSteps node_at (row ∷ rest) [] = ⊥
  FitSteps node_at (row ∷ rest) (r ∷ rooms) = FitsStep node_at row r × FitSteps (with_node node_at row.node (row_value join leaf_at node_at row)) rest rooms

-- the steps of composing two values
abbrev pub composing_steps : {V : Type 0} → (V → V → V) → (V → ℕ) → Option V → Option V → ℕ
composing_steps join cost None b = 0
composing_steps join cost (Some a) None = 0
composing_steps join cost (Some a) (Some b) = cost a + (cost b + cost (join a b))

-- the steps of composing each row, as the values then are
abbrev pub steps_of_rows : {V : Type 0} → (V → V → V) → (V → ℕ) → (ℕ → Option V) → (ℕ → Option V) → List DirtyRow → ℕ
steps_of_rows join cost leaf_at node_at [] = 0
steps_of_rows join cost leaf_at node_at (row ∷ rest) = composing_steps join cost (part leaf_at node_at row.left) (part leaf_at node_at row.right) + steps_of_rows join cost leaf_at (with_node node_at row.node (row_value join leaf_at node_at row)) rest

module _ {V R : Type 0} (join : V → V → V) (fits : V → V → Type 0) (cost : V → ℕ) (room : V → R) (after : R → R → R) (within : R → R → Type 0) (leaf_at : ℕ → Option V) where
  -- a walk over the rows after some of them: the values and the rooms as they are then, and what remains
  pub record IsUnderway (meets : List R → Type 0) (nodes_before : ℕ → Option V) (steps_left : ℕ) (rows : List DirtyRow) (at : ℕ) (leaves_now nodes_now : ℕ → Option V) : Type 0 where
    pub now : ℕ → Option V
    pub rooms : List R
    pub nodes : (k : ℕ) → nodes_now k ≡ now k
    pub leaves : (k : ℕ) → leaves_now k ≡ leaf_at k
    pub fit : FitSteps join fits room after within leaf_at now (drop at rows) rooms
    pub rest : values_refreshed join leaf_at now (drop at rows) ≡ values_refreshed join leaf_at nodes_before rows
    pub steps : steps_of_rows join cost leaf_at now (drop at rows) ≡ steps_left
    pub meets_rest : meets rooms

-- values for runs of these leaves cost no more than this
abbrev pub Costs : {V : Type 0} → (List V → V → Type 0) → (V → ℕ) → ℕ → List V → Type 0
Costs {V} stands cost most all = (before run after : List V) (v : V) → all ≡ before ++ (run ++ after) → stands run v → cost v ≤ most

module _ {V : Type 0} (join : V → V → V) (fits : V → V → Type 0) (cost : V → ℕ) (each : ℕ) (leaf_at : ℕ → Option V) where
  -- the two values below each inner node are there and fit, and composing them costs no more than this
  abbrev pub ValuesFit : Tree → Type 0
  ValuesFit (leaf n) = IsThere (leaf_at n)
  ValuesFit (inner n l r) = (a : V) × (b : V) × (value join leaf_at l ≡ Some a) × (value join leaf_at r ≡ Some b) × fits a b × (cost a + (cost b + cost (join a b)) ≤ each) × ValuesFit l × ValuesFit r

-- a room known for the tree that is enough for its value
abbrev pub IsBounded : {V R : Type 0} → (V → V → V) → (V → R) → (R → R → Type 0) → (ℕ → Option V) → (ℕ → Option R) → (ℕ → Option R) → Tree → Type 0
IsBounded {V} {R} join room within leaf_at room_at rooms t = (v : V) × (r : R) × (value join leaf_at t ≡ Some v) × (part room_at rooms (name t) ≡ Some r) × within (room v) r

-- the room found last for a node, along rows of which each has its room, or else another
abbrev pub latest_room : {R : Type 0} → ℕ → List DirtyRow → List R → Option R → Option R
latest_room n [] rs other = other
latest_room n (row ∷ rows) [] other = other
latest_room n (row ∷ rows) (r ∷ rs) other = latest_room n rows rs (cond (eqb n row.node) (Some r) other)

-- the one found, or else another
abbrev pub found_or : {R : Type 0} → Option R → Option R → Option R
found_or None other = other
found_or (Some r) other = Some r

-- a walk that finds the rooms of rows, after some of them
pub record IsFinding {R : Type 0} (after : R → R → R) (room_at rooms_before : ℕ → Option R) (rows : List DirtyRow) (rs : List R) (at : ℕ) : Type 0 where
  pub now : ℕ → Option R
  pub found : (n : ℕ) → now n ≡ latest_room n rows rs (rooms_before n)
  pub rest : composed_all after room_at rooms_before rows ≡ map (λ r. Some r) rs ++ composed_all after room_at now (drop at rows)
  pub long : length rs ≡ at
