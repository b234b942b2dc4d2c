-- Each part of a tree has one node above it, and what the rows of a change note is that node.
use Rattle.std.proofs.Common.{◌≡◌, ◌≢◌, ℕ, zero, suc, ◌+◌, ◌<◌, ◌≤◌, List, [], ◌∷◌, length, Option, Some, None, refl, sym, ◌∙◌, ap, subst, arith, ◌⊎◌, inl, inr}
use Rattle.std.specs.Prelude.{slice_set}
use Rattle.std.specs.List.{All, slice_get}
use Rattle.std.proofs.Math.ListN.{length-set}
use Rattle.std.proofs.lemmas.List.Elements.{All-head, All-tail, All-weaker}
use Rattle.std.proofs.lemmas.Bool.Decides.{eqb_tells}
use Rattle.tree_shape.specs.declared.dirty.DirtyRow.{DirtyRow}
use Rattle.tree_shape.specs.declared.node.Child.{Child}
use Rattle.tree_shape.specs.declared.node.Child.TheVariants.{Leaf, Inner}
use Rattle.tree_shape.specs.declared.node.Node.{Node}
use Rattle.tree_shape.specs.Tree.{Tree, leaf, inner, name, leaves, inner_node_numbers}
use Rattle.tree_shape.specs.Apply.{mark, times}
use Rattle.tree_shape.specs.Changes.{IsSubtree, HasChildren, times_listed, ListsChanges}
use Rattle.tree_shape.specs.Numbers.{NumbersView, times_in, AreNumbersAccounted}
use Rattle.tree_shape.specs.Parents.{ParentsView, parent_in, with_parent, with_parents, IsPlaced, RowIsPlaced, PartsHaveParents}
use Rattle.tree_shape.proofs.ArenaChanges.{set_here, set_away, mark_is_one_or_none, one_same}
use Rattle.tree_shape.proofs.NumberCounts.{times_in-append, counted_times}
use Rattle.tree_shape.proofs.Roots.{sound_read}
use Rattle.tree_shape.proofs.Shapes.{times_inners, counted_leaves, counted_inners}
use Rattle.tree_shape.specs.View.{tree_at, IsSoundTree, IsShape}
use Rattle.std.specs.Option.{option_map}
use Rattle.std.proofs.lemmas.Bool.Decides.{leb_tells}

-- the child is one of the two parts
abbrev pub IsEither : Child → Child → Child → Type 0
IsEither c a b = (c ≡ a) ⊎ (c ≡ b)

-- one where two children are the same
abbrev pub same : Child → Child → ℕ
same (Leaf m) (Leaf n) = mark m n
same (Leaf m) (Inner n) = 0
same (Inner m) (Leaf n) = 0
same (Inner m) (Inner n) = mark m n

-- how often a child is named as a part
abbrev pub parts_named : Child → Tree → ℕ
parts_named c (leaf n) = 0
parts_named c (inner n l r) = (same c (name l) + same c (name r)) + (parts_named c l + parts_named c r)

-- how often a child is there at all
abbrev pub times_there : Child → Tree → ℕ
times_there (Leaf k) t = times_in k (leaves t)
times_there (Inner k) t = times k t

itself : (c : Child) → same c c ≡ 1
itself (Leaf n) = one_same n
itself (Inner n) = one_same n

same_as : (c d : Child) → c ≡ d → same c d ≡ 1
same_as c d e = ap (same c) (sym e) ∙ itself c

there_split : (c : Child) (n : ℕ) (l r : Tree) → times_there c (inner n l r) ≡ same c (Inner n) + (times_there c l + times_there c r)
there_split (Leaf k) n l r = omega (arith, times_in-append k (leaves l) (leaves r))
there_split (Inner k) n l r = refl

-- each part but the root is named once where it is there
pub named_there : (c : Child) (t : Tree) → same c (name t) + parts_named c t ≡ times_there c t
named_there (Leaf k) (leaf n) = omega arith
named_there (Inner k) (leaf n) = omega arith
named_there c (inner n l r) = omega (arith, there_split c n l r, named_there c l, named_there c r)

pub part_named : (t l r : Tree) (n : ℕ) (c : Child) → IsSubtree (inner n l r) t → IsEither c (name l) (name r) → 1 ≤ parts_named c t
part_named (leaf m) l r n c p e = cc
part_named (inner m a b) l r n c (inl p) e =
    let left : l ≡ a = cc in
    let right : r ≡ b = cc in
    elim e [
      | inl w ↦ omega (arith, same_as c (name a) (w ∙ ap name left))
      | inr w ↦ omega (arith, same_as c (name b) (w ∙ ap name right))
    ]
part_named (inner m a b) l r n c (inr (inl p)) e = omega (arith, part_named a l r n c p e)
part_named (inner m a b) l r n c (inr (inr p)) e = omega (arith, part_named b l r n c p e)

root_named : (m : ℕ) (a b l r : Tree) (n : ℕ) (c : Child) → inner n l r ≡ inner m a b → IsEither c (name l) (name r) → 1 ≤ same c (name a) + same c (name b)
root_named m a b l r n c p e =
    let left : l ≡ a = cc in
    let right : r ≡ b = cc in
    elim e [
      | inl w ↦ omega (arith, same_as c (name a) (w ∙ ap name left))
      | inr w ↦ omega (arith, same_as c (name b) (w ∙ ap name right))
    ]

-- a child has one node above it
pub one_above : (t l r k o : Tree) (n m : ℕ) (c : Child) → parts_named c t ≤ 1 → IsSubtree (inner n l r) t → IsEither c (name l) (name r) → IsSubtree (inner m k o) t → IsEither c (name k) (name o) → n ≡ m
one_above (leaf x) l r k o n m c once p e q f = cc
one_above (inner x a b) l r k o n m c once (inl p) e (inl q) f = cc
one_above (inner x a b) l r k o n m c once (inl p) e (inr (inl q)) f = absurd (omega (arith, root_named x a b l r n c p e, part_named a k o m c q f))
one_above (inner x a b) l r k o n m c once (inl p) e (inr (inr q)) f = absurd (omega (arith, root_named x a b l r n c p e, part_named b k o m c q f))
one_above (inner x a b) l r k o n m c once (inr (inl p)) e (inl q) f = absurd (omega (arith, root_named x a b k o m c q f, part_named a l r n c p e))
one_above (inner x a b) l r k o n m c once (inr (inr p)) e (inl q) f = absurd (omega (arith, root_named x a b k o m c q f, part_named b l r n c p e))
one_above (inner x a b) l r k o n m c once (inr (inl p)) e (inr (inl q)) f = one_above a l r k o n m c (omega arith) p e q f
one_above (inner x a b) l r k o n m c once (inr (inr p)) e (inr (inr q)) f = one_above b l r k o n m c (omega arith) p e q f
one_above (inner x a b) l r k o n m c once (inr (inl p)) e (inr (inr q)) f = absurd (omega (arith, part_named a l r n c p e, part_named b k o m c q f))
one_above (inner x a b) l r k o n m c once (inr (inr p)) e (inr (inl q)) f = absurd (omega (arith, part_named b l r n c p e, part_named a k o m c q f))

-- an inner node that is a part is there
pub part_times : (k : ℕ) (l r t : Tree) → IsSubtree (inner k l r) t → 1 ≤ times k t
part_times k l r (leaf n) e = cc
part_times k l r (inner n a b) (inl e) = let is : k ≡ n = cc in omega (arith, one_same n, ap (λ v. mark v n) is)
part_times k l r (inner n a b) (inr (inl p)) = omega (arith, part_times k l r a p)
part_times k l r (inner n a b) (inr (inr p)) = omega (arith, part_times k l r b p)

-- an inner node has one pair of parts
pub one_below : (t l r k o : Tree) (n : ℕ) → times n t ≤ 1 → IsSubtree (inner n l r) t → IsSubtree (inner n k o) t → (l ≡ k) × (r ≡ o)
one_below (leaf x) l r k o n once p q = cc
one_below (inner x a b) l r k o n once (inl p) (inl q) = (cc, cc)
one_below (inner x a b) l r k o n once (inl p) (inr (inl q)) = let is : n ≡ x = cc in absurd (omega (arith, one_same x, ap (λ v. mark v x) is, part_times n k o a q))
one_below (inner x a b) l r k o n once (inl p) (inr (inr q)) = let is : n ≡ x = cc in absurd (omega (arith, one_same x, ap (λ v. mark v x) is, part_times n k o b q))
one_below (inner x a b) l r k o n once (inr (inl p)) (inl q) = let is : n ≡ x = cc in absurd (omega (arith, one_same x, ap (λ v. mark v x) is, part_times n l r a p))
one_below (inner x a b) l r k o n once (inr (inr p)) (inl q) = let is : n ≡ x = cc in absurd (omega (arith, one_same x, ap (λ v. mark v x) is, part_times n l r b p))
one_below (inner x a b) l r k o n once (inr (inl p)) (inr (inl q)) = one_below a l r k o n (omega arith) p q
one_below (inner x a b) l r k o n once (inr (inr p)) (inr (inr q)) = one_below b l r k o n (omega arith) p q
one_below (inner x a b) l r k o n once (inr (inl p)) (inr (inr q)) = absurd (omega (arith, part_times n l r a p, part_times n k o b q))
one_below (inner x a b) l r k o n once (inr (inr p)) (inr (inl q)) = absurd (omega (arith, part_times n l r b p, part_times n k o a q))

-- Writing parents.

abbrev IsIn : ParentsView → Child → Type 0
IsIn v c = IsPlaced (length v.leaves) (length v.inners) c

-- what is kept for a child after another one's number was written, or its own
seen_parent : (v : ParentsView) (c d : Child) (p : ℕ) → IsIn v c → ((c ≡ d) × (parent_in (with_parent v d p) c ≡ Some p)) ⊎ ((c ≢ d) × (parent_in (with_parent v d p) c ≡ parent_in v c))
seen_parent v (Leaf m) (Leaf n) p inside = elim (eqb_tells m n) [
  | inl w ↦ inl (ap (λ k. Leaf k) w.1, ap (slice_get (slice_set v.leaves n p)) w.1 ∙ set_here v.leaves n p (subst (λ k. k < length v.leaves) w.1 inside))
  | inr w ↦ inr (λ e. let is : m ≡ n = cc in w.1 is, set_away v.leaves n m p w.1)
]
seen_parent v (Leaf m) (Inner n) p inside = inr (λ e. cc, refl)
seen_parent v (Inner m) (Leaf n) p inside = inr (λ e. cc, refl)
seen_parent v (Inner m) (Inner n) p inside = elim (eqb_tells m n) [
  | inl w ↦ inl (ap (λ k. Inner k) w.1, ap (slice_get (slice_set v.inners n p)) w.1 ∙ set_here v.inners n p (subst (λ k. k < length v.inners) w.1 inside))
  | inr w ↦ inr (λ e. let is : m ≡ n = cc in w.1 is, set_away v.inners n m p w.1)
]

still_in : (v : ParentsView) (c d : Child) (p : ℕ) → IsIn v c → IsIn (with_parent v d p) c
still_in v (Leaf m) (Leaf n) p inside = omega (arith, length-set v.leaves n p)
still_in v (Leaf m) (Inner n) p inside = inside
still_in v (Inner m) (Leaf n) p inside = inside
still_in v (Inner m) (Inner n) p inside = omega (arith, length-set v.inners n p)

-- each row that has the child for a part has this node
abbrev Only : Child → ℕ → List DirtyRow → Type 0
Only c n [] = Unit {0}
Only c n (row ∷ rest) = (IsEither c row.left row.right → row.node ≡ n) × Only c n rest

-- a row of this node has the child for a part
abbrev pub Has : Child → ℕ → List DirtyRow → Type 0
Has c n [] = ⊥
Has c n (row ∷ rest) = ((row.node ≡ n) × IsEither c row.left row.right) ⊎ Has c n rest

noted_one : (v : ParentsView) (c : Child) (n : ℕ) (row : DirtyRow) → IsIn v c → (IsEither c row.left row.right → row.node ≡ n)
    → (parent_in (with_parent (with_parent v row.left row.node) row.right row.node) c ≡ Some n) ⊎ ((IsEither c row.left row.right → ⊥) × (parent_in (with_parent (with_parent v row.left row.node) row.right row.node) c ≡ parent_in v c))
noted_one v c n row inside only =
    let first = with_parent v row.left row.node in
    elim (seen_parent first c row.right row.node (still_in v c row.left row.node inside)) [
      | inl w ↦ inl (w.1 ∙ ap (λ k. Some k) (only (inr w.0)))
      | inr w ↦ elim (seen_parent v c row.left row.node inside) [
        | inl u ↦ inl (w.1 ∙ (u.1 ∙ ap (λ k. Some k) (only (inl u.0))))
        | inr u ↦ inr (λ e. elim e [ inl x ↦ u.0 x | inr x ↦ w.0 x ], w.1 ∙ u.1)
      ]
    ]

noted : (v : ParentsView) (c : Child) (n : ℕ) (rows : List DirtyRow) → IsIn v c → Only c n rows → (parent_in v c ≡ Some n) ⊎ Has c n rows → parent_in (with_parents v rows) c ≡ Some n
noted v c n [] inside only start = elim start [ inl e ↦ e | inr h ↦ absurd h ]
noted v c n (row ∷ rest) inside only start =
    let second = with_parent (with_parent v row.left row.node) row.right row.node in
    let there = still_in (with_parent v row.left row.node) c row.right row.node (still_in v c row.left row.node inside) in
    elim (noted_one v c n row inside only.0) [
      | inl w ↦ noted second c n rest there only.1 (inl w)
      | inr w ↦ elim start [
        | inl e ↦ noted second c n rest there only.1 (inl (w.1 ∙ e))
        | inr h ↦ elim h [
          | inl x ↦ absurd (w.0 x.1)
          | inr x ↦ noted second c n rest there only.1 (inr x)
        ]
      ]
    ]

only_of : (t l r : Tree) (n : ℕ) (c : Child) (rows : List DirtyRow) → parts_named c t ≤ 1 → IsSubtree (inner n l r) t → IsEither c (name l) (name r) → All (HasChildren (Some t)) rows → Only c n rows
only_of t l r n c [] once p e all = tt
only_of t l r n c (row ∷ rest) once p e all =
    let h : HasChildren (Some t) row = All-head (HasChildren (Some t)) row rest all in (
      λ f. one_above t h.0 h.1 l r row.node n c once h.2 (elim f [ inl x ↦ inl (x ∙ h.3) | inr x ↦ inr (x ∙ h.4) ]) p e,
      only_of t l r n c rest once p e (All-tail (HasChildren (Some t)) row rest all),
    )

-- where a number is below a count, and where it is there
pub used_below : (v : NumbersView) (used : List ℕ) (k : ℕ) → AreNumbersAccounted v used → 1 ≤ times_in k used → k < v.drawn
used_below v used k c h = elim (leb_tells v.drawn k) [ inl w ↦ absurd (omega (arith, c.not_drawn k w.1)) | inr w ↦ w.1 ]

-- every part of a tree is there
pub root_there : (t : Tree) → 1 ≤ times_there (name t) t
root_there (leaf n) = omega (arith, one_same n)
root_there (inner n l r) = omega (arith, one_same n)

pub part_there : (c : Child) (part t : Tree) → IsSubtree part t → 1 ≤ times_there c part → 1 ≤ times_there c t
part_there c part (leaf n) p h = omega (arith, ap (times_there c) p)
part_there c part (inner n l r) (inl p) h = omega (arith, ap (times_there c) p)
part_there c part (inner n l r) (inr (inl p)) h = omega (arith, there_split c n l r, part_there c part l p h)
part_there c part (inner n l r) (inr (inr p)) h = omega (arith, there_split c n l r, part_there c part r p h)

-- both parts of an inner node are there
pub below_there : (n : ℕ) (l r t : Tree) → IsSubtree (inner n l r) t → (1 ≤ times_there (name l) t) × (1 ≤ times_there (name r) t)
below_there n l r t p = (
  part_there (name l) (inner n l r) t p (omega (arith, there_split (name l) n l r, root_there l)),
  part_there (name r) (inner n l r) t p (omega (arith, there_split (name r) n l r, root_there r)),
)

-- what is there has a place
pub placed_there : (c : Child) (t : Tree) (leaf_places inner_places : ℕ) → ((k : ℕ) → 1 ≤ times_in k (leaves t) → k < leaf_places) → ((k : ℕ) → 1 ≤ times k t → k < inner_places)
    → 1 ≤ times_there c t → IsPlaced leaf_places inner_places c
placed_there (Leaf k) t leaf_places inner_places of_leaf of_inner h = of_leaf k h
placed_there (Inner k) t leaf_places inner_places of_leaf of_inner h = of_inner k h

-- the rows' parts have places
pub rows_placed : (t : Tree) (rows : List DirtyRow) (leaf_places inner_places : ℕ) → ((k : ℕ) → 1 ≤ times_in k (leaves t) → k < leaf_places) → ((k : ℕ) → 1 ≤ times k t → k < inner_places)
    → All (HasChildren (Some t)) rows → All (RowIsPlaced leaf_places inner_places) rows
rows_placed t rows leaf_places inner_places of_leaf of_inner all =
    All-weaker (HasChildren (Some t)) (RowIsPlaced leaf_places inner_places)
    (λ row h.
    let there = below_there row.node h.0 h.1 t h.2 in (
      subst (IsPlaced leaf_places inner_places) (sym h.3) (placed_there (name h.0) t leaf_places inner_places of_leaf of_inner there.0),
      subst (IsPlaced leaf_places inner_places) (sym h.4) (placed_there (name h.1) t leaf_places inner_places of_leaf of_inner there.1),
    ))
    rows all

-- once each
named_once : (c : Child) (t : Tree) → ((k : ℕ) → times_in k (leaves t) ≤ 1) → ((k : ℕ) → times k t ≤ 1) → times_there c t ≤ 1
named_once (Leaf k) t of_leaf of_inner = of_leaf k
named_once (Inner k) t of_leaf of_inner = of_inner k

pub parts_once : (c : Child) (t : Tree) → ((k : ℕ) → times_in k (leaves t) ≤ 1) → ((k : ℕ) → times k t ≤ 1) → parts_named c t ≤ 1
parts_once c t of_leaf of_inner = omega (arith, named_there c t, named_once c t of_leaf of_inner)

-- where each part is linked before or stands in a row, it is linked after the rows are noted
pub linked_by : (v : ParentsView) (t : Tree) (rows : List DirtyRow) → ((k : ℕ) → times_in k (leaves t) ≤ 1) → ((k : ℕ) → times k t ≤ 1)
    → ((k : ℕ) → 1 ≤ times_in k (leaves t) → k < length v.leaves) → ((k : ℕ) → 1 ≤ times k t → k < length v.inners) → All (HasChildren (Some t)) rows
    → ((n : ℕ) (l r : Tree) → IsSubtree (inner n l r) t → (c : Child) → IsEither c (name l) (name r) → (parent_in v c ≡ Some n) ⊎ Has c n rows)
    → PartsHaveParents (with_parents v rows) (Some t)
linked_by v t rows leaf_once inner_once of_leaf of_inner children start = λ n l r p.
    let there = below_there n l r t p in (
      noted v (name l) n rows (placed_there (name l) t (length v.leaves) (length v.inners) of_leaf of_inner there.0)
          (only_of t l r n (name l) rows (parts_once (name l) t leaf_once inner_once) p (inl refl) children) (start n l r p (name l) (inl refl)),
      noted v (name r) n rows (placed_there (name r) t (length v.leaves) (length v.inners) of_leaf of_inner there.1)
          (only_of t l r n (name r) rows (parts_once (name r) t leaf_once inner_once) p (inr refl) children) (start n l r p (name r) (inr refl)),
    )

-- a listed node's row has its parts
listed_has : (t l r : Tree) (n : ℕ) (c : Child) (rows : List DirtyRow) → times n t ≤ 1 → IsSubtree (inner n l r) t → IsEither c (name l) (name r) → All (HasChildren (Some t)) rows → 1 ≤ times_listed n rows → Has c n rows
listed_has t l r n c [] once p e all h = absurd (omega arith)
listed_has t l r n c (row ∷ rest) once p e all h =
    let w : HasChildren (Some t) row = All-head (HasChildren (Some t)) row rest all in
    elim (mark_is_one_or_none n row.node) [
      | inl x ↦
          let here : IsSubtree (inner n w.0 w.1) t = subst (λ k. IsSubtree (inner k w.0 w.1) t) (sym x.0) w.2 in
          let same_parts = one_below t l r w.0 w.1 n once p here in
          inl (sym x.0, elim e [ inl y ↦ inl (y ∙ (ap name same_parts.0 ∙ sym w.3)) | inr y ↦ inr (y ∙ (ap name same_parts.1 ∙ sym w.4)) ])
      | inr x ↦ inr (listed_has t l r n c rest once p e (All-tail (HasChildren (Some t)) row rest all) (omega (arith, x.1)))
    ]

either_linked : (v : ParentsView) (n : ℕ) (l r : Tree) (c : Child) → (parent_in v (name l) ≡ Some n) × (parent_in v (name r) ≡ Some n) → IsEither c (name l) (name r) → parent_in v c ≡ Some n
either_linked v n l r c h e = elim e [ inl x ↦ ap (parent_in v) x ∙ h.0 | inr x ↦ ap (parent_in v) x ∙ h.1 ]

-- a change leaves each part linked, once its rows are noted
pub linked_after : (v : ParentsView) (old : Option Tree) (t : Tree) (rows : List DirtyRow) (leaf_numbers inner_numbers : NumbersView) → PartsHaveParents v old → ListsChanges old (Some t) rows
    → AreNumbersAccounted leaf_numbers (leaves t) → AreNumbersAccounted inner_numbers (inner_node_numbers t) → leaf_numbers.drawn ≤ length v.leaves → inner_numbers.drawn ≤ length v.inners
    → PartsHaveParents (with_parents v rows) (Some t) × All (RowIsPlaced (length v.leaves) (length v.inners)) rows
linked_after v old t rows leaf_numbers inner_numbers linked listing counted inner_counted leaf_places inner_places =
    let of_leaf : (k : ℕ) → 1 ≤ times_in k (leaves t) → k < length v.leaves = λ k h. omega (arith, used_below leaf_numbers (leaves t) k counted h) in
    let of_inner : (k : ℕ) → 1 ≤ times k t → k < length v.inners = λ k h. omega (arith, used_below inner_numbers (inner_node_numbers t) k inner_counted (omega (arith, times_inners k t))) in
    let inner_once : (k : ℕ) → times k t ≤ 1 = λ k. omega (arith, counted_times inner_numbers (inner_node_numbers t) k inner_counted, times_inners k t) in
    let leaf_once : (k : ℕ) → times_in k (leaves t) ≤ 1 = λ k. omega (arith, counted_times leaf_numbers (leaves t) k counted) in (
      linked_by v t rows leaf_once inner_once of_leaf of_inner listing.children
          (λ n l r p c e. elim (none_or_some (times_listed n rows)) [
            | inl none ↦ inl (either_linked v n l r c (linked n l r (listing.others n l r p none)) e)
            | inr some ↦ inr (listed_has t l r n c rows (inner_once n) p e listing.children some)
          ]),
      rows_placed t rows (length v.leaves) (length v.inners) of_leaf of_inner listing.children,
    )
  where
    none_or_some : (a : ℕ) → (a ≡ 0) ⊎ (1 ≤ a)
    none_or_some zero = inl refl
    none_or_some (suc a) = inr (omega arith)

-- a single leaf has no parts, nor has no leaf
pub linked_none : (v : ParentsView) → PartsHaveParents v None
linked_none v = λ n l r p. absurd p

pub linked_leaf : (v : ParentsView) (n : ℕ) → PartsHaveParents v (Some (leaf n))
linked_leaf v n = λ m l r p. cc

-- what was linked is still linked where what was kept is still kept
pub linked_longer : (v w : ParentsView) (tree : Option Tree) → ((k n : ℕ) → slice_get v.leaves k ≡ Some n → slice_get w.leaves k ≡ Some n) → ((k n : ℕ) → slice_get v.inners k ≡ Some n → slice_get w.inners k ≡ Some n)
    → PartsHaveParents v tree → PartsHaveParents w tree
linked_longer v w tree of_leaf of_inner linked = λ n l r p. let h = linked n l r p in (kept (name l) n h.0, kept (name r) n h.1)
  where
    kept : (c : Child) (n : ℕ) → parent_in v c ≡ Some n → parent_in w c ≡ Some n
    kept (Leaf k) n e = of_leaf k n e
    kept (Inner k) n e = of_inner k n e

-- The parents of a shape after a change.

module _ (v : ParentsView) (old : Option Tree) (nodes : List Node) (child : Child) (t : Tree) (rows : List DirtyRow) (l i : NumbersView) (linked : PartsHaveParents v old) (listing : ListsChanges old (Some t) rows)
    (sound : IsSoundTree nodes child t) (shape : IsShape nodes (Some child) l i) (leaf_places : l.drawn ≤ length v.leaves) (inner_places : i.drawn ≤ length v.inners) where
  pub rows_are_placed : All (RowIsPlaced (length v.leaves) (length v.inners)) rows
  rows_are_placed = (linked_after v old t rows l i linked listing (counted_leaves nodes child t l i shape sound) (counted_inners nodes child t l i shape sound) leaf_places inner_places).1

  pub shape_linked : (w : ParentsView) → w ≡ with_parents v rows → PartsHaveParents w (option_map (tree_at nodes) (Some child))
  shape_linked w e =
      let here : PartsHaveParents (with_parents v rows) (Some t) = (linked_after v old t rows l i linked listing (counted_leaves nodes child t l i shape sound) (counted_inners nodes child t l i shape sound) leaf_places inner_places).0 in
      subst (λ u. PartsHaveParents u (option_map (tree_at nodes) (Some child))) (sym e) (subst (PartsHaveParents (with_parents v rows)) (ap (λ u. Some u) (sym (sound_read nodes child t sound))) here)
