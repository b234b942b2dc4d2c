-- A climb from a leaf to the root.
use Rattle.std.proofs.Common.{◌≡◌, ◌≢◌, ℕ, zero, suc, ◌+◌, ◌<◌, ◌≤◌, List, [], ◌∷◌, ◌++◌, length, Some, refl, sym, ◌∙◌, ap, subst, arith, ◌⊎◌, inl, inr}
use Rattle.std.specs.List.{slice_get}
use Rattle.std.proofs.lemmas.Option.{slice_get_within}
use Rattle.tree_shape.specs.declared.climbing.Climb.{Climb}
use Rattle.tree_shape.specs.declared.node.Child.{Child}
use Rattle.tree_shape.specs.declared.node.Child.TheVariants.{Leaf, Inner}
use Rattle.tree_shape.specs.declared.node.Node.{Node}
use Rattle.tree_shape.specs.Tree.{Tree, leaf, inner, name, height, count, leaves, NodesStand}
use Rattle.tree_shape.specs.Apply.{times}
use Rattle.tree_shape.specs.Changes.{IsSubtree}
use Rattle.tree_shape.specs.Numbers.{NumbersView, times_in}
use Rattle.tree_shape.specs.Parents.{ParentsView, parent_in, IsPlaced, PartsHaveParents, IsWholeTree, IsClimbAt, IsClimb}
use Rattle.tree_shape.specs.View.{IsSoundTree, IsShape}
use Rattle.tree_shape.proofs.ArenaTrees.{length_leaves}
use Rattle.tree_shape.proofs.ParentLinks.{IsEither, same, parts_named, named_there, times_there, part_named, parts_once}
use Rattle.tree_shape.proofs.ArenaChanges.{one_same}
use Rattle.tree_shape.proofs.Shapes.{part_stands_in, counted_leaves}
use Rattle.tree_shape.proofs.NumberCounts.{counted_times}

-- the inner node right above a part
pub record IsBelow (part whole : Tree) : Type 0 where
  pub n : ℕ
  pub left : Tree
  pub right : Tree
  pub is_part : IsSubtree (inner n left right) whole
  pub which : (part ≡ left) ⊎ (part ≡ right)

-- a part is the whole tree, or right below an inner node
pub strict_part : (part whole : Tree) → IsSubtree part whole → (part ≡ whole) ⊎ IsBelow part whole
strict_part part (leaf n) p = inl p
strict_part part (inner n a b) (inl p) = inl p
strict_part part (inner n a b) (inr (inl p)) = elim (strict_part part a p) [
  | inl e ↦ inr (record { n = n; left = a; right = b; is_part = inl refl; which = inl e })
  | inr w ↦ inr (record { n = w.n; left = w.left; right = w.right; is_part = inr (inl w.is_part); which = w.which })
]
strict_part part (inner n a b) (inr (inr p)) = elim (strict_part part b p) [
  | inl e ↦ inr (record { n = n; left = a; right = b; is_part = inl refl; which = inr e })
  | inr w ↦ inr (record { n = w.n; left = w.left; right = w.right; is_part = inr (inr w.is_part); which = w.which })
]

named_of : (part l r : Tree) → (part ≡ l) ⊎ (part ≡ r) → IsEither (name part) (name l) (name r)
named_of part l r e = elim e [ inl x ↦ inl (ap name x) | inr x ↦ inr (ap name x) ]

part_low : (part whole : Tree) → IsSubtree part whole → (height part ≤ height whole) × (count part ≤ count whole)
part_low part (leaf n) p = (omega (arith, ap height p), omega (arith, ap count p))
part_low part (inner n a b) (inl p) = (omega (arith, ap height p), omega (arith, ap count p))
part_low part (inner n a b) (inr (inl p)) = let w = part_low part a p in (omega (arith, w.0), omega (arith, w.1))
part_low part (inner n a b) (inr (inr p)) = let w = part_low part b p in (omega (arith, w.0), omega (arith, w.1))

-- a part that has the root's name is the whole tree
pub root_part : (part whole : Tree) → times_there (name whole) whole ≤ 1 → IsSubtree part whole → name part ≡ name whole → part ≡ whole
root_part part whole once p e = elim (strict_part part whole p) [
  | inl is ↦ is
  | inr w ↦
      absurd (omega (
        arith,
        once,
        named_there (name whole) whole,
        same_self (name whole),
        part_named whole w.left w.right w.n (name whole) w.is_part (subst (λ c. IsEither c (name w.left) (name w.right)) e (named_of part w.left w.right w.which)),
      ))
]
  where
    same_self : (c : Child) → same c c ≡ 1
    same_self (Leaf n) = one_same n
    same_self (Inner n) = one_same n

there_once : (c : Child) (t : Tree) → ((k : ℕ) → times_in k (leaves t) ≤ 1) → ((k : ℕ) → times k t ≤ 1) → times_there c t ≤ 1
there_once (Leaf k) t of_leaf of_inner = of_leaf k
there_once (Inner k) t of_leaf of_inner = of_inner k

placed_by : (v : ParentsView) (c : Child) (n : ℕ) → parent_in v c ≡ Some n → IsPlaced (length v.leaves) (length v.inners) c
placed_by v (Leaf k) n e = slice_get_within v.leaves k n e
placed_by v (Inner k) n e = slice_get_within v.inners k n e

-- what is known where a climb is below the root
pub record IsUnder (nodes : List Node) (v : ParentsView) (whole : Tree) (number done : ℕ) (climb : Climb) : Type 0 where
  pub t : Tree
  pub at : IsClimbAt whole number done climb t
  pub below : IsBelow t whole
  pub placed : IsPlaced (length v.leaves) (length v.inners) climb.child
  pub above : parent_in v climb.child ≡ Some below.n
  pub stands : NodesStand nodes (inner below.n below.left below.right)
  pub few : count (inner below.n below.left below.right) ≤ 65536
  pub two : name below.left ≡ name below.right → ⊥
  pub low : done ≤ height t

pub climb_below_root : (nodes : List Node) (v : ParentsView) (root : Child) (whole : Tree) (number done : ℕ) (climb : Climb) → IsWholeTree nodes v root whole → IsClimb whole number done climb → climb.child ≢ root → IsUnder nodes v whole number done climb
climb_below_root nodes v root whole number done climb w c apart =
    let t = c.0 in
    let at = c.1 in
    elim (strict_part t whole at.part) [
      | inl is ↦ absurd (apart (at.named ∙ (ap name is ∙ sym w.sound.named)))
      | inr b ↦
          let links = w.linked b.n b.left b.right b.is_part in
          let link : parent_in v (name t) ≡ Some b.n = elim b.which [ inl x ↦ ap (λ u. parent_in v (name u)) x ∙ links.0 | inr x ↦ ap (λ u. parent_in v (name u)) x ∙ links.1 ] in
          let here : parent_in v climb.child ≡ Some b.n = ap (parent_in v) at.named ∙ link in
          record {
            t = t;
            at = at;
            below = b;
            placed = placed_by v climb.child b.n here;
            above = here;
            stands = part_stands_in nodes (inner b.n b.left b.right) whole w.sound.stands b.is_part;
            few = omega (arith, w.sound.few, (part_low (inner b.n b.left b.right) whole b.is_part).1);
            two = λ e. twice b.n b.left b.right whole b.is_part e (parts_once (name b.left) whole w.leaves_once w.sound.once);
            low = elim at.high [ inl x ↦ x | inr x ↦ absurd (apart (at.named ∙ (ap name x ∙ sym w.sound.named))) ];
          }
    ]
  where
    both_named : (c a b : Child) → c ≡ a → c ≡ b → 2 ≤ same c a + same c b
    both_named c a b e f = omega (arith, ap (same c) (sym e), ap (same c) (sym f), itself c)
      where
        itself : (c : Child) → same c c ≡ 1
        itself (Leaf n) = one_same n
        itself (Inner n) = one_same n

    twice : (n : ℕ) (l r t : Tree) → IsSubtree (inner n l r) t → name l ≡ name r → parts_named (name l) t ≤ 1 → ⊥
    twice n l r (leaf m) p e once = cc
    twice n l r (inner m a b) (inl p) e once =
        let left : a ≡ l = cc in
        let right : b ≡ r = cc in
        omega (arith, once, both_named (name l) (name a) (name b) (ap name (sym left)) (e ∙ ap name (sym right)))
    twice n l r (inner m a b) (inr (inl p)) e once = twice n l r a p e (omega (arith, once))
    twice n l r (inner m a b) (inr (inr p)) e once = twice n l r b p e (omega (arith, once))

get_left : (xs ys : List ℕ) (i n : ℕ) → slice_get xs i ≡ Some n → slice_get (xs ++ ys) i ≡ Some n
get_left [] ys i n e = cc
get_left (x ∷ xs) ys zero n e = e
get_left (x ∷ xs) ys (suc i) n e = get_left xs ys i n e

get_right : (xs ys : List ℕ) (i n : ℕ) → slice_get ys i ≡ Some n → slice_get (xs ++ ys) (i + length xs) ≡ Some n
get_right [] ys i n e = let none : i + 0 ≡ i = omega arith in ap (slice_get ys) none ∙ e
get_right (x ∷ xs) ys i n e = let next : i + length (x ∷ xs) ≡ suc (i + length xs) = omega arith in ap (slice_get (x ∷ (xs ++ ys))) next ∙ get_right xs ys i n e

-- one step up from a left part
pub up_left : (nodes : List Node) (v : ParentsView) (whole : Tree) (number done above : ℕ) (climb : Climb) → (u : IsUnder nodes v whole number done climb) → above ≡ u.below.n → name u.below.right ≢ climb.child
    → IsClimb whole number (done + 1) (record { child = Inner above; at = climb.at })
up_left nodes v whole number done above climb u is other =
    let b = u.below in
    let left : u.t ≡ b.left = elim b.which [ inl x ↦ x | inr x ↦ absurd (other (sym (u.at.named ∙ ap name x))) ] in (
      inner b.n b.left b.right,
      record {
        named = ap (λ k. Inner k) is;
        part = b.is_part;
        found = get_left (leaves b.left) (leaves b.right) climb.at number (subst (λ t. slice_get (leaves t) climb.at ≡ Some number) left u.at.found);
        high = inl (omega (arith, u.low, ap height left));
      },
    )

-- and from a right one
pub up_right : (nodes : List Node) (v : ParentsView) (whole : Tree) (number done above more : ℕ) (climb : Climb) → (u : IsUnder nodes v whole number done climb) → above ≡ u.below.n → name u.below.right ≡ climb.child
    → more ≡ count u.below.left → IsClimb whole number (done + 1) (record { child = Inner above; at = climb.at + more })
up_right nodes v whole number done above more climb u is same many =
    let b = u.below in
    let right : u.t ≡ b.right = elim b.which [ inl x ↦ absurd (u.two (sym (ap name x) ∙ (sym u.at.named ∙ sym same))) | inr x ↦ x ] in
    let place : climb.at + more ≡ climb.at + length (leaves b.left) = omega (arith, many, length_leaves b.left) in (
      inner b.n b.left b.right,
      record {
        named = ap (λ k. Inner k) is;
        part = b.is_part;
        found = ap (slice_get (leaves b.left ++ leaves b.right)) place ∙ get_right (leaves b.left) (leaves b.right) climb.at number (subst (λ t. slice_get (leaves t) climb.at ≡ Some number) right u.at.found);
        high = inl (omega (arith, u.low, ap height right));
      },
    )

-- the place does not overflow
pub up_few : (nodes : List Node) (v : ParentsView) (whole : Tree) (number done : ℕ) (climb : Climb) → (u : IsUnder nodes v whole number done climb) → name u.below.right ≡ climb.child → climb.at + count u.below.left < 65536
up_few nodes v whole number done climb u same =
    let b = u.below in
    let right : u.t ≡ b.right = elim b.which [ inl x ↦ absurd (u.two (sym (ap name x) ∙ (sym u.at.named ∙ sym same))) | inr x ↦ x ] in
    omega (arith, u.few, ap count right, length_leaves u.t, slice_get_within (leaves u.t) climb.at number u.at.found)

-- at the root a climb stays
pub climb_stays_at_root : (nodes : List Node) (v : ParentsView) (root : Child) (whole : Tree) (number done : ℕ) (climb : Climb) → IsWholeTree nodes v root whole → IsClimb whole number done climb → climb.child ≡ root → IsClimb whole number (done + 1) climb
climb_stays_at_root nodes v root whole number done climb w c is =
    let at = c.1 in
    let all : c.0 ≡ whole = root_part c.0 whole (there_once (name whole) whole w.leaves_once w.sound.once) at.part (sym at.named ∙ (is ∙ w.sound.named)) in
    (c.0, record { named = at.named; part = at.part; found = at.found; high = inr all })

leaf_part : (t : Tree) (at number : ℕ) → slice_get (leaves t) at ≡ Some number → IsSubtree (leaf number) t
leaf_part (leaf n) zero number e = cc
leaf_part (leaf n) (suc at) number e = cc
leaf_part (inner n l r) at number e = elim (either_side (leaves l) (leaves r) at number e) [ inl w ↦ inr (inl (leaf_part l w.0 number w.1)) | inr w ↦ inr (inr (leaf_part r w.0 number w.1)) ]
  where
    either_side : (xs ys : List ℕ) (i n : ℕ) → slice_get (xs ++ ys) i ≡ Some n → ((k : ℕ) × (slice_get xs k ≡ Some n)) ⊎ ((k : ℕ) × (slice_get ys k ≡ Some n))
    either_side [] ys i n e = inr (i, e)
    either_side (x ∷ xs) ys zero n e = inl (zero, e)
    either_side (x ∷ xs) ys (suc i) n e = elim (either_side xs ys i n e) [ inl w ↦ inl (suc w.0, w.1) | inr w ↦ inr w ]

-- where a climb begins
pub begun : (whole : Tree) (at number : ℕ) → slice_get (leaves whole) at ≡ Some number → IsClimb whole number 0 (record { child = Leaf number; at = 0 })
begun whole at number e = (leaf number, record { named = refl; part = leaf_part whole at number e; found = refl; high = inl (omega arith) })

-- after as many steps as the tree is high it has come to the root
pub arrived : (nodes : List Node) (v : ParentsView) (root : Child) (whole : Tree) (number : ℕ) (climb : Climb) → IsWholeTree nodes v root whole → IsClimb whole number (height whole) climb → slice_get (leaves whole) climb.at ≡ Some number
arrived nodes v root whole number climb w c =
    let at = c.1 in
    let all : c.0 ≡ whole = elim at.high [
      | inr e ↦ e
      | inl h ↦ elim (strict_part c.0 whole at.part) [
        | inl e ↦ e
        | inr b ↦ absurd (omega (arith, h, (part_low (inner b.n b.left b.right) whole b.is_part).0, higher c.0 b.n b.left b.right b.which))
      ]
    ] in
    subst (λ t. slice_get (leaves t) climb.at ≡ Some number) all at.found
  where
    higher : (t : Tree) (n : ℕ) (l r : Tree) → (t ≡ l) ⊎ (t ≡ r) → height t + 1 ≤ height (inner n l r)
    higher t n l r e = elim e [ inl x ↦ omega (arith, ap height x) | inr x ↦ omega (arith, ap height x) ]

-- the tree of a shape is one to climb
pub whole_of : (nodes : List Node) (v : ParentsView) (root : Child) (t : Tree) (l i : NumbersView) → IsSoundTree nodes root t → IsShape nodes (Some root) l i → PartsHaveParents v (Some t) → IsWholeTree nodes v root t
whole_of nodes v root t l i sound shape linked = record { sound = sound; leaves_once = λ k. omega (arith, counted_times l (leaves t) k (counted_leaves nodes root t l i shape sound)); linked = linked }
