-- A tree built from halves: its numbers, its height and its balance.
use Rattle.std.proofs.Common.{◌≡◌, ◌≢◌, ℕ, zero, suc, ◌+◌, ◌-◌, ◌^◌, ◌<◌, ◌≤◌, List, [], ◌∷◌, ◌++◌, length, max, Some, refl, sym, ◌∙◌, ap, subst, arith, length-append, add-one, ◌⊎◌, inl, inr}
use Rattle.std.specs.List.{All, slice_get}
use Rattle.std.specs.Prelude.{slice_index_or}
use Rattle.std.proofs.Math.Nat.{pow-succ'}
use Rattle.std.proofs.Math.Pow.{pow_mono}
use Rattle.std.proofs.lemmas.List.{append_assoc}
use Rattle.std.proofs.lemmas.Bool.{cases_lt}
use Rattle.std.proofs.lemmas.List.Elements.{All-cons, All-head, All-tail}
use Rattle.tree_shape.specs.declared.node.Child.{Child}
use Rattle.tree_shape.specs.declared.node.Child.TheVariants.{Leaf, Inner}
use Rattle.tree_shape.specs.declared.node.Node.{Node}
use Rattle.tree_shape.specs.Tree.{Tree, leaf, inner, name, height, leaves, inner_node_numbers, node_of_parts, NodesStand}
use Rattle.tree_shape.specs.Apply.{mark, times}
use Rattle.tree_shape.specs.Building.{inners_up, numbers_from, IsLeastHeight, IsBuiltFrom}
use Rattle.tree_shape.specs.Changes.{IsSubtree, HasChildren, numbers_below}
use Rattle.tree_shape.specs.Numbers.{times_in, AreNumbersAccounted}
use Rattle.tree_shape.specs.Parents.{ParentsView, rows_in, RowIsPlaced, PartsHaveParents, with_parents}
use Rattle.tree_shape.specs.View.{tree_at, IsSoundTree, IsShape}
use Rattle.tree_shape.proofs.ArenaChanges.{mark_is_one_or_none}
use Rattle.tree_shape.proofs.ArenaTrees.{length_leaves}
use Rattle.tree_shape.proofs.NumberCounts.{times_in-append}
use Rattle.tree_shape.proofs.ParentLinks.{IsEither, Has, part_times, linked_by, rows_placed}
use Rattle.tree_shape.proofs.Shapes.{times_inners, length_inners, part_stands_in, shape_of}
use Rattle.tree_shape.proofs.Roots.{sound_read}

-- Numbers that follow one another.

pub from_append : (first many more : ℕ) → numbers_from first many ++ numbers_from (first + many) more ≡ numbers_from first (many + more)
from_append first zero more = let none : first + 0 ≡ first = omega arith in
    let all : more ≡ 0 + more = omega arith in
    ap (λ n. numbers_from n more) none ∙ ap (numbers_from first) all
from_append first (suc many) more =
    let next : first + suc many ≡ suc first + many = omega arith in
    let all : suc (many + more) ≡ suc many + more = omega arith in
    ap (λ n. first ∷ (numbers_from (suc first) many ++ numbers_from n more)) next ∙ (ap (λ v. first ∷ v) (from_append (suc first) many more) ∙ ap (numbers_from first) all)

pub length_from : (first many : ℕ) → length (numbers_from first many) ≡ many
length_from first zero = refl
length_from first (suc many) = omega (arith, length_from (suc first) many)

pub below_from : (many : ℕ) → numbers_from 0 many ≡ numbers_below many
below_from zero = refl
below_from (suc many) =
    let next : numbers_from (0 + many) 1 ≡ many ∷ [] = ap (λ n. n ∷ []) (zero_plus many) in
    ap (numbers_from 0) (sym (add-one many)) ∙ (sym (from_append 0 many 1) ∙ (ap (λ v. numbers_from 0 many ++ v) next ∙ ap (λ v. v ++ many ∷ []) (below_from many)))
  where
    zero_plus : (n : ℕ) → 0 + n ≡ n
    zero_plus n = omega arith

times_from : (k first many : ℕ) → ((k < first) × (times_in k (numbers_from first many) ≡ 0)) ⊎ (((first ≤ k) × (k < first + many) × (times_in k (numbers_from first many) ≡ 1)) ⊎ ((first + many ≤ k) × (times_in k (numbers_from first many) ≡ 0)))
times_from k first zero = elim (cases_lt k first) [ inl w ↦ inl (w, refl) | inr w ↦ inr (inr (omega arith, refl)) ]
times_from k first (suc many) = elim (times_from k (suc first) many) [
  | inl w ↦ elim (mark_is_one_or_none k first) [
    | inl u ↦ inr (inl (omega (arith, u.0), omega (arith, u.0), omega (arith, u.1, w.1)))
    | inr u ↦ inl (different k first u.0 w.0, omega (arith, u.1, w.1))
  ]
  | inr v ↦ elim v [
    | inl w ↦ inr (inl (omega (arith, w.0), omega (arith, w.1), omega (arith, not_first k first w.0, w.2)))
    | inr w ↦ inr (inr (omega (arith, w.0), omega (arith, later k first many w.0, w.1)))
  ]
]
  where
    different : (k first : ℕ) → k ≢ first → k < suc first → k < first
    different k first apart h = elim (cases_lt k first) [ inl w ↦ w | inr w ↦ absurd (apart (omega arith)) ]

    not_first : (k first : ℕ) → suc first ≤ k → mark k first ≡ 0
    not_first k first h = elim (mark_is_one_or_none k first) [ inl u ↦ absurd (omega (arith, u.0)) | inr u ↦ u.1 ]

    later : (k first many : ℕ) → suc first + many ≤ k → mark k first ≡ 0
    later k first many h = elim (mark_is_one_or_none k first) [ inl u ↦ absurd (omega (arith, u.0)) | inr u ↦ u.1 ]

-- all of the numbers below a count are in use, and none is free
pub counted_all : (many : ℕ) (used : List ℕ) → many ≤ 65536 → length used ≡ many → ((k : ℕ) → times_in k used ≡ times_in k (numbers_from 0 many)) → AreNumbersAccounted (record { free = []; drawn = many }) used
counted_all many used few long same = record {
  drawn_once = λ k h. elim (times_from k 0 many) [
    | inl w ↦ absurd (omega (arith, w.0))
    | inr v ↦ elim v [ inl w ↦ omega (arith, same k, w.2) | inr w ↦ absurd (omega (arith, w.0)) ]
  ];
  not_drawn = λ k h. elim (times_from k 0 many) [
    | inl w ↦ absurd (omega (arith, w.0))
    | inr v ↦ elim v [ inl w ↦ absurd (omega (arith, w.1)) | inr w ↦ omega (arith, same k, w.1) ]
  ];
  all = omega (arith, long);
  few = few;
}

pub times_up : (k : ℕ) (t : Tree) → times_in k (inners_up t) ≡ times k t
times_up k (leaf n) = refl
times_up k (inner n l r) = omega (arith, times_in-append k (inners_up l) (inners_up r ++ n ∷ []), times_in-append k (inners_up r) (n ∷ []), times_up k l, times_up k r)

-- Heights.

-- the least heights of two numbers that differ by at most one differ by at most one
not_higher : (few many low high : ℕ) → few ≤ many → IsLeastHeight few low → IsLeastHeight many high → low ≤ high
not_higher few many low high le a b = elim (cases_lt high low) [
  | inr w ↦ w
  | inl w ↦ let under : high ≤ low - 1 = omega arith in let up : 2 ^ high ≤ 2 ^ (low - 1) = pow_mono under in absurd (omega (arith, a.least (omega arith), b.enough, up))
]

one_higher : (few many low high : ℕ) → many ≤ few + 1 → 1 ≤ few → IsLeastHeight few low → IsLeastHeight many high → high ≤ low + 1
one_higher few many low high le some a b = elim (cases_lt (low + 1) high) [
  | inr w ↦ w
  | inl w ↦
      let under : low + 1 ≤ high - 1 = omega arith in
      let up : 2 ^ (low + 1) ≤ 2 ^ (high - 1) = pow_mono under in
      let next : 2 ^ suc low ≡ 2 ^ low + 2 ^ low = omega (arith, pow-succ' 2 low) in
      let two : 2 ^ (low + 1) ≡ 2 ^ low + 2 ^ low = ap (λ n. 2 ^ n) (add-one low) ∙ next in
      absurd (omega (arith, b.least (omega arith), a.enough, up, two))
]

whole_height : (few many low high : ℕ) → 1 ≤ few → few ≤ many → many ≤ few + 1 → IsLeastHeight few low → IsLeastHeight many high → IsLeastHeight (few + many) (1 + max low high)
whole_height few many low high some le near a b =
    let most : max low high ≡ high = omega (arith, not_higher few many low high le a b) in
    let two : 2 ^ suc high ≡ 2 ^ high + 2 ^ high = omega (arith, pow-succ' 2 high) in
    let all : few + many ≤ 2 ^ suc high = omega (arith, b.enough, two) in
    record { enough = ap_most most all; least = λ h. lower most }
  where
    ap_most : max low high ≡ high → few + many ≤ 2 ^ suc high → few + many ≤ 2 ^ (1 + max low high)
    ap_most e h = let same : suc high ≡ 1 + max low high = omega (arith, e) in subst (λ n. few + many ≤ 2 ^ n) same h

    exact : (h : ℕ) → IsLeastHeight many h → 2 ^ h < few + many
    exact zero l = omega (arith, some, le)
    exact (suc h) l =
        let back : suc h - 1 ≡ h = omega arith in
        omega (arith, l.least (omega arith), near, le, pow-succ' 2 h, ap (λ n. 2 ^ n) back)

    lower : max low high ≡ high → 2 ^ (1 + max low high - 1) < few + many
    lower e = let same : high ≡ 1 + max low high - 1 = omega (arith, e) in subst (λ n. 2 ^ n < few + many) same (exact high b)

-- The tree.

pub stands_before : (nodes more : List Node) (t : Tree) → NodesStand nodes t → NodesStand (nodes ++ more) t
stands_before nodes more (leaf n) s = tt
stands_before nodes more (inner n l r) s = (before nodes more n (node_of_parts l r) s.0, stands_before nodes more l s.1, stands_before nodes more r s.2)
  where
    before : (xs ys : List Node) (k : ℕ) (x : Node) → slice_get xs k ≡ Some x → slice_get (xs ++ ys) k ≡ Some x
    before xs ys k x e = go xs k e
      where
        go : (xs : List Node) (k : ℕ) → slice_get xs k ≡ Some x → slice_get (xs ++ ys) k ≡ Some x
        go [] k e = cc
        go (y ∷ xs) zero e = e
        go (y ∷ xs) (suc k) e = go xs k e

last_there : (nodes : List Node) (x : Node) → slice_get (nodes ++ x ∷ []) (length nodes) ≡ Some x
last_there [] x = refl
last_there (n ∷ nodes) x = last_there nodes x

pub one_leaf : (nodes : List Node) (first : ℕ) → IsBuiltFrom nodes nodes first 1 (Leaf first) (leaf first)
one_leaf nodes first = record {
  named = refl;
  behind = ([], nothing nodes);
  stands = tt;
  leaves_are = refl;
  inners_are = refl;
  counted = refl;
  high = record { enough = omega arith; least = λ h. absurd (omega arith) };
  balanced = tt;
}
  where
    nothing : (xs : List Node) → xs ≡ xs ++ []
    nothing [] = refl
    nothing (x ∷ xs) = ap (λ v. x ∷ v) (nothing xs)

-- two halves, and the node above both behind them
pub built_both : (old middle new : List Node) (first few many : ℕ) (left right : Child) (l r : Tree) (node : Node) → 1 ≤ few → few ≤ many → many ≤ few + 1
    → IsBuiltFrom old middle first few left l → IsBuiltFrom middle new (first + few) many right r → length new + 1 ≡ length middle + many → length middle + 1 ≡ length old + few → node ≡ node_of_parts l r
    → IsBuiltFrom old (new ++ node ∷ []) first (few + many) (Inner (length new)) (inner (length new) l r)
built_both old middle new first few many left right l r node some le near a b longer long is = record {
  named = refl;
  behind = (a.behind.0 ++ (b.behind.0 ++ node ∷ []), ap (λ v. v ++ node ∷ []) b.behind.1 ∙ (ap (λ v. (v ++ b.behind.0) ++ node ∷ []) a.behind.1 ∙ (append_assoc (old ++ a.behind.0) b.behind.0 (node ∷ []) ∙ append_assoc old a.behind.0 (b.behind.0 ++ node ∷ []))));
  stands = (
    last_there new node ∙ ap (λ x. Some x) is,
    stands_before new (node ∷ []) l (subst (λ v. NodesStand v l) (sym b.behind.1) (stands_before middle b.behind.0 l a.stands)),
    stands_before new (node ∷ []) r b.stands,
  );
  leaves_are = ap (λ v. v ++ leaves r) a.leaves_are ∙ (ap (λ v. numbers_from first few ++ v) b.leaves_are ∙ from_append first few many);
  inners_are = numbers;
  counted = omega (arith, a.counted, b.counted);
  high = whole_height few many (height l) (height r) some le near a.high b.high;
  balanced = (
    omega (arith, not_higher few many (height l) (height r) le a.high b.high),
    one_higher few many (height l) (height r) near some a.high b.high,
    a.balanced,
    b.balanced,
  );
}
  where
    place : length middle ≡ length old + (few - 1)
    place = omega (arith, long, some)

    last : length new ≡ (length old + (few - 1)) + (many - 1)
    last = omega (arith, longer, long, some, le)

    tail : inners_up r ++ length new ∷ [] ≡ numbers_from (length old + (few - 1)) ((many - 1) + 1)
    tail =
        ap (λ v. v ++ length new ∷ []) (b.inners_are ∙ ap (λ n. numbers_from n (many - 1)) place)
        ∙ (ap (λ n. numbers_from (length old + (few - 1)) (many - 1) ++ n ∷ []) last ∙ from_append (length old + (few - 1)) (many - 1) 1)

    sum : (few - 1) + ((many - 1) + 1) ≡ few + many - 1
    sum = omega (arith, some, le)

    numbers : inners_up l ++ (inners_up r ++ length new ∷ []) ≡ numbers_from (length old) (few + many - 1)
    numbers = ap (λ v. inners_up l ++ v) tail ∙ (ap (λ v. v ++ numbers_from (length old + (few - 1)) ((many - 1) + 1)) a.inners_are ∙ (from_append (length old) (few - 1) ((many - 1) + 1) ∙ ap (numbers_from (length old)) sum))

-- The rows of an arena that is one tree.

-- each number that is there is an inner node's
there_inner : (t : Tree) (k : ℕ) → 1 ≤ times k t → (l : Tree) × (r : Tree) × IsSubtree (inner k l r) t
there_inner (leaf n) k h = absurd (omega arith)
there_inner (inner n a b) k h = elim (mark_is_one_or_none k n) [
  | inl w ↦ (a, b, inl (ap (λ m. inner m a b) w.0))
  | inr w ↦ elim (either_part (times k a) (times k b) (omega (arith, w.1))) [
    | inl u ↦ let p = there_inner a k u in (p.0, p.1, inr (inl p.2))
    | inr u ↦ let p = there_inner b k u in (p.0, p.1, inr (inr p.2))
  ]
]
  where
    either_part : (a b : ℕ) → 1 ≤ a + b → (1 ≤ a) ⊎ (1 ≤ b)
    either_part zero b h = inr (omega arith)
    either_part (suc a) b h = inl (omega arith)

-- the nodes from a number on are the arena's
abbrev Follow : List Node → ℕ → List Node → Type 0
Follow nodes number [] = Unit {0}
Follow nodes number (node ∷ rest) = (slice_get nodes number ≡ Some node) × Follow nodes (suc number) rest

rows_children : (nodes : List Node) (t : Tree) (number : ℕ) (rest : List Node) → NodesStand nodes t → ((k : ℕ) → number ≤ k → k < number + length rest → 1 ≤ times k t) → Follow nodes number rest → All (HasChildren (Some t)) (rows_in number rest)
rows_children nodes t number [] s there f = λ k d h. absurd (omega arith)
rows_children nodes t number (node ∷ rest) s there f =
    let p = there_inner t number (there number (omega arith) (omega arith)) in
    let stands = part_stands_in nodes (inner number p.0 p.1) t s p.2 in
    let same : Some node ≡ Some (node_of_parts p.0 p.1) = sym f.0 ∙ stands.0 in
    let is : node ≡ node_of_parts p.0 p.1 = cc in
    All-cons (HasChildren (Some t)) (record { node = number; left = node.left; right = node.right }) (rows_in (suc number) rest)
    (p.0, p.1, p.2, ap (λ (n : Node). n.left) is, ap (λ (n : Node). n.right) is)
    (rows_children nodes t (suc number) rest s (λ k a b. there k (omega (arith, a)) (omega (arith, b))) f.1)

rows_has : (nodes : List Node) (t : Tree) (number : ℕ) (rest : List Node) (n : ℕ) (l r : Tree) (c : Child) → NodesStand nodes t → Follow nodes number rest → IsSubtree (inner n l r) t → IsEither c (name l) (name r)
    → number ≤ n → n < number + length rest → Has c n (rows_in number rest)
rows_has nodes t number [] n l r c s f p e low high = absurd (omega (arith, low, high))
rows_has nodes t number (node ∷ rest) n l r c s f p e low high = elim (mark_is_one_or_none n number) [
  | inl w ↦
      let stands = part_stands_in nodes (inner n l r) t s p in
      let same : Some node ≡ Some (node_of_parts l r) = sym f.0 ∙ (ap (slice_get nodes) (sym w.0) ∙ stands.0) in
      let is : node ≡ node_of_parts l r = cc in
      inl (sym w.0, elim e [ inl x ↦ inl (x ∙ sym (ap (λ (m : Node). m.left) is)) | inr x ↦ inr (x ∙ sym (ap (λ (m : Node). m.right) is)) ])
  | inr w ↦ inr (rows_has nodes t (suc number) rest n l r c s f.1 p e (after n number w.0 low) (omega (arith, high)))
]
  where
    after : (n number : ℕ) → n ≢ number → number ≤ n → suc number ≤ n
    after n number apart low = elim (cases_lt number n) [ inl w ↦ w | inr w ↦ absurd (apart (omega (arith, low, w))) ]

follow_all : (nodes before rest : List Node) → nodes ≡ before ++ rest → Follow nodes (length before) rest
follow_all nodes before [] e = tt
follow_all nodes before (node ∷ rest) e =
    let next : nodes ≡ (before ++ node ∷ []) ++ rest = e ∙ sym (append_assoc before (node ∷ []) rest) in
    let long : length (before ++ node ∷ []) ≡ suc (length before) = omega (arith, length-append before (node ∷ [])) in
    (ap (λ v. slice_get v (length before)) e ∙ at_seam before node rest, subst (λ n. Follow nodes n rest) long (follow_all nodes (before ++ node ∷ []) rest next))
  where
    at_seam : (xs : List Node) (x : Node) (ys : List Node) → slice_get (xs ++ x ∷ ys) (length xs) ≡ Some x
    at_seam xs x ys = go xs
      where
        go : (xs : List Node) → slice_get (xs ++ x ∷ ys) (length xs) ≡ Some x
        go [] = refl
        go (y ∷ xs) = go xs

-- an arena whose numbers are all in one tree: each row has its children, and each part of an inner node stands in that node's row
pub record IsAllOf (nodes : List Node) (t : Tree) : Type 0 where
  pub children : All (HasChildren (Some t)) (rows_in 0 nodes)
  pub has : (n : ℕ) (l r : Tree) → IsSubtree (inner n l r) t → (c : Child) → IsEither c (name l) (name r) → Has c n (rows_in 0 nodes)

pub all_of : (nodes : List Node) (t : Tree) → NodesStand nodes t → ((k : ℕ) → k < length nodes → 1 ≤ times k t) → ((k : ℕ) → 1 ≤ times k t → k < length nodes) → IsAllOf nodes t
all_of nodes t s there within =
    let follow : Follow nodes 0 nodes = follow_all nodes [] nodes refl in
    record {
      children = rows_children nodes t 0 nodes s (λ k a b. there k (omega (arith, b))) follow;
      has = λ n l r p c e. rows_has nodes t 0 nodes n l r c s follow p e (omega arith) (omega (arith, within n (part_times n l r t p)));
    }

-- Reading an arena from a place on.

-- the parts of the node at a place
pub placed_at : (leaf_places inner_places start : ℕ) (nodes : List Node) (k : ℕ) (d : Node) → k < length nodes → All (RowIsPlaced leaf_places inner_places) (rows_in start nodes)
    → RowIsPlaced leaf_places inner_places (record { node = start; left = (slice_index_or nodes k d).left; right = (slice_index_or nodes k d).right })
placed_at leaf_places inner_places start [] k d h all = absurd (omega arith)
placed_at leaf_places inner_places start (node ∷ rest) zero d h all = All-head (RowIsPlaced leaf_places inner_places) (record { node = start; left = node.left; right = node.right }) (rows_in (suc start) rest) all
placed_at leaf_places inner_places start (node ∷ rest) (suc k) d h all =
    placed_at leaf_places inner_places (suc start) rest k d (omega arith) (All-tail (RowIsPlaced leaf_places inner_places) (record { node = start; left = node.left; right = node.right }) (rows_in (suc start) rest) all)

-- A whole shape that was built.
pub record IsBuiltShape (nodes : List Node) (many : ℕ) (child : Child) (t : Tree) : Type 0 where
  pub sound : IsSoundTree nodes child t
  pub shape : IsShape nodes (Some child) (record { free = []; drawn = many }) (record { free = []; drawn = many - 1 })
  pub leaves_are : leaves (tree_at nodes child) ≡ numbers_below many
  pub inners_are : inners_up (tree_at nodes child) ≡ numbers_below (many - 1)
  pub rows : IsAllOf nodes t
  pub leaf_used : (k : ℕ) → 1 ≤ times_in k (leaves t) → k < many
  pub leaf_once : (k : ℕ) → times_in k (leaves t) ≤ 1
  pub inner_used : (k : ℕ) → 1 ≤ times k t → k < many - 1

in_from : (k many : ℕ) → (times_in k (numbers_from 0 many) ≤ 1) × (1 ≤ times_in k (numbers_from 0 many) → k < many) × (k < many → 1 ≤ times_in k (numbers_from 0 many))
in_from k many = elim (times_from k 0 many) [
  | inl w ↦ absurd (omega (arith, w.0))
  | inr v ↦ elim v [
    | inl w ↦ (omega (arith, w.2), λ h. omega (arith, w.1), λ h. omega (arith, w.2))
    | inr w ↦ (omega (arith, w.1), λ h. absurd (omega (arith, w.1)), λ h. absurd (omega (arith, w.0)))
  ]
]

pub built_shape : (old nodes : List Node) (many : ℕ) (child : Child) (t : Tree) → old ≡ [] → 1 ≤ many → many ≤ 65536 → length nodes + 1 ≡ many → IsBuiltFrom old nodes 0 many child t → IsBuiltShape nodes many child t
built_shape old nodes many child t empty some few long b =
    let inner_numbers : inners_up t ≡ numbers_from 0 (many - 1) = b.inners_are ∙ ap (λ (v : List Node). numbers_from (length v) (many - 1)) empty in
    let times_are : (k : ℕ) → times k t ≡ times_in k (numbers_from 0 (many - 1)) = λ k. sym (times_up k t) ∙ ap (times_in k) inner_numbers in
    let leaf_times : (k : ℕ) → times_in k (leaves t) ≡ times_in k (numbers_from 0 many) = λ k. ap (times_in k) b.leaves_are in
    let sound : IsSoundTree nodes child t = record { named = b.named; stands = b.stands; balanced = b.balanced; once = λ k. omega (arith, times_are k, (in_from k (many - 1)).0); few = omega (arith, b.counted) } in
    let inner_used : (k : ℕ) → 1 ≤ times k t → k < many - 1 = λ k h. (in_from k (many - 1)).1 (omega (arith, times_are k)) in
    record {
      sound = sound;
      shape = shape_of nodes child t (record { free = []; drawn = many }) (record { free = []; drawn = many - 1 }) sound
          (counted_all many (leaves t) few (omega (arith, length_leaves t, b.counted)) leaf_times)
          (counted_all (many - 1) (inner_node_numbers t) (omega arith) (omega (arith, length_inners t, b.counted)) (λ k. times_inners k t ∙ times_are k));
      leaves_are = ap leaves (sound_read nodes child t sound) ∙ (b.leaves_are ∙ below_from many);
      inners_are = ap inners_up (sound_read nodes child t sound) ∙ (inner_numbers ∙ below_from (many - 1));
      rows = all_of nodes t b.stands (λ k h. let below : k < many - 1 = omega arith in omega (arith, times_are k, (in_from k (many - 1)).2 below)) (λ k h. omega (arith, inner_used k h));
      leaf_used = λ k h. (in_from k many).1 (omega (arith, leaf_times k));
      leaf_once = λ k. omega (arith, leaf_times k, (in_from k many).0);
      inner_used = inner_used;
    }

-- what is noted of it
pub built_linked : (v : ParentsView) (nodes : List Node) (many : ℕ) (child : Child) (t : Tree) → IsBuiltShape nodes many child t → many ≤ length v.leaves → many - 1 ≤ length v.inners
    → PartsHaveParents (with_parents v (rows_in 0 nodes)) (Some (tree_at nodes child)) × All (RowIsPlaced (length v.leaves) (length v.inners)) (rows_in 0 nodes)
built_linked v nodes many child t b leaf_places inner_places =
    let of_leaf : (k : ℕ) → 1 ≤ times_in k (leaves t) → k < length v.leaves = λ k h. omega (arith, b.leaf_used k h) in
    let of_inner : (k : ℕ) → 1 ≤ times k t → k < length v.inners = λ k h. omega (arith, b.inner_used k h) in (
      subst (λ u. PartsHaveParents (with_parents v (rows_in 0 nodes)) (Some u)) (sym (sound_read nodes child t b.sound)) (linked_by v t (rows_in 0 nodes) b.leaf_once b.sound.once of_leaf of_inner b.rows.children (λ n l r p c e. inr (b.rows.has n l r p c e))),
      rows_placed t (rows_in 0 nodes) (length v.leaves) (length v.inners) of_leaf of_inner b.rows.children,
    )
