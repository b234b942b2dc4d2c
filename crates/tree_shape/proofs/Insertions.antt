-- What an insertion makes of a tree: its numbers, its leaves, and its balance.
use Rattle.std.proofs.Common.{◌≡◌, ℕ, zero, suc, ◌+◌, ◌-◌, ◌<◌, ◌≤◌, max, nat_le, cond, List, [], ◌∷◌, ◌++◌, length, take, drop, refl, sym, ◌∙◌, ap, subst, arith, append_assoc, inl, inr}
use Rattle.std.proofs.lemmas.Bool.{leb-true, leb-false}
use Rattle.std.proofs.Math.Seq.{take-append-add, drop-append-add}
use Rattle.std.proofs.lemmas.Bool.Decides.{leb_tells}
use Rattle.std.proofs.lemmas.Grind.{common_steps}
use Rattle.tree_shape.specs.declared.node.Side.{Side}
use Rattle.tree_shape.specs.declared.node.Side.TheVariants.{Left, Right}
use Rattle.tree_shape.specs.declared.node.Node.{Node}
use Rattle.tree_shape.specs.Tree.{Tree, leaf, inner, height, count, leaves, IsBalanced, NodesStand}
use Rattle.tree_shape.specs.Plan.{Plan, kept, made, inner_on, tree_of_plan, same_side, other, turned_plan, plan_leaned, over, plan_grown}
use Rattle.tree_shape.specs.Apply.{mark, times, KeptBy, KeptStands}
use Rattle.tree_shape.specs.Fewest.{list_inserted}
use Rattle.tree_shape.proofs.ArenaTrees.{length_leaves}
use Rattle.tree_shape.proofs.Turns.{height_inner_on}
use Rattle.tree_shape.proofs.InsertionBounds.{both_ways, both_ways_by, plan_height}
use Rattle.tree_shape.proofs.ArenaChanges.{times_inner_on}

-- Numbers.

tally : (side : Side) (k n : ℕ) (a b : Plan) → times k (tree_of_plan (made side n a b)) ≡ mark k n + (times k (tree_of_plan a) + times k (tree_of_plan b))
tally side k n a b = times_inner_on side k n (tree_of_plan a) (tree_of_plan b)

times_turned : (side : Side) (k m : ℕ) (p : Plan) (far : Tree) → times k (tree_of_plan (turned_plan side m p far)) ≡ mark k m + (times k (tree_of_plan p) + times k far)
times_turned side k m (kept t) far = tally side k m (kept t) (kept far)
times_turned side k m (made s n near (made s2 m2 a2 b2)) far = tally side k m (made s n near (made s2 m2 a2 b2)) (kept far)
times_turned side k m (made s n (kept t) (kept f)) far = tally side k m (made s n (kept t) (kept f)) (kept far)
times_turned side k m (made s n (made s1 m1 a (made s2 m2 a2 b2)) (kept f)) far = tally side k m (made s n (made s1 m1 a (made s2 m2 a2 b2)) (kept f)) (kept far)
times_turned side k m (made s n (made s1 q a (kept b)) (kept f)) far =
    let P : Plan → Type 0 = λ v. times k (tree_of_plan v) ≡ mark k m + (times k (tree_of_plan (made s n (made s1 q a (kept b)) (kept f))) + times k far) in
    let here = tally s k n (made s1 q a (kept b)) (kept f) in
    let there = tally s1 k q a (kept b) in
    let m_f = tally side k m (kept f) (kept far) in
    let m_b = tally side k m (kept b) (kept far) in
    let m_a = tally side k m a (kept far) in
    let p_a = tally (other side) k n a (kept f) in
    let p_b = tally (other side) k n (kept b) (kept f) in
    both_ways P (same_side s side) _ _
    (omega (arith, tally side k n (made s1 q a (kept b)) (made side m (kept f) (kept far))))
    (both_ways P (same_side s1 side) _ _
    (omega (arith, tally side k q (made (other side) n a (kept f)) (made side m (kept b) (kept far))))
    (omega (arith, tally (other side) k q (made side m a (kept far)) (made (other side) n (kept b) (kept f)))))

times_leaned : (side : Side) (k m : ℕ) (p : Plan) (far : Tree) → times k (tree_of_plan (plan_leaned side m p far)) ≡ mark k m + (times k (tree_of_plan p) + times k far)
times_leaned side k m p far =
    both_ways (λ v. times k (tree_of_plan v) ≡ mark k m + (times k (tree_of_plan p) + times k far)) (nat_le (height (tree_of_plan p)) (height far + 1)) _ _ (tally side k m p (kept far)) (times_turned side k m p far)

pub times_grown : (k at new number : ℕ) (t : Tree) → times k (tree_of_plan (plan_grown at new number t)) ≡ mark k number + times k t
times_grown k at new number (leaf n) = tally (cond (nat_le at 0) Left Right) k number (kept (leaf new)) (kept (leaf n))
times_grown k at new number (inner n l r) =
    both_ways (λ v. times k (tree_of_plan v) ≡ mark k number + times k (inner n l r)) (nat_le at (count l)) _ _
    (omega (arith, times_leaned Left k n (plan_grown at new number l) r, times_grown k at new number l))
    (omega (arith, times_leaned Right k n (plan_grown (at - count l) new number r) l, times_grown k (at - count l) new number r))

-- The parts that stay.

-- a property of every new leaf, and of the parts of a tree that has it
pub record GoesDown (P : Tree → Type 0) : Type 0 where
  pub leaf_has : (n : ℕ) → P (leaf n)
  pub parts_have : (n : ℕ) (l r : Tree) → P (inner n l r) → P l × P r

pub standing_goes_down : (nodes : List Node) → GoesDown (NodesStand nodes)
standing_goes_down nodes = record { leaf_has = λ n. tt; parts_have = λ n l r s. (s.1, s.2) }

kept_turned : (P : Tree → Type 0) (side : Side) (m : ℕ) (p : Plan) (far : Tree) → KeptBy P p → P far → KeptBy P (turned_plan side m p far)
kept_turned P side m (kept t) far s f = (s, f)
kept_turned P side m (made s1 n near (made s2 m2 a2 b2)) far s f = (s, f)
kept_turned P side m (made s1 n (kept t) (kept f1)) far s f = (s, f)
kept_turned P side m (made s1 n (made s2 m1 a (made s3 m2 a2 b2)) (kept f1)) far s f = (s, f)
kept_turned P side m (made s1 n (made s2 q a (kept b)) (kept f1)) far s f =
    both_ways (KeptBy P) (same_side s1 side) _ _
    (s.0, (s.1, f))
    (both_ways (KeptBy P) (same_side s2 side) _ _ ((s.0.0, s.1), (s.0.1, f)) ((s.0.0, f), (s.0.1, s.1)))

kept_leaned : (P : Tree → Type 0) (side : Side) (m : ℕ) (p : Plan) (far : Tree) → KeptBy P p → P far → KeptBy P (plan_leaned side m p far)
kept_leaned P side m p far s f = both_ways (KeptBy P) (nat_le (height (tree_of_plan p)) (height far + 1)) _ _ (s, f) (kept_turned P side m p far s f)

pub kept_by_grown : (P : Tree → Type 0) → GoesDown P → (at new number : ℕ) (t : Tree) → P t → KeptBy P (plan_grown at new number t)
kept_by_grown P down at new number (leaf n) s = (down.leaf_has new, s)
kept_by_grown P down at new number (inner n l r) s =
    let w = down.parts_have n l r s in
    both_ways (KeptBy P) (nat_le at (count l)) _ _
    (kept_leaned P Left n _ r (kept_by_grown P down at new number l w.0) w.1)
    (kept_leaned P Right n _ l (kept_by_grown P down (at - count l) new number r w.1) w.0)

pub kept_grown : (nodes : List Node) (at new number : ℕ) (t : Tree) → NodesStand nodes t → KeptStands nodes (plan_grown at new number t)
kept_grown nodes at new number t s = kept_by_grown (NodesStand nodes) (standing_goes_down nodes) at new number t s

-- Leaves.

abbrev pub joined : Side → List ℕ → List ℕ → List ℕ
joined Left xs ys = xs ++ ys
joined Right xs ys = ys ++ xs

pub leaves_on : (side : Side) (n : ℕ) (a b : Tree) → leaves (inner_on side n a b) ≡ joined side (leaves a) (leaves b)
leaves_on Left n a b = refl
leaves_on Right n a b = refl

leaves_turned : (side : Side) (m : ℕ) (p : Plan) (far : Tree) → leaves (tree_of_plan (turned_plan side m p far)) ≡ joined side (leaves (tree_of_plan p)) (leaves far)
leaves_turned side m (kept t) far = leaves_on side m t far
leaves_turned side m (made s n near (made s2 m2 a2 b2)) far = leaves_on side m (tree_of_plan (made s n near (made s2 m2 a2 b2))) far
leaves_turned side m (made s n (kept t) (kept f)) far = leaves_on side m (tree_of_plan (made s n (kept t) (kept f))) far
leaves_turned side m (made s n (made s1 m1 a (made s2 m2 a2 b2)) (kept f)) far = leaves_on side m (tree_of_plan (made s n (made s1 m1 a (made s2 m2 a2 b2)) (kept f))) far
leaves_turned Left m (made Left n (made Left q a (kept b)) (kept f)) far = simp append_assoc
leaves_turned Left m (made Left n (made Right q a (kept b)) (kept f)) far = simp append_assoc
leaves_turned Left m (made Right n (made Left q a (kept b)) (kept f)) far = simp append_assoc
leaves_turned Left m (made Right n (made Right q a (kept b)) (kept f)) far = simp append_assoc
leaves_turned Right m (made Left n (made Left q a (kept b)) (kept f)) far = simp append_assoc
leaves_turned Right m (made Left n (made Right q a (kept b)) (kept f)) far = simp append_assoc
leaves_turned Right m (made Right n (made Left q a (kept b)) (kept f)) far = simp append_assoc
leaves_turned Right m (made Right n (made Right q a (kept b)) (kept f)) far = simp append_assoc

leaves_leaned : (side : Side) (m : ℕ) (p : Plan) (far : Tree) → leaves (tree_of_plan (plan_leaned side m p far)) ≡ joined side (leaves (tree_of_plan p)) (leaves far)
leaves_leaned side m p far =
    both_ways (λ v. leaves (tree_of_plan v) ≡ joined side (leaves (tree_of_plan p)) (leaves far)) (nat_le (height (tree_of_plan p)) (height far + 1)) _ _ (leaves_on side m (tree_of_plan p) far) (leaves_turned side m p far)

inserted_left : (at x : ℕ) (xs ys : List ℕ) → at ≤ length xs → list_inserted at x xs ++ ys ≡ list_inserted at x (xs ++ ys)
inserted_left at x xs ys h = grind (arith, common_steps)

inserted_after : (n x : ℕ) (xs ys : List ℕ) → xs ++ list_inserted n x ys ≡ list_inserted (length xs + n) x (xs ++ ys)
inserted_after n x xs ys = rw (take-append-add, drop-append-add) (sym (append_assoc xs (take n ys) (x ∷ drop n ys)))

inserted_right : (at x : ℕ) (xs ys : List ℕ) → length xs ≤ at → xs ++ list_inserted (at - length xs) x ys ≡ list_inserted at x (xs ++ ys)
inserted_right at x xs ys h =
    let whole : length xs + (at - length xs) ≡ at = omega arith in
    inserted_after (at - length xs) x xs ys ∙ ap (λ v. list_inserted v x (xs ++ ys)) whole

leaf_grown : (at new number n : ℕ) → at ≤ 1 → leaves (tree_of_plan (plan_grown at new number (leaf n))) ≡ list_inserted at new (n ∷ [])
leaf_grown zero new number n h = refl
leaf_grown (suc zero) new number n h = refl
leaf_grown (suc (suc at)) new number n h = absurd (omega arith)

pub leaves_grown : (at new number : ℕ) (t : Tree) → at ≤ count t → leaves (tree_of_plan (plan_grown at new number t)) ≡ list_inserted at new (leaves t)
leaves_grown at new number (leaf n) h = leaf_grown at new number n h
leaves_grown at new number (inner n l r) h =
    both_ways_by (λ v. leaves (tree_of_plan v) ≡ list_inserted at new (leaves (inner n l r))) (nat_le at (count l)) _ _
    (λ e. leaves_leaned Left n (plan_grown at new number l) r ∙ (ap (λ v. v ++ leaves r) (leaves_grown at new number l (leb-true _ _ e)) ∙ inserted_left at new (leaves l) (leaves r) (omega (arith, length_leaves l, leb-true _ _ e))))
    (λ e. leaves_leaned Right n (plan_grown (at - count l) new number r) l ∙ (ap (λ v. leaves l ++ v) (leaves_grown (at - count l) new number r (omega (arith, leb-false _ _ e))) ∙ (ap (λ v. leaves l ++ list_inserted (at - v) new (leaves r)) (sym (length_leaves l)) ∙ inserted_right at new (leaves l) (leaves r) (omega (arith, length_leaves l, leb-false _ _ e)))))

-- Balance.

abbrev pub GrowsThrough : Plan → Tree → Type 0
GrowsThrough (kept t) f = (height t ≡ 0) × (height f ≡ 0)
GrowsThrough (made s q a (kept b)) f = plan_height (made s q a (kept b)) ≡ height f + 1
GrowsThrough (made s q a (made s2 n2 c d)) f = ⊥

-- a part that became higher by one: only its near part did
abbrev pub Grows : Plan → Type 0
Grows (kept t) = ⊥
Grows (made s n near (kept f)) = GrowsThrough near f
Grows (made s n near (made s2 n2 c d)) = ⊥

-- as high as before, or higher by one
pub data Height (before : ℕ) (p : Plan) : Type 0 where
  same_height : plan_height p ≡ before → Height before p
  one_higher : plan_height p ≡ before + 1 → Grows p → Height before p

pub record IsWell (before : ℕ) (p : Plan) : Type 0 where
  pub balanced : IsBalanced (tree_of_plan p)
  pub height : Height before p

pub balanced_on : (side : Side) (n : ℕ) (a b : Tree) → height a ≤ height b + 1 → height b ≤ height a + 1 → IsBalanced a → IsBalanced b → IsBalanced (inner_on side n a b)
balanced_on Left n a b h k p q = (h, k, p, q)
balanced_on Right n a b h k p q = (k, h, q, p)

pub parts_of : (side : Side) (n : ℕ) (a b : Tree) → IsBalanced (inner_on side n a b) → (height a ≤ height b + 1) × (height b ≤ height a + 1) × IsBalanced a × IsBalanced b
parts_of Left n a b h = h
parts_of Right n a b h = (h.1, h.0, h.3, h.2)

high : (side : Side) (n : ℕ) (a b : Plan) → plan_height (made side n a b) ≡ 1 + max (plan_height a) (plan_height b)
high side n a b = height_inner_on side n (tree_of_plan a) (tree_of_plan b)

higher : (side : Side) (m before : ℕ) (p : Plan) (far : Tree) → plan_height p ≡ before + 1 → Grows p → before ≤ height far + 1 → height far ≤ before + 1 → plan_height p ≤ height far + 1 → Height (1 + max before (height far)) (over side m p far)
higher side m before (kept t) far e g h k low = absurd g
higher side m before (made s n near (made s2 n2 c d)) far e g h k low = absurd g
higher side m before (made s n near (kept f)) far e g h k low =
    elim (leb_tells (height far) before) [
      | inl w ↦ one_higher (omega (arith, w.1, high side m (made s n near (kept f)) (kept far))) (omega (arith, w.1))
      | inr w ↦ same_height (omega (arith, w.1, high side m (made s n near (kept f)) (kept far)))
    ]

well_over : (side : Side) (m before : ℕ) (p : Plan) (far : Tree) → IsWell before p → IsBalanced far → before ≤ height far + 1 → height far ≤ before + 1 → plan_height p ≤ height far + 1 → IsWell (1 + max before (height far)) (over side m p far)
well_over side m before p far w f h k low = elim w.height [
  | same_height e ↦ record { balanced = balanced_on side m (tree_of_plan p) far low (omega arith) w.balanced f; height = same_height (omega (arith, high side m p (kept far))) }
  | one_higher e g ↦ record { balanced = balanced_on side m (tree_of_plan p) far low (omega arith) w.balanced f; height = higher side m before p far e g h k low }
]

turns : (side : Side) (m before : ℕ) (p : Plan) (far : Tree) → IsBalanced (tree_of_plan p) → plan_height p ≡ before + 1 → Grows p → IsBalanced far → before ≤ height far + 1 → height far + 1 < plan_height p → IsWell (1 + max before (height far)) (turned_plan side m p far)
turns side m before (kept t) far b e g f h tall = absurd g
turns side m before (made s n near (made s2 n2 c d)) far b e g f h tall = absurd g
turns side m before (made s n (kept t) (kept f1)) far b e g f h tall = absurd (omega (arith, high s n (kept t) (kept f1)))
turns side m before (made s n (made s1 q a (made s2 n2 c d)) (kept f1)) far b e g f h tall = absurd g
turns side m before (made s n (made s1 q a (kept b1)) (kept f1)) far b e g f h tall =
    let outer = parts_of s n (tree_of_plan (made s1 q a (kept b1))) f1 b in
    let within = parts_of s1 q (tree_of_plan a) b1 outer.2 in
    let here = high s n (made s1 q a (kept b1)) (kept f1) in
    let there = high s1 q a (kept b1) in
    let m_f = high side m (kept f1) (kept far) in
    let m_b = high side m (kept b1) (kept far) in
    let m_a = high side m a (kept far) in
    let p_a = high (other side) n a (kept f1) in
    let p_b = high (other side) n (kept b1) (kept f1) in
    both_ways (IsWell (1 + max before (height far))) (same_side s side) _ _
    (record {
      balanced = balanced_on side n _ _ (omega arith) (omega arith) outer.2 (balanced_on side m f1 far (omega arith) (omega arith) outer.3 f);
      height = same_height (omega (arith, high side n (made s1 q a (kept b1)) (made side m (kept f1) (kept far))));
    })
    (both_ways (IsWell (1 + max before (height far))) (same_side s1 side) _ _
    (record {
      balanced = balanced_on side q _ _ (omega arith) (omega arith) (balanced_on (other side) n (tree_of_plan a) f1 (omega arith) (omega arith) within.2 outer.3) (balanced_on side m b1 far (omega arith) (omega arith) within.3 f);
      height = same_height (omega (arith, high side q (made (other side) n a (kept f1)) (made side m (kept b1) (kept far))));
    })
    (record {
      balanced = balanced_on (other side) q _ _ (omega arith) (omega arith) (balanced_on side m (tree_of_plan a) far (omega arith) (omega arith) within.2 f) (balanced_on (other side) n b1 f1 (omega arith) (omega arith) within.3 outer.3);
      height = same_height (omega (arith, high (other side) q (made side m a (kept far)) (made (other side) n (kept b1) (kept f1))));
    }))

well_turned : (side : Side) (m before : ℕ) (p : Plan) (far : Tree) → IsWell before p → IsBalanced far → before ≤ height far + 1 → height far + 1 < plan_height p → IsWell (1 + max before (height far)) (turned_plan side m p far)
well_turned side m before p far w f h tall = elim w.height [
  | same_height e ↦ absurd (omega arith)
  | one_higher e g ↦ turns side m before p far w.balanced e g f h tall
]

well_leaned : (side : Side) (m before : ℕ) (p : Plan) (far : Tree) → IsWell before p → IsBalanced far → before ≤ height far + 1 → height far ≤ before + 1 → IsWell (1 + max before (height far)) (plan_leaned side m p far)
well_leaned side m before p far w f h k =
    both_ways_by (IsWell (1 + max before (height far))) (nat_le (height (tree_of_plan p)) (height far + 1)) _ _
    (λ e. well_over side m before p far w f h k (leb-true _ _ e))
    (λ e. well_turned side m before p far w f h (leb-false _ _ e))

pub well_grown : (at new number : ℕ) (t : Tree) → IsBalanced t → IsWell (height t) (plan_grown at new number t)
well_grown at new number (leaf n) b =
    let side = cond (nat_le at 0) Left Right in
    record { balanced = balanced_on side number (leaf new) (leaf n) (omega arith) (omega arith) tt tt; height = one_higher (omega (arith, high side number (kept (leaf new)) (kept (leaf n)))) (refl, refl) }
well_grown at new number (inner n l r) b =
    both_ways (IsWell (height (inner n l r))) (nat_le at (count l)) _ _
    (well_leaned Left n (height l) (plan_grown at new number l) r (well_grown at new number l b.2) b.3 b.0 b.1)
    (let swap : 1 + max (height r) (height l) ≡ 1 + max (height l) (height r) = omega arith in
    subst (λ v. IsWell v (plan_leaned Right n (plan_grown (at - count l) new number r) l)) swap (well_leaned Right n (height r) (plan_grown (at - count l) new number r) l (well_grown (at - count l) new number r b.3) b.2 b.1 b.0))
