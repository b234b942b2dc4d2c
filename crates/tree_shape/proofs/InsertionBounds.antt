-- How high an insertion makes a tree, and how many rows it lists.
use Rattle.std.proofs.Common.{◌≡◌, ℕ, ◌+◌, ◌-◌, ◌<◌, ◌≤◌, max, Bool, true, false, nat_le, cond, [], ◌∷◌, ◌++◌, length, refl, arith, append-nil, length-append}
use Rattle.std.proofs.lemmas.Bool.{leb-false}
use Rattle.tree_shape.specs.declared.node.Side.{Side}
use Rattle.tree_shape.specs.declared.node.Side.TheVariants.{Left, Right}
use Rattle.tree_shape.specs.Tree.{Tree, leaf, inner, name, height, count}
use Rattle.tree_shape.specs.Plan.{Plan, kept, made, tree_of_plan, dirty_row, rows, rows_below_root, same_side, other, turned_plan, plan_leaned, over, plan_grown}
use Rattle.tree_shape.proofs.Turns.{height_inner_on}

-- what holds of both choices
pub both_ways : (P : Plan → Type 0) (b : Bool) (x y : Plan) → P x → P y → P (cond b x y)
both_ways P true x y p q = p
both_ways P false x y p q = q

pub both_ways_by : (P : Plan → Type 0) (b : Bool) (x y : Plan) → (b ≡ true → P x) → (b ≡ false → P y) → P (cond b x y)
both_ways_by P true x y p q = p refl
both_ways_by P false x y p q = q refl

abbrev pub plan_height : Plan → ℕ
plan_height p = height (tree_of_plan p)

high_made : (side : Side) (n : ℕ) (a b : Plan) → plan_height (made side n a b) ≡ 1 + max (plan_height a) (plan_height b)
high_made side n a b = height_inner_on side n (tree_of_plan a) (tree_of_plan b)

pub turned_high : (side : Side) (m : ℕ) (p : Plan) (far : Tree) → height far + 1 < plan_height p → plan_height (turned_plan side m p far) ≤ max (plan_height p) (height far) + 1
turned_high side m (kept t) far tall = omega (arith, high_made side m (kept t) (kept far))
turned_high side m (made s n near (made s2 m2 a2 b2)) far tall = omega (arith, high_made side m (made s n near (made s2 m2 a2 b2)) (kept far))
turned_high side m (made s n (kept t) (kept f)) far tall = omega (arith, high_made side m (made s n (kept t) (kept f)) (kept far))
turned_high side m (made s n (made s1 m1 a (made s2 m2 a2 b2)) (kept f)) far tall = omega (arith, high_made side m (made s n (made s1 m1 a (made s2 m2 a2 b2)) (kept f)) (kept far))
turned_high side m (made s n (made s1 q a (kept b)) (kept f)) far tall =
    let P : Plan → Type 0 = λ v. plan_height v ≤ max (plan_height (made s n (made s1 q a (kept b)) (kept f))) (height far) + 1 in
    let here = high_made s n (made s1 q a (kept b)) (kept f) in
    let there = high_made s1 q a (kept b) in
    let m_far = high_made side m (kept f) (kept far) in
    let m_b = high_made side m (kept b) (kept far) in
    let m_a = high_made side m a (kept far) in
    let p_a = high_made (other side) n a (kept f) in
    let p_b = high_made (other side) n (kept b) (kept f) in
    both_ways P (same_side s side) _ _
    (omega (arith, high_made side n (made s1 q a (kept b)) (made side m (kept f) (kept far))))
    (both_ways P (same_side s1 side) _ _
    (omega (arith, high_made side q (made (other side) n a (kept f)) (made side m (kept b) (kept far))))
    (omega (arith, high_made (other side) q (made side m a (kept far)) (made (other side) n (kept b) (kept f)))))

pub leaned_high : (side : Side) (m : ℕ) (p : Plan) (far : Tree) → plan_height (plan_leaned side m p far) ≤ max (plan_height p) (height far) + 1
leaned_high side m p far =
    both_ways_by (λ v. plan_height v ≤ max (plan_height p) (height far) + 1) (nat_le (height (tree_of_plan p)) (height far + 1)) _ _
    (λ _. omega (arith, high_made side m p (kept far))) (λ e. turned_high side m p far (leb-false _ _ e))

-- the number of rows but for the root's
abbrev pub listed : Plan → ℕ
listed p = length (rows_below_root p)

pub rows_most : (p : Plan) → length (rows p) ≤ listed p + 1
rows_most (kept t) = omega arith
rows_most (made side n near far) = omega (arith, length-append (rows near ++ rows far) (dirty_row side n (name (tree_of_plan near)) (name (tree_of_plan far)) ∷ []))

over_listed : (side : Side) (m : ℕ) (p : Plan) (far : Tree) → listed (over side m p far) ≤ listed p + 1
over_listed side m p far = omega (arith, rows_most p, length-append (rows p) [])

pub turned_listed : (side : Side) (m : ℕ) (p : Plan) (far : Tree) → listed (turned_plan side m p far) ≤ listed p + 1
turned_listed side m (kept t) far = over_listed side m (kept t) far
turned_listed side m (made s n near (made s2 m2 a2 b2)) far = over_listed side m (made s n near (made s2 m2 a2 b2)) far
turned_listed side m (made s n (kept t) (kept f)) far = over_listed side m (made s n (kept t) (kept f)) far
turned_listed side m (made s n (made s1 m1 a (made s2 m2 a2 b2)) (kept f)) far = over_listed side m (made s n (made s1 m1 a (made s2 m2 a2 b2)) (kept f)) far
turned_listed side m (made s n (made s1 q a (kept b)) (kept f)) far =
    let P : Plan → Type 0 = λ v. listed v ≤ listed (made s n (made s1 q a (kept b)) (kept f)) + 1 in
    both_ways P (same_side s side) _ _
    (simp (append-nil, length-append) (omega arith))
    (both_ways P (same_side s1 side) _ _
    (simp (append-nil, length-append) (omega arith))
    (simp (append-nil, length-append) (omega arith)))

pub leaned_listed : (side : Side) (m : ℕ) (p : Plan) (far : Tree) → listed (plan_leaned side m p far) ≤ listed p + 1
leaned_listed side m p far =
    both_ways (λ v. listed v ≤ listed p + 1) (nat_le (height (tree_of_plan p)) (height far + 1)) _ _ (over_listed side m p far) (turned_listed side m p far)

pub grown_high : (at new number : ℕ) (t : Tree) → plan_height (plan_grown at new number t) ≤ height t + 1
grown_high at new number (leaf n) = omega (arith, high_made (cond (nat_le at 0) Left Right) number (kept (leaf new)) (kept (leaf n)))
grown_high at new number (inner n l r) =
    both_ways (λ v. plan_height v ≤ height (inner n l r) + 1) (nat_le at (count l)) _ _
    (omega (arith, leaned_high Left n (plan_grown at new number l) r, grown_high at new number l))
    (omega (arith, leaned_high Right n (plan_grown (at - count l) new number r) l, grown_high (at - count l) new number r))

pub grown_listed : (at new number : ℕ) (t : Tree) → listed (plan_grown at new number t) ≤ height t
grown_listed at new number (leaf n) = omega arith
grown_listed at new number (inner n l r) =
    both_ways (λ v. listed v ≤ height (inner n l r)) (nat_le at (count l)) _ _
    (omega (arith, leaned_listed Left n (plan_grown at new number l) r, grown_listed at new number l))
    (omega (arith, leaned_listed Right n (plan_grown (at - count l) new number r) l, grown_listed (at - count l) new number r))
