-- What a removal makes of a tree: its numbers, its leaves, its rows and its balance.
use Rattle.std.proofs.Common.{◌≡◌, ℕ, zero, suc, ◌+◌, ◌-◌, ◌*◌, ◌<◌, ◌≤◌, max, Bool, true, false, nat_le, nat_lt, cond, List, ◌++◌, length, take, drop, refl, sym, ◌∙◌, ap, subst, arith, append_assoc, append-nil, length-append, inl, inr}
use Rattle.std.proofs.lemmas.Bool.{leb-true, leb-false, ltb-true, ltb-false}
use Rattle.std.proofs.lemmas.Bool.Decides.{leb_tells}
use Rattle.std.proofs.lemmas.Grind.{common_steps}
use Rattle.std.proofs.Math.Seq.{take-append-add, drop-append-add}
use Rattle.tree_shape.specs.declared.node.Side.{Side}
use Rattle.tree_shape.specs.declared.node.Side.TheVariants.{Left, Right}
use Rattle.tree_shape.specs.declared.node.Node.{Node}
use Rattle.tree_shape.specs.Tree.{Tree, leaf, inner, height, count, leaves, IsBalanced, NodesStand}
use Rattle.tree_shape.specs.Plan.{Plan, kept, made, tree_of_plan, rows, over}
use Rattle.tree_shape.specs.Apply.{mark, times, KeptBy, KeptStands}
use Rattle.tree_shape.specs.Removal.{part_beside, outer, raised_once, raised_twice, plan_raised, plan_sunk, plan_without_near, plan_shrunk, gone_in, node_removed}
use Rattle.tree_shape.specs.Fewest.{list_removed}
use Rattle.tree_shape.proofs.ArenaTrees.{length_leaves}
use Rattle.tree_shape.proofs.Turns.{height_inner_on}
use Rattle.tree_shape.proofs.InsertionBounds.{both_ways, both_ways_by, plan_height}
use Rattle.tree_shape.proofs.ArenaChanges.{times_inner_on}
use Rattle.tree_shape.proofs.Insertions.{joined, leaves_on, balanced_on, GoesDown, standing_goes_down}

high : (side : Side) (n : ℕ) (a b : Plan) → plan_height (made side n a b) ≡ 1 + max (plan_height a) (plan_height b)
high side n a b = height_inner_on side n (tree_of_plan a) (tree_of_plan b)

tally : (side : Side) (k n : ℕ) (a b : Plan) → times k (tree_of_plan (made side n a b)) ≡ mark k n + (times k (tree_of_plan a) + times k (tree_of_plan b))
tally side k n a b = times_inner_on side k n (tree_of_plan a) (tree_of_plan b)

-- Numbers.

two_parts : (side : Side) (k : ℕ) (l r : Tree) → times k (part_beside side l r) + times k (outer side l r) ≡ times k l + times k r
two_parts Left k l r = refl
two_parts Right k l r = omega arith

times_twice : (side : Side) (x m : ℕ) (p : Plan) (k : ℕ) (b o : Tree) → times x (tree_of_plan (raised_twice side m p k b o)) ≡ mark x m + (times x (tree_of_plan p) + (mark x k + (times x b + times x o)))
times_twice side x m p k (leaf n) o = omega (arith, tally side x k (made side m p (kept (leaf n))) (kept o), tally side x m p (kept (leaf n)))
times_twice side x m p k (inner q l r) o =
    omega (arith, tally side x q (made side m p (kept (part_beside side l r))) (made side k (kept (outer side l r)) (kept o)), tally side x m p (kept (part_beside side l r)), tally side x k (kept (outer side l r)) (kept o), two_parts side x l r)

times_raised : (side : Side) (x m : ℕ) (p : Plan) (far : Tree) → times x (tree_of_plan (plan_raised side m p far)) ≡ mark x m + (times x (tree_of_plan p) + times x far)
times_raised side x m p (leaf n) = tally side x m p (kept (leaf n))
times_raised side x m p (inner k l r) =
    both_ways (λ v. times x (tree_of_plan v) ≡ mark x m + (times x (tree_of_plan p) + times x (inner k l r))) (nat_le (height (part_beside side l r)) (height (outer side l r))) _ _
    (omega (arith, tally side x k (made side m p (kept (part_beside side l r))) (kept (outer side l r)), tally side x m p (kept (part_beside side l r)), two_parts side x l r))
    (omega (arith, times_twice side x m p k (part_beside side l r) (outer side l r), two_parts side x l r))

times_sunk : (side : Side) (x m : ℕ) (p : Plan) (far : Tree) → times x (tree_of_plan (plan_sunk side m p far)) ≡ mark x m + (times x (tree_of_plan p) + times x far)
times_sunk side x m p far = both_ways (λ v. times x (tree_of_plan v) ≡ mark x m + (times x (tree_of_plan p) + times x far)) (nat_le (height far) (height (tree_of_plan p) + 1)) _ _ (tally side x m p (kept far)) (times_raised side x m p far)

-- the plan of an inner node has all its numbers but the one that goes
abbrev pub Told : ℕ → ℕ → Plan → Tree → Type 0
Told x d p (leaf n) = Unit {0}
Told x d p (inner m l r) = times x (tree_of_plan p) + mark x d ≡ times x (inner m l r)

times_without : (side : Side) (x m d : ℕ) (near : Tree) (p : Plan) (far : Tree) → Told x d p near → times x (tree_of_plan (plan_without_near side m near p far)) + mark x (gone_in m near d) ≡ mark x m + (times x near + times x far)
times_without side x m d (leaf n) p far h = omega arith
times_without side x m d (inner k l r) p far h = omega (arith, times_sunk side x m p far)

both_choices : (P : Plan → ℕ → Type 0) (b : Bool) (x y : Plan) (m n : ℕ) → P x m → P y n → P (cond b x y) (cond b m n)
both_choices P true x y m n p q = p
both_choices P false x y m n p q = q

pub told_shrunk : (x at : ℕ) (t : Tree) → Told x (node_removed at t) (plan_shrunk at t) t
told_shrunk x at (leaf n) = tt
told_shrunk x at (inner m l r) =
    both_choices (λ p d. times x (tree_of_plan p) + mark x d ≡ times x (inner m l r)) (nat_lt at (count l)) _ _ _ _
    (times_without Left x m (node_removed at l) l (plan_shrunk at l) r (told_shrunk x at l))
    (times_without Right x m (node_removed (at - count l) r) r (plan_shrunk (at - count l) r) l (told_shrunk x (at - count l) r) ∙ omega arith)

-- The parts that stay.

parts_of_far : (P : Tree → Type 0) → GoesDown P → (side : Side) (k : ℕ) (l r : Tree) → P (inner k l r) → P (part_beside side l r) × P (outer side l r)
parts_of_far P down Left k l r s = down.parts_have k l r s
parts_of_far P down Right k l r s = let w = down.parts_have k l r s in (w.1, w.0)

kept_twice : (P : Tree → Type 0) → GoesDown P → (side : Side) (m : ℕ) (p : Plan) (k : ℕ) (b o : Tree) → KeptBy P p → P b → P o → KeptBy P (raised_twice side m p k b o)
kept_twice P down side m p k (leaf n) o s b f = ((s, b), f)
kept_twice P down side m p k (inner q l r) o s b f = let w = parts_of_far P down side q l r b in ((s, w.0), (w.1, f))

kept_raised : (P : Tree → Type 0) → GoesDown P → (side : Side) (m : ℕ) (p : Plan) (far : Tree) → KeptBy P p → P far → KeptBy P (plan_raised side m p far)
kept_raised P down side m p (leaf n) s f = (s, f)
kept_raised P down side m p (inner k l r) s f =
    let w = parts_of_far P down side k l r f in
    both_ways (KeptBy P) (nat_le (height (part_beside side l r)) (height (outer side l r))) _ _ ((s, w.0), w.1) (kept_twice P down side m p k _ _ s w.0 w.1)

kept_without : (P : Tree → Type 0) → GoesDown P → (side : Side) (m : ℕ) (near : Tree) (p : Plan) (far : Tree) → KeptBy P p → P far → KeptBy P (plan_without_near side m near p far)
kept_without P down side m (leaf n) p far s f = f
kept_without P down side m (inner k l r) p far s f = both_ways (KeptBy P) (nat_le (height far) (height (tree_of_plan p) + 1)) _ _ (s, f) (kept_raised P down side m p far s f)

pub kept_by_shrunk : (P : Tree → Type 0) → GoesDown P → (at : ℕ) (t : Tree) → P t → KeptBy P (plan_shrunk at t)
kept_by_shrunk P down at (leaf n) s = s
kept_by_shrunk P down at (inner m l r) s =
    let w = down.parts_have m l r s in
    both_ways (KeptBy P) (nat_lt at (count l)) _ _
    (kept_without P down Left m l (plan_shrunk at l) r (kept_by_shrunk P down at l w.0) w.1)
    (kept_without P down Right m r (plan_shrunk (at - count l) r) l (kept_by_shrunk P down (at - count l) r w.1) w.0)

pub kept_shrunk : (nodes : List Node) (at : ℕ) (t : Tree) → NodesStand nodes t → KeptStands nodes (plan_shrunk at t)
kept_shrunk nodes at t s = kept_by_shrunk (NodesStand nodes) (standing_goes_down nodes) at t s

-- Leaves.

leaves_twice_left : (m : ℕ) (p : Plan) (k : ℕ) (b o : Tree) → leaves (tree_of_plan (raised_twice Left m p k b o)) ≡ leaves (tree_of_plan p) ++ (leaves b ++ leaves o)
leaves_twice_left m p k (leaf n) o = simp append_assoc
leaves_twice_left m p k (inner q l r) o = simp append_assoc

leaves_twice_right : (m : ℕ) (p : Plan) (k : ℕ) (b o : Tree) → leaves (tree_of_plan (raised_twice Right m p k b o)) ≡ (leaves o ++ leaves b) ++ leaves (tree_of_plan p)
leaves_twice_right m p k (leaf n) o = simp append_assoc
leaves_twice_right m p k (inner q l r) o = simp append_assoc

leaves_raised : (side : Side) (m : ℕ) (p : Plan) (far : Tree) → leaves (tree_of_plan (plan_raised side m p far)) ≡ joined side (leaves (tree_of_plan p)) (leaves far)
leaves_raised side m p (leaf n) = leaves_on side m (tree_of_plan p) (leaf n)
leaves_raised Left m p (inner k l r) =
    both_ways (λ v. leaves (tree_of_plan v) ≡ leaves (tree_of_plan p) ++ (leaves l ++ leaves r)) (nat_le (height l) (height r)) _ _ (simp append_assoc) (leaves_twice_left m p k l r)
leaves_raised Right m p (inner k l r) =
    both_ways (λ v. leaves (tree_of_plan v) ≡ (leaves l ++ leaves r) ++ leaves (tree_of_plan p)) (nat_le (height r) (height l)) _ _ (simp append_assoc) (leaves_twice_right m p k r l)

leaves_sunk : (side : Side) (m : ℕ) (p : Plan) (far : Tree) → leaves (tree_of_plan (plan_sunk side m p far)) ≡ joined side (leaves (tree_of_plan p)) (leaves far)
leaves_sunk side m p far = both_ways (λ v. leaves (tree_of_plan v) ≡ joined side (leaves (tree_of_plan p)) (leaves far)) (nat_le (height far) (height (tree_of_plan p) + 1)) _ _ (leaves_on side m (tree_of_plan p) far) (leaves_raised side m p far)

removed_left : (at : ℕ) (xs ys : List ℕ) → at < length xs → list_removed at xs ++ ys ≡ list_removed at (xs ++ ys)
removed_left at xs ys h = grind (arith, common_steps)

removed_right : (at : ℕ) (xs ys : List ℕ) → length xs ≤ at → xs ++ list_removed (at - length xs) ys ≡ list_removed at (xs ++ ys)
removed_right at xs ys h =
    let n = at - length xs in
    let whole : length xs + n ≡ at = omega arith in
    let next : length xs + (n + 1) ≡ at + 1 = omega arith in
    sym (append_assoc xs (take n ys) (drop (n + 1) ys)) ∙ (ap (λ v. (xs ++ take n ys) ++ v) (sym (drop-append-add xs ys (n + 1))) ∙ (ap (λ v. v ++ drop (length xs + (n + 1)) (xs ++ ys)) (sym (take-append-add xs ys n)) ∙ cc (whole, next)))

-- a removal below an inner node
abbrev pub IsInner : Tree → Type 0
IsInner (leaf n) = ⊥
IsInner (inner m l r) = Unit {0}

leaves_left : (m at : ℕ) (near : Tree) (p : Plan) (far : Tree) → at < count near → (IsInner near → leaves (tree_of_plan p) ≡ list_removed at (leaves near)) → leaves (tree_of_plan (plan_without_near Left m near p far)) ≡ list_removed at (leaves near ++ leaves far)
leaves_left m zero (leaf n) p far h told = refl
leaves_left m (suc at) (leaf n) p far h told = absurd (omega arith)
leaves_left m at (inner k l r) p far h told = leaves_sunk Left m p far ∙ (ap (λ v. v ++ leaves far) (told tt) ∙ removed_left at (leaves (inner k l r)) (leaves far) (omega (arith, length_leaves (inner k l r))))

leaves_right : (m at : ℕ) (near : Tree) (p : Plan) (far : Tree) → at < count near → (IsInner near → leaves (tree_of_plan p) ≡ list_removed at (leaves near)) → leaves (tree_of_plan (plan_without_near Right m near p far)) ≡ leaves far ++ list_removed at (leaves near)
leaves_right m zero (leaf n) p far h told = sym (append-nil (leaves far))
leaves_right m (suc at) (leaf n) p far h told = absurd (omega arith)
leaves_right m at (inner k l r) p far h told = leaves_sunk Right m p far ∙ ap (λ v. leaves far ++ v) (told tt)

pub leaves_shrunk : (at : ℕ) (t : Tree) → at < count t → IsInner t → leaves (tree_of_plan (plan_shrunk at t)) ≡ list_removed at (leaves t)
leaves_shrunk at (leaf n) h i = absurd i
leaves_shrunk at (inner m l r) h i =
    both_ways_by (λ v. leaves (tree_of_plan v) ≡ list_removed at (leaves (inner m l r))) (nat_lt at (count l)) _ _
    (λ e. let lt = ltb-true _ _ e in leaves_left m at l (plan_shrunk at l) r lt (leaves_shrunk at l lt))
    (λ e. let le = ltb-false _ _ e in
    let within : at - count l < count r = omega arith in
    leaves_right m (at - count l) r (plan_shrunk (at - count l) r) l within (leaves_shrunk (at - count l) r within)
    ∙ (ap (λ v. leaves l ++ list_removed (at - v) (leaves r)) (sym (length_leaves l)) ∙ removed_right at (leaves l) (leaves r) (omega (arith, length_leaves l))))

-- Rows.

listed_over : (side : Side) (m : ℕ) (p : Plan) (far : Tree) → length (rows (over side m p far)) ≤ length (rows p) + 3
listed_over side m p far = simp (append-nil, length-append) (omega arith)

listed_twice : (side : Side) (m : ℕ) (p : Plan) (k : ℕ) (b o : Tree) → length (rows (raised_twice side m p k b o)) ≤ length (rows p) + 3
listed_twice side m p k (leaf n) o = simp (append-nil, length-append) (omega arith)
listed_twice side m p k (inner q l r) o = simp (append-nil, length-append) (omega arith)

listed_raised : (side : Side) (m : ℕ) (p : Plan) (far : Tree) → length (rows (plan_raised side m p far)) ≤ length (rows p) + 3
listed_raised side m p (leaf n) = listed_over side m p (leaf n)
listed_raised side m p (inner k l r) =
    both_ways (λ v. length (rows v) ≤ length (rows p) + 3) (nat_le (height (part_beside side l r)) (height (outer side l r))) _ _
    (simp (append-nil, length-append) (omega arith)) (listed_twice side m p k (part_beside side l r) (outer side l r))

listed_without : (side : Side) (m : ℕ) (near : Tree) (p : Plan) (far : Tree) → length (rows p) ≤ 3 * height near → length (rows (plan_without_near side m near p far)) ≤ 3 * (height near + 1)
listed_without side m (leaf n) p far h = omega arith
listed_without side m (inner k l r) p far h =
    both_ways (λ v. length (rows v) ≤ 3 * (height (inner k l r) + 1)) (nat_le (height far) (height (tree_of_plan p) + 1)) _ _
    (omega (arith, listed_over side m p far)) (omega (arith, listed_raised side m p far))

pub listed_shrunk : (at : ℕ) (t : Tree) → length (rows (plan_shrunk at t)) ≤ 3 * height t
listed_shrunk at (leaf n) = omega arith
listed_shrunk at (inner m l r) =
    both_ways (λ v. length (rows v) ≤ 3 * height (inner m l r)) (nat_lt at (count l)) _ _
    (omega (arith, listed_without Left m l (plan_shrunk at l) r (listed_shrunk at l)))
    (omega (arith, listed_without Right m r (plan_shrunk (at - count l) r) l (listed_shrunk (at - count l) r)))

-- Balance.

pub data Lower (before : ℕ) (p : Plan) : Type 0 where
  as_high : plan_height p ≡ before → Lower before p
  one_lower : plan_height p + 1 ≡ before → Lower before p

pub record IsLow (before : ℕ) (p : Plan) : Type 0 where
  pub balanced : IsBalanced (tree_of_plan p)
  pub height : Lower before p

beside_outer : (side : Side) (k : ℕ) (l r : Tree) → IsBalanced (inner k l r) → (height (part_beside side l r) ≤ height (outer side l r) + 1) × (height (outer side l r) ≤ height (part_beside side l r) + 1) × IsBalanced (part_beside side l r) × IsBalanced (outer side l r) × (height (inner k l r) ≡ 1 + max (height (part_beside side l r)) (height (outer side l r)))
beside_outer Left k l r b = (b.0, b.1, b.2, b.3, refl)
beside_outer Right k l r b = (b.1, b.0, b.3, b.2, omega arith)

either_height : (before : ℕ) (p : Plan) → plan_height p ≤ before → before ≤ plan_height p + 1 → Lower before p
either_height before p a b = elim (leb_tells before (plan_height p)) [ inl w ↦ as_high (omega (arith, w.1)) | inr w ↦ one_lower (omega (arith, w.1)) ]

lower_over : (side : Side) (m before : ℕ) (p : Plan) (far : Tree) → plan_height p + 1 ≡ before → before ≤ height far + 1 → Lower (1 + max before (height far)) (over side m p far)
lower_over side m before p far e h = either_height (1 + max before (height far)) (over side m p far) (omega (arith, high side m p (kept far))) (omega (arith, high side m p (kept far)))

low_over : (side : Side) (m before : ℕ) (p : Plan) (far : Tree) → IsLow before p → IsBalanced far → before ≤ height far + 1 → height far ≤ before + 1 → height far ≤ plan_height p + 1 → IsLow (1 + max before (height far)) (over side m p far)
low_over side m before p far w f h k low = elim w.height [
  | as_high e ↦ record { balanced = balanced_on side m (tree_of_plan p) far (omega arith) low w.balanced f; height = as_high (omega (arith, high side m p (kept far))) }
  | one_lower e ↦ record { balanced = balanced_on side m (tree_of_plan p) far (omega arith) low w.balanced f; height = lower_over side m before p far e h }
]

low_twice : (side : Side) (m before : ℕ) (p : Plan) (k : ℕ) (b o : Tree) → IsBalanced (tree_of_plan p) → IsBalanced b → IsBalanced o → height o < height b → height b ≤ height o + 1 → height b ≡ plan_height p + 1 → before ≡ plan_height p + 1 → IsLow (2 + height b) (raised_twice side m p k b o)
low_twice side m before p k (leaf n) o bp bb bo less near e eb = absurd (omega arith)
low_twice side m before p k (inner q l r) o bp bb bo less near e eb =
    let w = beside_outer side q l r bb in
    record {
      balanced = balanced_on side q _ _ (omega (arith, high side m p (kept (part_beside side l r)), high side k (kept (outer side l r)) (kept o), w.4)) (omega (arith, high side m p (kept (part_beside side l r)), high side k (kept (outer side l r)) (kept o), w.4))
          (balanced_on side m (tree_of_plan p) (part_beside side l r) (omega arith) (omega arith) bp w.2)
          (balanced_on side k (outer side l r) o (omega arith) (omega arith) w.3 bo);
      height = one_lower (omega (arith, high side q (made side m p (kept (part_beside side l r))) (made side k (kept (outer side l r)) (kept o)), high side m p (kept (part_beside side l r)), high side k (kept (outer side l r)) (kept o), w.4));
    }

raised_low : (side : Side) (m before : ℕ) (p : Plan) (k : ℕ) (b o : Tree) (whole : ℕ) → IsBalanced (tree_of_plan p) → IsBalanced b → IsBalanced o → height b ≤ height o → height o ≤ height b + 1 → height o ≡ plan_height p + 1 → before ≡ plan_height p + 1 → whole ≡ plan_height p + 2 → IsLow (1 + max before whole) (raised_once side m p k b o)
raised_low side m before p k b o whole bp bb bo less near e eb ew =
    record {
      balanced = balanced_on side k _ o (omega (arith, high side m p (kept b))) (omega (arith, high side m p (kept b))) (balanced_on side m (tree_of_plan p) b (omega arith) (omega arith) bp bb) bo;
      height = either_height (1 + max before whole) (raised_once side m p k b o) (omega (arith, high side k (made side m p (kept b)) (kept o), high side m p (kept b))) (omega (arith, high side k (made side m p (kept b)) (kept o), high side m p (kept b)));
    }

low_raised : (side : Side) (m before : ℕ) (p : Plan) (far : Tree) → IsLow before p → IsBalanced far → height far ≤ before + 1 → plan_height p + 1 < height far → IsLow (1 + max before (height far)) (plan_raised side m p far)
low_raised side m before p (leaf n) w f h tall = absurd (omega arith)
low_raised side m before p (inner k l r) w f h tall =
    let v = beside_outer side k l r f in
    let e : before ≡ plan_height p + 1 = elim w.height [ as_high e ↦ absurd (omega arith) | one_lower e ↦ sym e ] in
    let whole : height (inner k l r) ≡ plan_height p + 2 = omega arith in
    both_ways_by (IsLow (1 + max before (height (inner k l r)))) (nat_le (height (part_beside side l r)) (height (outer side l r))) _ _
    (λ le. let less = leb-true _ _ le in raised_low side m before p k (part_beside side l r) (outer side l r) (height (inner k l r)) w.balanced v.2 v.3 less v.1 (omega arith) e whole)
    (λ gt. let more = leb-false _ _ gt in
    let up : 2 + height (part_beside side l r) ≡ 1 + max before (height (inner k l r)) = omega arith in
    subst (λ n. IsLow n (raised_twice side m p k (part_beside side l r) (outer side l r))) up
    (low_twice side m before p k (part_beside side l r) (outer side l r) w.balanced v.2 v.3 more v.0 (omega arith) e))

low_without : (side : Side) (m : ℕ) (near : Tree) (p : Plan) (far : Tree) → IsLow (height near) p → IsBalanced far → height near ≤ height far + 1 → height far ≤ height near + 1 → IsLow (1 + max (height near) (height far)) (plan_without_near side m near p far)
low_without side m (leaf n) p far w f h k = record { balanced = f; height = either_height _ (kept far) (omega arith) (omega arith) }
low_without side m (inner q l r) p far w f h k =
    both_ways_by (IsLow (1 + max (height (inner q l r)) (height far))) (nat_le (height far) (height (tree_of_plan p) + 1)) _ _
    (λ e. low_over side m (height (inner q l r)) p far w f h k (leb-true _ _ e))
    (λ e. low_raised side m (height (inner q l r)) p far w f k (leb-false _ _ e))

pub low_shrunk : (at : ℕ) (t : Tree) → IsBalanced t → IsLow (height t) (plan_shrunk at t)
low_shrunk at (leaf n) b = record { balanced = tt; height = as_high refl }
low_shrunk at (inner m l r) b =
    both_ways (IsLow (height (inner m l r))) (nat_lt at (count l)) _ _
    (low_without Left m l (plan_shrunk at l) r (low_shrunk at l b.2) b.3 b.0 b.1)
    (let swap : 1 + max (height r) (height l) ≡ 1 + max (height l) (height r) = omega arith in
    subst (λ v. IsLow v (plan_without_near Right m r (plan_shrunk (at - count l) r) l)) swap (low_without Right m r (plan_shrunk (at - count l) r) l (low_shrunk (at - count l) r b.3) b.2 b.1 b.0))
