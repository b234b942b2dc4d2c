-- What the root of a plan says of the plan, and what a double turn makes of it.
use Rattle.std.proofs.Common.{◌≡◌, ℕ, ◌+◌, ◌≤◌, max, Bool, true, false, nat_le, cond, List, [], ◌∷◌, ◌++◌, refl, sym, ◌∙◌, ap, arith, append_assoc, append-nil, ◌⊎◌, inl, inr}
use Rattle.std.proofs.lemmas.Bool.{le-leb}
use Rattle.std.proofs.lemmas.List.{same_from_push}
use Rattle.tree_shape.specs.declared.node.Child.{Child}
use Rattle.tree_shape.specs.declared.node.Child.TheVariants.{Inner}
use Rattle.tree_shape.specs.declared.node.Side.{Side}
use Rattle.tree_shape.specs.declared.node.Side.TheVariants.{Left, Right}
use Rattle.tree_shape.specs.declared.insertion.Way.{Way}
use Rattle.tree_shape.specs.declared.insertion.Way.TheVariants.{Turned, Once, Twice}
use Rattle.tree_shape.specs.declared.dirty.DirtyRow.{DirtyRow}
use Rattle.tree_shape.specs.declared.insertion.Grown.{Grown}
use Rattle.tree_shape.specs.Tree.{Tree, name, height}
use Rattle.tree_shape.specs.Plan.{Plan, kept, made, inner_on, tree_of_plan, dirty_row, child_on, rows, rows_below_root, same_side, other, plan_turned, turned_plan, plan_leaned, over, way_through, IsPending, IsLeaning}

pub name_inner_on : (side : Side) (n : ℕ) (a b : Tree) → name (inner_on side n a b) ≡ Inner n
name_inner_on Left n a b = refl
name_inner_on Right n a b = refl

pub height_inner_on : (side : Side) (n : ℕ) (a b : Tree) → height (inner_on side n a b) ≡ 1 + max (height a) (height b)
height_inner_on Left n a b = refl
height_inner_on Right n a b = omega arith

-- a part that went through two nodes
pub record TwoSteps (g : Grown) (p : Plan) (third : Side) (near_height far_height : ℕ) : Type 0 where
  pub n : ℕ
  pub q : ℕ
  pub second : Side
  pub near : Plan
  pub b : Tree
  pub f : Tree
  pub is : p ≡ made second n (made third q near (kept b)) (kept f)
  pub node_is : g.node ≡ n
  pub side_is : g.side ≡ second
  pub near_is : g.near ≡ Inner q
  pub far_is : g.far ≡ name f
  pub near_high : near_height ≡ height (tree_of_plan near)
  pub far_high : far_height ≡ height b
  pub first_high : g.near_height ≡ 1 + max (height (tree_of_plan near)) (height b)
  pub second_high : g.far_height ≡ height f

two_of : (g : Grown) (side : Side) (n : ℕ) (s : Side) (m : ℕ) (a : Plan) (b f : Tree) (third : Side) (x y : ℕ) → IsPending g (made side n (made s m a (kept b)) (kept f)) → g.way ≡ Twice third x y → TwoSteps g (made side n (made s m a (kept b)) (kept f)) third x y
two_of g side n s m a b f third x y e w =
    let ways : Twice third x y ≡ Twice s (height (tree_of_plan a)) (height b) = sym w ∙ ap (λ (h : Grown). h.way) e in
    let thirds : third ≡ s = cc (ways) in
    record {
      n = n;
      q = m;
      second = side;
      near = a;
      b = b;
      f = f;
      is = ap (λ t. made side n (made t m a (kept b)) (kept f)) (sym thirds);
      node_is = ap (λ (h : Grown). h.node) e;
      side_is = ap (λ (h : Grown). h.side) e;
      near_is = ap (λ (h : Grown). h.near) e ∙ name_inner_on s m (tree_of_plan a) b;
      far_is = ap (λ (h : Grown). h.far) e;
      near_high = cc (ways);
      far_high = cc (ways);
      first_high = ap (λ (h : Grown). h.near_height) e ∙ height_inner_on s m (tree_of_plan a) b;
      second_high = ap (λ (h : Grown). h.far_height) e;
    }

pub two_steps : (g : Grown) (p : Plan) (third : Side) (x y : ℕ) → IsPending g p → g.way ≡ Twice third x y → TwoSteps g p third x y
two_steps g (kept t) third x y e w = absurd e
two_steps g (made side n (made s m a (kept b)) (kept f)) third x y e w = two_of g side n s m a b f third x y e w
two_steps g (made side n (made s m a (made s2 m2 a2 b2)) (kept f)) third x y e w =
    let ways : Twice third x y ≡ Once = sym w ∙ ap (λ (h : Grown). h.way) e in cc (ways)
two_steps g (made side n (kept t) (kept f)) third x y e w =
    let ways : Twice third x y ≡ Once = sym w ∙ ap (λ (h : Grown). h.way) e in cc (ways)
two_steps g (made side n a (made s2 m2 a2 b2)) third x y e w =
    let ways : Twice third x y ≡ Turned = sym w ∙ ap (λ (h : Grown). h.way) e in cc (ways)

-- one that did not stays as it is
pub NotTwice : Way → Type 0
NotTwice way = (third : Side) (x y : ℕ) → way ≡ Twice third x y → ⊥

pub not_turned : (g : Grown) (side : Side) (m : ℕ) (p : Plan) (far : Tree) → IsPending g p → ((third : Side) (x y : ℕ) → g.way ≡ Twice third x y → ⊥) → turned_plan side m p far ≡ over side m p far
not_turned g side m (kept t) far e never = absurd e
not_turned g side m (made s n (made s1 m1 a (kept b)) (kept f)) far e never = absurd (never _ _ _ (ap (λ (h : Grown). h.way) e))
not_turned g side m (made s n (made s1 m1 a (made s2 m2 a2 b2)) (kept f)) far e never = refl
not_turned g side m (made s n (kept t) (kept f)) far e never = refl
not_turned g side m (made s n a (made s2 m2 a2 b2)) far e never = refl

-- the list before a double turn, and the row that it takes back
pub unlisted : (dirty : List DirtyRow) (row : DirtyRow) (shorter before : List DirtyRow) (side second third : Side) (n q : ℕ) (near : Plan) (b f : Tree) → dirty ≡ before ++ rows_below_root (made second n (made third q near (kept b)) (kept f)) → dirty ≡ shorter ++ row ∷ [] → (shorter ≡ before ++ rows near) × (row ≡ dirty_row third q (name (tree_of_plan near)) (name b))
unlisted dirty row shorter before side second third n q near b f l e =
    same_from_push _ _ _ _ (sym e ∙ (l ∙ simp append_assoc))

pub near_child : (side : Side) (n : ℕ) (a b : Child) → child_on side (dirty_row side n a b) ≡ a
near_child Left n a b = refl
near_child Right n a b = refl

pub far_child : (side : Side) (n : ℕ) (a b : Child) → child_on (other side) (dirty_row side n a b) ≡ b
far_child Left n a b = refl
far_child Right n a b = refl

pub row_number : (side : Side) (n : ℕ) (a b : Child) → (dirty_row side n a b).node ≡ n
row_number Left n a b = refl
row_number Right n a b = refl

pub back_again : (side back : Side) → back ≡ other side → other back ≡ side
back_again Left back e = ap other e
back_again Right back e = ap other e

-- what a double turn leaves
abbrev pub Leaves : Grown → List DirtyRow → List DirtyRow → Plan → Type 0
Leaves r dirty before p = IsPending r p × (dirty ≡ before ++ rows_below_root p)

pub double_own : (side second third : Side) (n m q x y : ℕ) (near : Plan) (b f far : Tree) (before dirty : List DirtyRow) → same_side second side ≡ false → same_side third side ≡ true
    → x ≡ 1 + max (height (tree_of_plan near)) (height f) → y ≡ 1 + max (height b) (height far)
    → dirty ≡ ((before ++ rows near) ++ dirty_row (other side) n (name (tree_of_plan near)) (name f) ∷ []) ++ dirty_row side m (name b) (name far) ∷ []
    → Leaves (record { node = q; side = side; near = Inner n; far = Inner m; near_height = x; far_height = y; way = Turned }) dirty before (plan_turned side m second n third q near b f far)
double_own Left second third n m q x y near b f far before dirty e1 e2 hx hy l =
    rw (e1, e2) (grind (arith, hx, hy), l ∙ simp append_assoc)
double_own Right second third n m q x y near b f far before dirty e1 e2 hx hy l =
    rw (e1, e2) (grind (arith, hx, hy), l ∙ simp append_assoc)

pub double_other : (side second third : Side) (n m q x y : ℕ) (near : Plan) (b f far : Tree) (before dirty : List DirtyRow) → same_side second side ≡ false → same_side third side ≡ false
    → x ≡ 1 + max (height (tree_of_plan near)) (height far) → y ≡ 1 + max (height b) (height f)
    → dirty ≡ ((before ++ rows near) ++ dirty_row side m (name (tree_of_plan near)) (name far) ∷ []) ++ dirty_row (other side) n (name b) (name f) ∷ []
    → Leaves (record { node = q; side = other side; near = Inner m; far = Inner n; near_height = x; far_height = y; way = Turned }) dirty before (plan_turned side m second n third q near b f far)
double_other Left second third n m q x y near b f far before dirty e1 e2 hx hy l =
    rw (e1, e2) (grind (arith, hx, hy), l ∙ simp append_assoc)
double_other Right second third n m q x y near b f far before dirty e1 e2 hx hy l =
    rw (e1, e2) (grind (arith, hx, hy), l ∙ simp append_assoc)

-- what the code knows before it makes a double turn
pub record Popped (g : Grown) (third : Side) (dirty shorter : List DirtyRow) (q : DirtyRow) (near b : Child) : Type 0 where
  pub popped : dirty ≡ shorter ++ q ∷ []
  pub near_is : near ≡ child_on third q
  pub b_is : b ≡ child_on (other third) q

record Known {g : Grown} {p : Plan} {third : Side} {x y : ℕ} (two : TwoSteps g p third x y) (before shorter : List DirtyRow) (q : DirtyRow) (near b : Child) : Type 0 where
  shorter_is : shorter ≡ before ++ rows two.near
  node_is : q.node ≡ two.q
  near_is : near ≡ name (tree_of_plan two.near)
  b_is : b ≡ name two.b

known : {g : Grown} {p : Plan} {third : Side} {x y : ℕ} (two : TwoSteps g p third x y) (before dirty shorter : List DirtyRow) (q : DirtyRow) (near b : Child) → dirty ≡ before ++ rows_below_root p → Popped g third dirty shorter q near b → Known two before shorter q near b
known {third = third} two before dirty shorter q near b l o =
    let un = unlisted dirty q shorter before two.second two.second third two.n two.q two.near two.b two.f (l ∙ ap (λ v. before ++ rows_below_root v) two.is) o.popped in
    record {
      shorter_is = un.0;
      node_is = ap (λ (r : DirtyRow). r.node) un.1 ∙ row_number third two.q _ _;
      near_is = o.near_is ∙ (ap (child_on third) un.1 ∙ near_child third two.q _ _);
      b_is = o.b_is ∙ (ap (child_on (other third)) un.1 ∙ far_child third two.q _ _);
    }

pub own_turn : (g : Grown) (p : Plan) (side : Side) (m : ℕ) (third : Side) (hn hf : ℕ) (before dirty shorter one two : List DirtyRow) (far : Child) (far_height : ℕ) (f : Tree) (q row1 row2 : DirtyRow) (back : Side) (near b : Child) (x y : ℕ)
    → TwoSteps g p third hn hf → IsLeaning g dirty far far_height p before f → same_side g.side side ≡ false → same_side third side ≡ true
    → Popped g third dirty shorter q near b → back ≡ other side
    → row1 ≡ dirty_row back g.node near g.far → one ≡ shorter ++ row1 ∷ [] → row2 ≡ dirty_row side m b far → two ≡ one ++ row2 ∷ []
    → x ≡ 1 + max hn g.far_height → y ≡ 1 + max hf far_height
    → Leaves (record { node = q.node; side = side; near = Inner g.node; far = Inner m; near_height = x; far_height = y; way = Turned }) two before (turned_plan side m p f)
own_turn g p side m third hn hf before dirty shorter one two far far_height f q row1 row2 back near b x y t l e1 e2 o eb r1 l1 r2 l2 hx hy =
    let k = known t before dirty shorter q near b l.listed o in
    let first : row1 ≡ dirty_row (other side) t.n (name (tree_of_plan t.near)) (name t.f) = r1 ∙ cc (eb, t.node_is, k.near_is, t.far_is) in
    let last : row2 ≡ dirty_row side m (name t.b) (name f) = r2 ∙ cc (k.b_is, l.named) in
    let list : two ≡ ((before ++ rows t.near) ++ dirty_row (other side) t.n (name (tree_of_plan t.near)) (name t.f) ∷ []) ++ dirty_row side m (name t.b) (name f) ∷ [] = cc (l2, l1, k.shorter_is, first, last) in
    let own : same_side t.second side ≡ false = ap (λ s. same_side s side) (sym t.side_is) ∙ e1 in
    let hx2 : x ≡ 1 + max (height (tree_of_plan t.near)) (height t.f) = hx ∙ cc (t.near_high, t.second_high) in
    let hy2 : y ≡ 1 + max (height t.b) (height f) = hy ∙ cc (t.far_high, l.high) in
    rw (t.is, k.node_is, t.node_is) (double_own side t.second third t.n m t.q x y t.near t.b t.f f before two own e2 hx2 hy2 list)

pub other_turn : (g : Grown) (p : Plan) (side : Side) (m : ℕ) (third : Side) (hn hf : ℕ) (before dirty shorter one two : List DirtyRow) (far : Child) (far_height : ℕ) (f : Tree) (q row1 row2 : DirtyRow) (back : Side) (near b : Child) (x y : ℕ)
    → TwoSteps g p third hn hf → IsLeaning g dirty far far_height p before f → same_side g.side side ≡ false → same_side third side ≡ false
    → Popped g third dirty shorter q near b → back ≡ other side
    → row1 ≡ dirty_row side m near far → one ≡ shorter ++ row1 ∷ [] → row2 ≡ dirty_row back g.node b g.far → two ≡ one ++ row2 ∷ []
    → x ≡ 1 + max hn far_height → y ≡ 1 + max hf g.far_height
    → Leaves (record { node = q.node; side = back; near = Inner m; far = Inner g.node; near_height = x; far_height = y; way = Turned }) two before (turned_plan side m p f)
other_turn g p side m third hn hf before dirty shorter one two far far_height f q row1 row2 back near b x y t l e1 e2 o eb r1 l1 r2 l2 hx hy =
    let k = known t before dirty shorter q near b l.listed o in
    let first : row1 ≡ dirty_row side m (name (tree_of_plan t.near)) (name f) = r1 ∙ cc (k.near_is, l.named) in
    let last : row2 ≡ dirty_row (other side) t.n (name t.b) (name t.f) = r2 ∙ cc (eb, t.node_is, k.b_is, t.far_is) in
    let list : two ≡ ((before ++ rows t.near) ++ dirty_row side m (name (tree_of_plan t.near)) (name f) ∷ []) ++ dirty_row (other side) t.n (name t.b) (name t.f) ∷ [] = cc (l2, l1, k.shorter_is, first, last) in
    let own : same_side t.second side ≡ false = ap (λ s. same_side s side) (sym t.side_is) ∙ e1 in
    let hx2 : x ≡ 1 + max (height (tree_of_plan t.near)) (height f) = hx ∙ cc (t.near_high, l.high) in
    let hy2 : y ≡ 1 + max (height t.b) (height t.f) = hy ∙ cc (t.far_high, t.second_high) in
    rw (t.is, k.node_is, t.node_is, eb) (double_other side t.second third t.n m t.q x y t.near t.b t.f f before two own e2 hx2 hy2 list)

pub leaned_turned : (side : Side) (m : ℕ) (p : Plan) (f : Tree) → nat_le (height (tree_of_plan p)) (height f + 1) ≡ false → plan_leaned side m p f ≡ turned_plan side m p f
leaned_turned side m p f e = rw e refl

pub leaned_over : (side : Side) (m : ℕ) (p : Plan) (f : Tree) → nat_le (height (tree_of_plan p)) (height f + 1) ≡ true → plan_leaned side m p f ≡ over side m p f
leaned_over side m p f e = rw e refl

pub height_pending : (g : Grown) (p : Plan) → IsPending g p → height (tree_of_plan p) ≡ 1 + max g.near_height g.far_height
height_pending g (kept t) e = absurd e
height_pending g (made side n near far) e = height_inner_on side n (tree_of_plan near) (tree_of_plan far) ∙ cc (ap (λ (h : Grown). h.near_height) e, ap (λ (h : Grown). h.far_height) e)

pub name_pending : (g : Grown) (p : Plan) → IsPending g p → name (tree_of_plan p) ≡ Inner g.node
name_pending g (kept t) e = absurd e
name_pending g (made side n near far) e = name_inner_on side n (tree_of_plan near) (tree_of_plan far) ∙ ap Inner (sym (ap (λ (h : Grown). h.node) e))

pub rows_pending : (g : Grown) (p : Plan) → IsPending g p → rows p ≡ rows_below_root p ++ dirty_row g.side g.node g.near g.far ∷ []
rows_pending g (kept t) e = absurd e
rows_pending g (made side n near far) e =
    let same : dirty_row g.side g.node g.near g.far ≡ dirty_row side n (name (tree_of_plan near)) (name (tree_of_plan far)) = ap (λ (h : Grown). dirty_row h.side h.node h.near h.far) e in
    rw same refl

pub way_over_turned : (g : Grown) (p : Plan) → IsPending g p → g.way ≡ Turned → way_through p ≡ Once
way_over_turned g (kept t) e w = absurd e
way_over_turned g (made s n near (made s2 n2 a b)) e w = refl
way_over_turned g (made s n (kept t) (kept f)) e w =
    let ways : Turned ≡ Once = sym w ∙ ap (λ (h : Grown). h.way) e in cc (ways)
way_over_turned g (made s n (made s2 n2 a (kept b)) (kept f)) e w =
    let ways : Turned ≡ Twice s2 (height (tree_of_plan a)) (height b) = sym w ∙ ap (λ (h : Grown). h.way) e in cc (ways)
way_over_turned g (made s n (made s2 n2 a (made s3 n3 c d)) (kept f)) e w =
    let ways : Turned ≡ Once = sym w ∙ ap (λ (h : Grown). h.way) e in cc (ways)

pub way_over : (g : Grown) (p : Plan) → IsPending g p → (g.way ≡ Turned → ⊥) → way_through p ≡ Twice g.side g.near_height g.far_height
way_over g (kept t) e w = absurd e
way_over g (made s n near (made s2 n2 a b)) e w = absurd (w (ap (λ (h : Grown). h.way) e))
way_over g (made s n near (kept f)) e w = cc (ap (λ (h : Grown). h.side) e, ap (λ (h : Grown). h.near_height) e, ap (λ (h : Grown). h.far_height) e)

-- a node set above a part
pub set_over : (g : Grown) (side : Side) (m : ℕ) (p : Plan) (before dirty after : List DirtyRow) (far : Child) (far_height : ℕ) (f : Tree) (row : DirtyRow) (x : ℕ) (way : Way)
    → IsLeaning g dirty far far_height p before f → row ≡ dirty_row g.side g.node g.near g.far → after ≡ dirty ++ row ∷ [] → x ≡ 1 + max g.near_height g.far_height → way ≡ way_through p
    → Leaves (record { node = m; side = side; near = Inner g.node; far = far; near_height = x; far_height = far_height; way = way }) after before (over side m p f)
set_over g side m p before dirty after far far_height f row x way l r a hx w =
    let list : after ≡ before ++ (rows p ++ []) = a ∙ (cc (l.listed, r) ∙ (append_assoc before (rows_below_root p) _ ∙ (ap (λ v. before ++ v) (sym (rows_pending g p l.pending)) ∙ simp append-nil))) in
    (cc (name_pending g p l.pending, height_pending g p l.pending, hx, w, l.named, l.high), list)

either : (b : Bool) (x : Plan) → cond b x x ≡ x
either true x = refl
either false x = refl

pub leaned_is_over : (g : Grown) (side : Side) (m : ℕ) (p : Plan) (f : Tree) → IsPending g p → (height (tree_of_plan p) ≤ height f + 1) ⊎ ((third : Side) (x y : ℕ) → g.way ≡ Twice third x y → ⊥) → plan_leaned side m p f ≡ over side m p f
leaned_is_over g side m p f e (inl low) = leaned_over side m p f (le-leb _ _ low)
leaned_is_over g side m p f e (inr never) = rw (not_turned g side m p f e never) (either (nat_le (height (tree_of_plan p)) (height f + 1)) (over side m p f))
