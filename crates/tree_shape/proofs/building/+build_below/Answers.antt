use Rattle.std.proofs.Common.{◌≡◌, ℕ, ◌+◌, ◌-◌, ◌/◌, ◌∷◌, [], ◌++◌, length, max, sym, ◌∙◌, ap, subst, arith}
use Rattle.std.proofs.lemmas.Grind.{common_steps}
use Rattle.tree_shape.specs.declared.node.Node.{Node}
use Rattle.tree_shape.specs.declared.node.Child.{Child}
use Rattle.tree_shape.specs.declared.node.Child.TheVariants.{Leaf, Inner}
use Rattle.tree_shape.specs.Tree.{Tree, leaf, inner, name, height, count, node_of_parts, NodesStand}
use Rattle.tree_shape.specs.Building.{IsBuiltFrom}
use Rattle.tree_shape.proofs.Halves.{one_leaf, built_both, stands_before}
use Rattle.tree_shape.proofs.Heights.{at_most_22}
use Rattle.tree_shape.proofs.building.+build_below.Goals as goal

pub returns-then-many-eq1-clause-built : goal.returns-then-many-eq1-clause-built
returns-then-many-eq1-clause-built t c = (leaf c.args.first, subst (λ n. IsBuiltFrom c.args.nodes.now.items c.args.nodes.now.items c.args.first n (Leaf c.args.first) (leaf c.args.first)) (sym c.if-many-eq1.true) (one_leaf c.args.nodes.now.items c.args.first))

pub build_below-right-requires : goal.build_below-right-requires
build_below-right-requires t c = (
  omega (arith, c.decreases, c.requires.some, c.if-many-eq1.false),
  (
    omega (arith, c.requires.some),
    (
      omega (arith, c.requires.few),
      (omega (arith, c.build_below-left.ensures.len, c.requires.nodes, c.requires.some), omega (arith, c.build_below-left.ensures.len, c.build_below-left.ensures.room, c.requires.room)),
    ),
  ),
)

pub height_of-requires : goal.height_of-requires
height_of-requires t c =
    let l = c.build_below-left.ensures.built in
    let r = c.build_below-right.ensures.built in
    let nodes : c.as_slice.result.now ≡ c.build_below-right.new.nodes.items = c.as_slice.ensures.value in
    (l.0, l.1.named, subst (λ v. NodesStand v l.0) (sym (nodes ∙ r.1.behind.1)) (stands_before c.build_below-left.new.nodes.items r.1.behind.0 l.0 l.1.stands))

pub above-height-requires-clause-first : goal.above-height-requires-clause-first
above-height-requires-clause-first t c =
    let l = c.build_below-left.ensures.built in
    let r = c.build_below-right.ensures.built in
    let stands = subst (λ v. NodesStand v l.0) (sym (c.as_slice.ensures.value ∙ r.1.behind.1)) (stands_before c.build_below-left.new.nodes.items r.1.behind.0 l.0 l.1.stands) in
    omega (arith, c.height_of.ensures l.0 l.1.named stands, at_most_22 l.0 l.1.balanced (omega (arith, l.1.counted, c.requires.few)))

row_is : (left right : Child) (high many : ℕ) (l r : Tree) → left ≡ name l → right ≡ name r → high ≡ 1 + max (height l) (height r) → many ≡ count l + count r → record { left = left; right = right; height = high; leaves = many } ≡ node_of_parts l r
row_is left right high many l r a b h m = ap (λ v. record { left = v; right = right; height = high; leaves = many }) a ∙ (ap (λ v. record { left = name l; right = v; height = high; leaves = many }) b ∙ (ap (λ v. record { left = name l; right = name r; height = v; leaves = many }) h ∙ ap (λ v. record { left = name l; right = name r; height = 1 + max (height l) (height r); leaves = v }) m))

pub returns-clause-built : goal.returns-clause-built
returns-clause-built t c =
    let l = c.build_below-left.ensures.built in
    let r = c.build_below-right.ensures.built in
    let half : ℕ = c.args.many / 2 in
    let other : ℕ = c.args.many - half in
    let old = c.args.nodes.now.items in
    let middle = c.build_below-left.new.nodes.items in
    let new = c.build_below-right.new.nodes.items in
    let stands = subst (λ v. NodesStand v l.0) (sym (c.as_slice.ensures.value ∙ r.1.behind.1)) (stands_before middle r.1.behind.0 l.0 l.1.stands) in
    let stands_right = subst (λ v. NodesStand v r.0) (sym c.as_slice-2.ensures.value) r.1.stands in
    let high : c.above-height.result ≡ 1 + max (height l.0) (height r.0) = omega (arith, c.above-height.ensures, c.height_of.ensures l.0 l.1.named stands, c.height_of-2.ensures r.0 r.1.named stands_right) in
    let all : half + other ≡ c.args.many = omega arith in
    let node = row_is c.build_below-left.result c.build_below-right.result c.above-height.result c.args.many l.0 r.0 l.1.named r.1.named high (omega (arith, l.1.counted, r.1.counted)) in
    let long_left : length middle + 1 ≡ length old + half = grind (arith, common_steps) in
    let long_right : length new + 1 ≡ length middle + other = grind (arith, common_steps) in
    let number : length new ≡ c.len-number.result = grind (arith, common_steps) in
    let whole = built_both old middle new c.args.first half other c.build_below-left.result c.build_below-right.result l.0 r.0 (record { left = c.build_below-left.result; right = c.build_below-right.result; height = c.above-height.result; leaves = c.args.many })
    (omega (arith, c.requires.some, c.if-many-eq1.false)) (omega arith) (omega arith) l.1 r.1 long_right long_left node in
    let node_at : Node = record { left = c.build_below-left.result; right = c.build_below-right.result; height = c.above-height.result; leaves = c.args.many } in
    let many = subst (λ n. IsBuiltFrom old (new ++ node_at ∷ []) c.args.first n (Inner (length new)) (inner (length new) l.0 r.0)) all whole in
    let named = subst (λ n. IsBuiltFrom old (new ++ node_at ∷ []) c.args.first c.args.many (Inner n) (inner (length new) l.0 r.0)) number many in
    (inner (length new) l.0 r.0, subst (λ ns. IsBuiltFrom old ns c.args.first c.args.many (Inner c.len-number.result) (inner (length new) l.0 r.0)) (sym c.push_reserved.ensures.items) named)
