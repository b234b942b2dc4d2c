use Rattle.std.proofs.Common.{◌≡◌, ℕ, List, Some, sym, ◌∙◌, ap, arith}
use Rattle.tree_shape.specs.declared.node.Child.{Child}
use Rattle.tree_shape.specs.declared.node.Child.TheVariants.{Inner}
use Rattle.tree_shape.specs.declared.node.Node.{Node}
use Rattle.std.specs.List.{slice_get}
use Rattle.tree_shape.specs.Tree.{Tree, inner, name, node_of_parts}
use Rattle.tree_shape.specs.Parents.{ParentsView, parents_of, parent_in}
use Rattle.tree_shape.proofs.Climbs.{climb_below_root, up_left, up_right, up_few, climb_stays_at_root}
use Rattle.tree_shape.proofs.climbing.step_up.Goals as goal

number_is : (v : ParentsView) (child : Child) (a n : ℕ) → parent_in v child ≡ Some a → parent_in v child ≡ Some n → a ≡ n
number_is v child a n e f = let both : Some a ≡ Some n = sym e ∙ f in cc

node_is : (nodes : List Node) (k n : ℕ) (node : Node) (l r : Tree) → slice_get nodes k ≡ Some node → k ≡ n → slice_get nodes n ≡ Some (node_of_parts l r) → node ≡ node_of_parts l r
node_is nodes k n node l r e same f = let both : Some node ≡ Some (node_of_parts l r) = sym e ∙ (ap (slice_get nodes) same ∙ f) in cc

pub returns-then-is_same : goal.returns-then-is_same
returns-then-is_same c = λ whole number done w k. climb_stays_at_root c.args.nodes.now (parents_of c.args.parents.now) c.args.root whole number done c.args.climb w k (c.is_same.ensures.same c.if-is_same.true)

pub of-above-requires : goal.of-above-requires
of-above-requires c = (climb_below_root c.args.nodes.now (parents_of c.args.parents.now) c.args.root c.requires.0 c.requires.1 c.requires.2 c.args.climb c.requires.3 c.requires.4 (c.is_same.ensures.other c.if-is_same.false)).placed

pub row-node-requires : goal.row-node-requires
row-node-requires c =
    let v = parents_of c.args.parents.now in
    let u = climb_below_root c.args.nodes.now v c.args.root c.requires.0 c.requires.1 c.requires.2 c.args.climb c.requires.3 c.requires.4 (c.is_same.ensures.other c.if-is_same.false) in
    (inner u.below.n u.below.left u.below.right, ap (λ n. Inner n) (number_is v c.args.climb.child c.of-above.result u.below.n c.of-above.ensures u.above), u.stands)

pub leaves_of-requires : goal.leaves_of-requires
leaves_of-requires c =
    let v = parents_of c.args.parents.now in
    let u = climb_below_root c.args.nodes.now v c.args.root c.requires.0 c.requires.1 c.requires.2 c.args.climb c.requires.3 c.requires.4 (c.is_same.ensures.other c.if-is_same.false) in
    let number = number_is v c.args.climb.child c.of-above.result u.below.n c.of-above.ensures u.above in
    let node = node_is c.args.nodes.now c.of-above.result u.below.n c.row-node.result u.below.left u.below.right c.row-node.ensures number u.stands.0 in
    (u.below.left, ap (λ (n : Node). n.left) node, u.stands.1)

pub overflow_add-result : goal.overflow_add-result
overflow_add-result c =
    let v = parents_of c.args.parents.now in
    let u = climb_below_root c.args.nodes.now v c.args.root c.requires.0 c.requires.1 c.requires.2 c.args.climb c.requires.3 c.requires.4 (c.is_same.ensures.other c.if-is_same.false) in
    let number = number_is v c.args.climb.child c.of-above.result u.below.n c.of-above.ensures u.above in
    let node = node_is c.args.nodes.now c.of-above.result u.below.n c.row-node.result u.below.left u.below.right c.row-node.ensures number u.stands.0 in
    let same : name u.below.right ≡ c.args.climb.child = sym (ap (λ (n : Node). n.right) node) ∙ c.is_same-2.ensures.same c.if-is_same-2.true in
    omega (arith, up_few c.args.nodes.now v c.requires.0 c.requires.1 c.requires.2 c.args.climb u same, c.leaves_of.ensures u.below.left (ap (λ (n : Node). n.left) node) u.stands.1)

pub returns-then-is_same-2 : goal.returns-then-is_same-2
returns-then-is_same-2 c = λ whole number done w k.
    let v = parents_of c.args.parents.now in
    let u = climb_below_root c.args.nodes.now v c.args.root whole number done c.args.climb w k (c.is_same.ensures.other c.if-is_same.false) in
    let above = number_is v c.args.climb.child c.of-above.result u.below.n c.of-above.ensures u.above in
    let node = node_is c.args.nodes.now c.of-above.result u.below.n c.row-node.result u.below.left u.below.right c.row-node.ensures above u.stands.0 in
    let same : name u.below.right ≡ c.args.climb.child = sym (ap (λ (n : Node). n.right) node) ∙ c.is_same-2.ensures.same c.if-is_same-2.true in
    up_right c.args.nodes.now v whole number done c.of-above.result c.leaves_of.result c.args.climb u above same (c.leaves_of.ensures u.below.left (ap (λ (n : Node). n.left) node) u.stands.1)

pub returns : goal.returns
returns c = λ whole number done w k.
    let v = parents_of c.args.parents.now in
    let u = climb_below_root c.args.nodes.now v c.args.root whole number done c.args.climb w k (c.is_same.ensures.other c.if-is_same.false) in
    let above = number_is v c.args.climb.child c.of-above.result u.below.n c.of-above.ensures u.above in
    let node = node_is c.args.nodes.now c.of-above.result u.below.n c.row-node.result u.below.left u.below.right c.row-node.ensures above u.stands.0 in
    up_left c.args.nodes.now v whole number done c.of-above.result c.args.climb u above (λ e. c.is_same-2.ensures.other c.if-is_same-2.false (ap (λ (n : Node). n.right) node ∙ e))
