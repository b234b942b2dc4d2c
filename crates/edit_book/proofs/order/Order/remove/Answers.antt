use Rattle.std.proofs.Common.{◌≡◌, ℕ, ◌<◌, List, length, Option, ap, sym, subst, ◌∙◌, arith, remove}
use Rattle.tree_shape.specs.View.{leaf_count_of, leaves_of_tree}
use Rattle.edit_book.specs.Orders.{LeavesHaveIds, OrderView, number_at}
use Rattle.tree_shape.specs.Values.{values_of_numbers}
use Rattle.edit_book.proofs.Orders.{kept_count, leaves_once, removed_ids, removed_kept, removed_there, within_table}
use Rattle.tree_shape.proofs.Shapes.{length_tree}
use Rattle.edit_book.proofs.order.Order.remove.Goals as goal

pub overflow_cast-at : goal.overflow_cast-at
overflow_cast-at c = omega (arith, c.requires, ap (λ (v : OrderView). length v.ids) c.self.view_is, kept_count c.self.inside.shape.tree _ _ c.self.invariant, c.len-len.ensures.lawful.few)

pub remove-leaf-requires : goal.remove-leaf-requires
remove-leaf-requires c = omega (arith, c.requires, ap (λ (v : OrderView). length v.ids) c.self.view_is, kept_count c.self.inside.shape.tree _ _ c.self.invariant)

pub set-requires : goal.set-requires
set-requires c =
    let within : c.args.at < leaf_count_of c.self.inside.shape.tree = omega (arith, c.requires, ap (λ (v : OrderView). length v.ids) c.self.view_is, kept_count c.self.inside.shape.tree _ _ c.self.invariant) in
    let there = removed_there c.self.inside.shape.tree c.args.at c.remove-leaf.result _ _ c.self.invariant within c.remove-leaf.ensures.number in
    let told = ap (λ (l : List (Option ℕ)). number_at l c.remove-leaf.result) (sym c.as_slice.ensures.value) ∙ (sym c.found.ensures ∙ c.in-Some.is) in
    let same : there.0 ≡ c.in-Some.id = cc (there.1, told) in
    within_table c.self.inside.leaves.items c.in-Some.id c.remove-leaf.result (ap (number_at c.self.inside.leaves.items) (sym same) ∙ there.2)

pub invariant_of-self : goal.invariant_of-self
invariant_of-self c =
    let ns = leaves_of_tree c.self.inside.shape.tree in
    let within : c.args.at < leaf_count_of c.self.inside.shape.tree = omega (arith, c.requires, ap (λ (v : OrderView). length v.ids) c.self.view_is, kept_count c.self.inside.shape.tree _ _ c.self.invariant) in
    let told = ap (λ (l : List (Option ℕ)). number_at l c.remove-leaf.result) (sym c.as_slice.ensures.value) ∙ (sym c.found.ensures ∙ c.in-Some.is) in
    subst (λ (l : List ℕ). LeavesHaveIds l (number_at c.self.inside.ids.items) (number_at c.set.new.table.items)) (sym c.remove-leaf.ensures.leaves)
    (removed_kept ns c.args.at c.remove-leaf.result c.in-Some.id _ _ _ c.self.invariant (leaves_once c.self.inside.shape c.len-len.ensures.lawful) (omega (arith, within, length_tree c.self.inside.shape.tree)) c.remove-leaf.ensures.number told
    c.set.ensures.here c.set.ensures.others)

pub invariant_of-self-in_default : goal.invariant_of-self-in_default
invariant_of-self-in_default c =
    let within : c.args.at < leaf_count_of c.self.inside.shape.tree = omega (arith, c.requires, ap (λ (v : OrderView). length v.ids) c.self.view_is, kept_count c.self.inside.shape.tree _ _ c.self.invariant) in
    let there = removed_there c.self.inside.shape.tree c.args.at c.remove-leaf.result _ _ c.self.invariant within c.remove-leaf.ensures.number in
    let told = ap (λ (l : List (Option ℕ)). number_at l c.remove-leaf.result) (sym c.as_slice.ensures.value) ∙ (sym c.found.ensures ∙ c.in_default.is) in
    absurd (cc (there.1, told))

pub returns-in-Some : goal.returns-in-Some
returns-in-Some c =
    ap (values_of_numbers (number_at c.self.inside.ids.items)) c.remove-leaf.ensures.leaves
    ∙ (removed_ids (leaves_of_tree c.self.inside.shape.tree) c.args.at _ _ c.self.invariant ∙ ap (λ (v : OrderView). remove v.ids c.args.at) c.self.view_is)

pub returns-in_default : goal.returns-in_default
returns-in_default c =
    ap (values_of_numbers (number_at c.self.inside.ids.items)) c.remove-leaf.ensures.leaves
    ∙ (removed_ids (leaves_of_tree c.self.inside.shape.tree) c.args.at _ _ c.self.invariant ∙ ap (λ (v : OrderView). remove v.ids c.args.at) c.self.view_is)
