use Rattle.std.proofs.Common.{◌∙◌, ap, sym}
use Rattle.tally_tree.specs.Docs.{doc_view}
use Rattle.tally_tree.specs.Trees.{IsTreeOf, leaf_tallies}
use Rattle.tally_tree.proofs.DocTrees.{AreNext, block_place, cut_next, cut_placed, next_tree, tree_kept}
use Rattle.tally_tree.proofs.doc.TallyDoc.cut.Goals as goal
use Rattle.tree_shape.specs.Fewest.{list_removed}
use Rattle.tally_tree.proofs.doc.TallyDoc.cut.Given.{Over}
use Rattle.tally_tree.proofs.doc.TallyDoc.cut.Goals.{In_ok-follow, In_ok-reserve}

pub unreachable-requires : goal.unreachable-requires
unreachable-requires g c = cut_placed c.self.inside.outline c.args.self.now c.args.entry.now c.self.view_is c.requires.comes c.args.block c.requires.cut.0 c.requires.cut.1 (sym c.place.ensures ∙ c.in_default.is)

pub need_remove-need-requires-clause-place : goal.need_remove-need-requires-clause-place
need_remove-need-requires-clause-place g c = block_place (doc_view c.self.inside.outline) c.self.inside.tree.shape c.self.inside.tree.store.leaves.items c.self.inside.tree.store.nodes.items c.self.invariant c.args.block c.in-Some.at (sym c.place.ensures ∙ c.in-Some.is)

reserved : (g : Over) (c : In_ok-reserve g) → IsTreeOf (doc_view c.self.inside.outline) c.reserve.new.self.shape c.reserve.new.self.store.leaves.items c.reserve.new.self.store.nodes.items
reserved g c = tree_kept (doc_view c.self.inside.outline) c.self.inside.tree.shape c.reserve.new.self.shape c.self.inside.tree.store.leaves.items c.self.inside.tree.store.nodes.items c.reserve.new.self.store.leaves.items c.reserve.new.self.store.nodes.items
    c.self.invariant c.reserve.ensures.kept (ap (λ s. s.tree) c.reserve.ensures.shape) c.reserve.ensures.leaves

next : (g : Over) (c : In_ok-follow g) → IsTreeOf (doc_view c.self.inside.outline) c.reserve.new.self.shape c.reserve.new.self.store.leaves.items c.reserve.new.self.store.nodes.items → AreNext c.follow.new.self (list_removed c.in-Some.at (leaf_tallies c.reserve.new.self.shape c.reserve.new.self.store.leaves.items))
next g c tree = cut_next c.self.inside.outline c.follow.new.self c.in_ok-try_clone.field-0 c.follow.ensures.opening c.in_ok-follow.ensures.ok c.follow.ensures.lawful c.reserve.new.self.shape c.reserve.new.self.store.leaves.items c.reserve.new.self.store.nodes.items tree c.args.block c.requires.cut.0 c.in-Some.at
    (ap (λ e. e.edit) c.in_ok-try_clone.ensures ∙ c.requires.cut.1) (sym c.place.ensures ∙ c.in-Some.is)

pub remove-requires-clause-place : goal.remove-requires-clause-place
remove-requires-clause-place g c = block_place (doc_view c.self.inside.outline) c.reserve.new.self.shape c.reserve.new.self.store.leaves.items c.reserve.new.self.store.nodes.items (reserved g (goal.at.remove-requires-clause-place g c).In_ok-reserve) c.args.block c.in-Some.at (sym c.place.ensures ∙ c.in-Some.is)

pub remove-requires-clause-sound : goal.remove-requires-clause-sound
remove-requires-clause-sound g c = let at = goal.at.remove-requires-clause-sound g c in (next g at.In_ok-follow (reserved g at.In_ok-reserve)).sound

pub invariant_of-self-2 : goal.invariant_of-self-2
invariant_of-self-2 g c =
    let at = goal.at.invariant_of-self-2 g c in
    next_tree c.follow.new.self _ c.remove.new.self.shape c.remove.new.self.store.leaves.items c.remove.new.self.store.nodes.items (next g at.In_ok-follow (reserved g at.In_ok-reserve)) c.follow.ensures.lawful c.remove.ensures.kept c.remove.ensures.leaves
