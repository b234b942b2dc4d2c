use Rattle.std.proofs.Common.{◌∙◌, set, ap, sym, subst, arith}
use Rattle.std.proofs.lemmas.Grind.{common_steps}
use Rattle.tally_tree.specs.Docs.{doc_view}
use Rattle.tally_tree.specs.Trees.{IsLeafIn, IsTreeOf, leaf_tallies}
use Rattle.tally_tree.proofs.DocTrees.{AreNext, block_place, next_tree, put_next, put_placed, tree_kept, tree_seen}
use Rattle.tally_tree.proofs.doc.TallyDoc.put.Goals as goal
use Rattle.knit_base.specs.declared.setting.Setting.{Setting}
use Rattle.value_tree.specs.Kept.{IsReplaceNeed}
use Rattle.tally_tree.specs.Leaves.{room_of_tally, room_of_both_tallies, tally_at}
use Rattle.tally_tree.specs.Tallies.{counts_of_tally}
use Rattle.tally_tree.proofs.doc.TallyDoc.put.Given.{Over}
use Rattle.tally_tree.proofs.doc.TallyDoc.put.Goals.{After-reserve, In_ok-follow}

pub unreachable-requires : goal.unreachable-requires
unreachable-requires g c = put_placed c.self.inside.outline c.args.self.now c.args.entry.now c.self.view_is c.requires.comes c.args.block c.requires.put.0 c.args.text.now c.requires.put.1 (sym c.place.ensures ∙ c.in_default.is)

pub need_replace-need-requires-clause-place : goal.need_replace-need-requires-clause-place
need_replace-need-requires-clause-place g c = block_place (doc_view c.self.inside.outline) c.self.inside.tree.shape c.self.inside.tree.store.leaves.items c.self.inside.tree.store.nodes.items c.self.invariant c.args.block c.in-Some.at (sym c.place.ensures ∙ c.in-Some.is)

reserved : (g : Over) (c : After-reserve g) → IsTreeOf (doc_view c.self.inside.outline) c.reserve.new.self.shape c.reserve.new.self.store.leaves.items c.reserve.new.self.store.nodes.items
reserved g c = tree_kept (doc_view c.self.inside.outline) c.self.inside.tree.shape c.reserve.new.self.shape c.self.inside.tree.store.leaves.items c.self.inside.tree.store.nodes.items c.reserve.new.self.store.leaves.items c.reserve.new.self.store.nodes.items
    c.self.invariant c.reserve.ensures.kept (ap (λ s. s.tree) c.reserve.ensures.shape) c.reserve.ensures.leaves

pub invariant_of-self : goal.invariant_of-self
invariant_of-self g c = reserved g (goal.at.invariant_of-self g c).After-reserve

pub invariant_of-self-in_err-follow : goal.invariant_of-self-in_err-follow
invariant_of-self-in_err-follow g c = tree_seen c.self.inside.outline c.follow.new.self c.reserve.new.self.shape c.reserve.new.self.store.leaves.items c.reserve.new.self.store.nodes.items (reserved g (goal.at.invariant_of-self-in_err-follow g c).After-reserve) c.follow.ensures.opening c.in_err-follow.ensures.err

next : (g : Over) (c : In_ok-follow g) → IsTreeOf (doc_view c.self.inside.outline) c.reserve.new.self.shape c.reserve.new.self.store.leaves.items c.reserve.new.self.store.nodes.items → AreNext c.follow.new.self (set (leaf_tallies c.reserve.new.self.shape c.reserve.new.self.store.leaves.items) c.in-Some.at (counts_of_tally c.in_ok-tally.tally))
next g c tree = put_next c.self.inside.outline c.follow.new.self c.in_ok-try_clone.field-0 c.follow.ensures.opening c.in_ok-follow.ensures.ok c.follow.ensures.lawful c.reserve.new.self.shape c.reserve.new.self.store.leaves.items c.reserve.new.self.store.nodes.items tree c.args.block c.requires.put.0 c.in-Some.at c.args.text.now (counts_of_tally c.in_ok-tally.tally)
    (ap (λ e. e.edit) c.in_ok-try_clone.ensures ∙ c.requires.put.1) (sym c.place.ensures ∙ c.in-Some.is)
    (subst (λ (s : Setting). IsLeafIn s (counts_of_tally c.in_ok-tally.tally) c.args.text.now) c.setting.ensures.setting (record { tally = c.in_ok-tally.ensures.tally; on_beds = c.in_ok-tally.ensures.on_beds }))

pub replace-requires-clause-place : goal.replace-requires-clause-place
replace-requires-clause-place g c = block_place (doc_view c.self.inside.outline) c.reserve.new.self.shape c.reserve.new.self.store.leaves.items c.reserve.new.self.store.nodes.items (reserved g (goal.at.replace-requires-clause-place g c).After-reserve) c.args.block c.in-Some.at (sym c.place.ensures ∙ c.in-Some.is)

pub replace-requires-clause-sound : goal.replace-requires-clause-sound
replace-requires-clause-sound g c = let at = goal.at.replace-requires-clause-sound g c in (next g at.In_ok-follow (reserved g at.After-reserve)).sound

pub replace-requires-clause-need : goal.replace-requires-clause-need
replace-requires-clause-need g c = (
  c.need_replace-need.result,
  c.in_ok-reserve.ensures.met,
  c.reserve.ensures.needs.replace c.in-Some.at (room_of_tally (counts_of_tally c.in_ok-tally.tally)) c.need_replace-need.result
      (subst (λ r. IsReplaceNeed room_of_tally room_of_both_tallies (tally_at c.self.inside.tree.store.leaves.items) (tally_at c.self.inside.tree.store.nodes.items) c.self.inside.tree.shape c.in-Some.at r c.need_replace-need.result) (grind (arith, common_steps)) c.need_replace-need.ensures.need),
)

pub invariant_of-self-2 : goal.invariant_of-self-2
invariant_of-self-2 g c =
    let at = goal.at.invariant_of-self-2 g c in
    next_tree c.follow.new.self _ c.replace.new.self.shape c.replace.new.self.store.leaves.items c.replace.new.self.store.nodes.items (next g at.In_ok-follow (reserved g at.After-reserve)) c.follow.ensures.lawful c.replace.ensures.kept c.replace.ensures.leaves
