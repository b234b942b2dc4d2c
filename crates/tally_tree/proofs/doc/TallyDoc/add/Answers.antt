use Rattle.std.proofs.Common.{◌∙◌, ◌<◌, ◌≤◌, length, ap, subst, arith}
use Rattle.std.specs.Prelude.{insert}
use Rattle.std.proofs.lemmas.Grind.{common_steps}
use Rattle.knit_base.specs.declared.setting.Setting.{Setting}
use Rattle.edit_journal.specs.Documents.{HasAnchor}
use Rattle.edit_book.specs.Outlines.{outline_document}
use Rattle.edit_book.specs.Replies.{block_limit}
use Rattle.edit_book.proofs.Adds.{place_within}
use Rattle.value_tree.specs.Kept.{IsInsertNeed}
use Rattle.tally_tree.specs.Docs.{doc_view}
use Rattle.tally_tree.specs.Leaves.{room_of_tally, room_of_both_tallies, tally_at}
use Rattle.tally_tree.specs.Tallies.{counts_of_tally}
use Rattle.tally_tree.specs.Trees.{IsLeafIn, IsTreeOf, leaf_tallies}
use Rattle.tally_tree.proofs.DocTrees.{AreNext, add_anchored, add_few, add_next, leaf_count, next_tree, tree_kept, tree_seen}
use Rattle.tally_tree.proofs.doc.TallyDoc.add.Given.{Over}
use Rattle.tally_tree.proofs.doc.TallyDoc.add.Goals as goal
use Rattle.tally_tree.proofs.doc.TallyDoc.add.Goals.{After-len, After-reserve_insert, In_ok-follow}

anchored : (g : Over) (c : After-len g) → HasAnchor (outline_document c.self.inside.outline) c.args.anchor
anchored g c = add_anchored c.self.inside.outline c.args.self.now c.args.entry.now c.self.view_is c.requires.comes c.requires.add.0 c.args.anchor c.args.text.now c.requires.add.1

few : (g : Over) (c : After-len g) → length (outline_document c.self.inside.outline).blocks < block_limit
few g c = add_few c.self.inside.outline c.args.self.now c.args.entry.now c.self.view_is c.requires.comes c.requires.add.0 c.args.anchor c.args.text.now c.requires.add.1

within : (g : Over) (c : After-len g) → c.place_after-at.result ≤ length (outline_document c.self.inside.outline).blocks
within g c = omega (arith, c.place_after-at.ensures.place, place_within (outline_document c.self.inside.outline) c.args.anchor (anchored g c))

pub need_insert-need-requires-clause-place : goal.need_insert-need-requires-clause-place
need_insert-need-requires-clause-place g c = omega (arith, within g (goal.at.need_insert-need-requires-clause-place g c).After-len, leaf_count (doc_view c.self.inside.outline) c.self.inside.tree.shape c.self.inside.tree.store.leaves.items c.self.inside.tree.store.nodes.items c.self.invariant)

pub need_insert-need-requires-clause-few : goal.need_insert-need-requires-clause-few
need_insert-need-requires-clause-few g c = omega (arith, few g (goal.at.need_insert-need-requires-clause-few g c).After-len, leaf_count (doc_view c.self.inside.outline) c.self.inside.tree.shape c.self.inside.tree.store.leaves.items c.self.inside.tree.store.nodes.items c.self.invariant)

reserved : (g : Over) (c : After-reserve_insert g) → IsTreeOf (doc_view c.self.inside.outline) c.reserve_insert.new.self.shape c.reserve_insert.new.self.store.leaves.items c.reserve_insert.new.self.store.nodes.items
reserved g c = tree_kept (doc_view c.self.inside.outline) c.self.inside.tree.shape c.reserve_insert.new.self.shape c.self.inside.tree.store.leaves.items c.self.inside.tree.store.nodes.items c.reserve_insert.new.self.store.leaves.items c.reserve_insert.new.self.store.nodes.items
    c.self.invariant c.reserve_insert.ensures.kept c.reserve_insert.ensures.shape.tree c.reserve_insert.ensures.leaves

pub invariant_of-self-in_err-follow : goal.invariant_of-self-in_err-follow
invariant_of-self-in_err-follow g c = tree_seen c.self.inside.outline c.follow.new.self c.reserve_insert.new.self.shape c.reserve_insert.new.self.store.leaves.items c.reserve_insert.new.self.store.nodes.items (reserved g (goal.at.invariant_of-self-in_err-follow g c).After-reserve_insert) c.follow.ensures.opening c.in_err-follow.ensures.err

next : (g : Over) (c : In_ok-follow g) → IsTreeOf (doc_view c.self.inside.outline) c.reserve_insert.new.self.shape c.reserve_insert.new.self.store.leaves.items c.reserve_insert.new.self.store.nodes.items → HasAnchor (outline_document c.self.inside.outline) c.args.anchor → AreNext c.follow.new.self (insert (leaf_tallies c.reserve_insert.new.self.shape c.reserve_insert.new.self.store.leaves.items) c.place_after-at.result (counts_of_tally c.in_ok-tally.tally))
next g c tree has = add_next c.self.inside.outline c.follow.new.self c.in_ok-try_clone.field-0 c.follow.ensures.opening c.in_ok-follow.ensures.ok c.follow.ensures.lawful c.reserve_insert.new.self.shape c.reserve_insert.new.self.store.leaves.items c.reserve_insert.new.self.store.nodes.items tree c.requires.add.0 c.place_after-at.result c.args.anchor c.args.text.now (counts_of_tally c.in_ok-tally.tally)
    (ap (λ e. e.edit) c.in_ok-try_clone.ensures ∙ c.requires.add.1) has c.place_after-at.ensures.place
    (subst (λ (s : Setting). IsLeafIn s (counts_of_tally c.in_ok-tally.tally) c.args.text.now) c.setting.ensures.setting (record { tally = c.in_ok-tally.ensures.tally; on_beds = c.in_ok-tally.ensures.on_beds }))

pub insert-requires-clause-place : goal.insert-requires-clause-place
insert-requires-clause-place g c = let at = goal.at.insert-requires-clause-place g c in omega (arith, within g at.After-len, leaf_count (doc_view c.self.inside.outline) c.reserve_insert.new.self.shape c.reserve_insert.new.self.store.leaves.items c.reserve_insert.new.self.store.nodes.items (reserved g at.After-reserve_insert))

pub insert-requires-clause-few : goal.insert-requires-clause-few
insert-requires-clause-few g c = let at = goal.at.insert-requires-clause-few g c in omega (arith, few g at.After-len, leaf_count (doc_view c.self.inside.outline) c.reserve_insert.new.self.shape c.reserve_insert.new.self.store.leaves.items c.reserve_insert.new.self.store.nodes.items (reserved g at.After-reserve_insert))

pub insert-requires-clause-sound : goal.insert-requires-clause-sound
insert-requires-clause-sound g c = let at = goal.at.insert-requires-clause-sound g c in (next g at.In_ok-follow (reserved g at.After-reserve_insert) (anchored g at.After-len)).sound

pub insert-requires-clause-need : goal.insert-requires-clause-need
insert-requires-clause-need g c = (
  c.need_insert-need.result,
  c.in_ok-reserve_insert.ensures.met,
  c.reserve_insert.ensures.needs.insert c.place_after-at.result (room_of_tally (counts_of_tally c.in_ok-tally.tally)) c.need_insert-need.result
      (subst (λ r. IsInsertNeed room_of_tally room_of_both_tallies (tally_at c.self.inside.tree.store.leaves.items) (tally_at c.self.inside.tree.store.nodes.items) c.self.inside.tree.shape c.place_after-at.result r c.need_insert-need.result) (grind (arith, common_steps)) c.need_insert-need.ensures.need),
)

pub invariant_of-self-2 : goal.invariant_of-self-2
invariant_of-self-2 g c =
    let at = goal.at.invariant_of-self-2 g c in
    next_tree c.follow.new.self _ c.insert.new.self.shape c.insert.new.self.store.leaves.items c.insert.new.self.store.nodes.items (next g at.In_ok-follow (reserved g at.After-reserve_insert) (anchored g at.After-len)) c.follow.ensures.lawful c.insert.ensures.kept c.insert.ensures.leaves
