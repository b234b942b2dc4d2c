use Rattle.std.proofs.Common.{◌∙◌, ◌≤◌, ℕ, List, length, sym, subst}
use Rattle.std.specs.Prelude.{flat_map}
use Rattle.std.specs.List.{AllZip}
use Rattle.std.proofs.lemmas.Result.{IfOk-weaker}
use Rattle.edit_journal.specs.Documents.{Block}
use Rattle.edit_book.specs.Outlines.{outline_document}
use Rattle.edit_book.specs.Replies.{line_limit}
use Rattle.tally_tree.specs.Tallies.{TallyCounts}
use Rattle.tally_tree.specs.Trees.{IsTallyIn}
use Rattle.tally_tree.proofs.DocTrees.{IsStoreOf, store_made}
use Rattle.tally_tree.proofs.trees.tree_of.Goals as goal
use Rattle.tally_tree.proofs.trees.tree_of.Goals.{After-len}
use Rattle.tally_tree.proofs.trees.tree_of.Given.{Over}

made : (g : Over) (c : After-len g) → IsStoreOf c.args.setting.now c.in_ok-store.store.leaves.items c.in_ok-store.store.nodes.items (outline_document c.args.outline.now).blocks c.len.result
made g c =
    store_made c.args.setting.now c.in_ok-store.store.leaves.items c.in_ok-store.store.nodes.items c.deref.result.now (outline_document c.args.outline.now).blocks c.len.result c.in_ok-store.ensures.leaves c.in_ok-store.ensures.nodes
    (c.deref.ensures.value ∙ c.in_ok-texts.ensures.texts) c.len.ensures c.len-carriers.ensures.few (subst (λ (ts : List (List (List ℕ))). length (flat_map (λ (text : List (List ℕ)). text) ts) ≤ line_limit) (sym c.deref.ensures.value) c.in_ok-texts.ensures.lines)

pub build-requires-clause-places : goal.build-requires-clause-places
build-requires-clause-places g c = (made g (goal.at.build-requires-clause-places g c).After-len).places

pub build-requires-clause-there : goal.build-requires-clause-there
build-requires-clause-there g c = (made g (goal.at.build-requires-clause-there g c).After-len).there

pub build-requires-clause-sound : goal.build-requires-clause-sound
build-requires-clause-sound g c = (made g (goal.at.build-requires-clause-sound g c).After-len).sound

pub returns-clause-tallies : goal.returns-clause-tallies
returns-clause-tallies g c =
    IfOk-weaker c.build.result _ _
    (λ tree is.
    subst (λ (vs : List TallyCounts). AllZip (λ (v : TallyCounts) (b : Block). IsTallyIn c.args.setting.now v b.lines) vs (outline_document c.args.outline.now).blocks) (sym is) (made g (goal.at.returns-clause-tallies g c).After-len).tallies)
    c.build.ensures.leaves
