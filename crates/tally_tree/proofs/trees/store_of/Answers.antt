use Rattle.std.proofs.Common.{◌≡◌, ◌∙◌, ◌+◌, ◌++◌, ◌∷◌, [], List, Option, Some, length, take, ap, sym, subst, refl, arith}
use Rattle.std.specs.List.{AllZip}
use Rattle.std.proofs.lemmas.List.{length-append, take_more}
use Rattle.knitout_reader.proofs.BodyReadings.{zip-append}
use Rattle.tally_tree.specs.declared.tally.Tally.{Tally}
use Rattle.tally_tree.specs.Trees.{HasLeaf}
use Rattle.tally_tree.proofs.trees.store_of.Goals as goal

pub loop-text-preserved : goal.loop-text-preserved
loop-text-preserved g c =
    let setting = c.args.setting.now in
    let had = c.loop-text.store.leaves.items in
    let tally = c.in_ok-tally_of.field-0 in
    let next : take (c.loop-text.text-index + 1) c.args.texts.now ≡ take c.loop-text.text-index c.args.texts.now ++ c.text-item.result ∷ [] =
    take_more c.args.texts.now c.loop-text.text-index c.text-item.result c.loop-text-test.true ∙ ap (λ text. take c.loop-text.text-index c.args.texts.now ++ text ∷ []) (sym c.text-item.is) in
    let more = zip-append (HasLeaf setting) had (Some tally ∷ []) (take c.loop-text.text-index c.args.texts.now) (c.text-item.result ∷ []) c.loop-text.invariant.0
    ((tally, refl, record { tally = c.in_ok-tally_of.ensures.tally; on_beds = c.in_ok-tally_of.ensures.on_beds }), tt) in (
      subst (λ (slots : List (Option Tally)). AllZip (HasLeaf setting) slots (take (c.loop-text.text-index + 1) c.args.texts.now)) (sym c.in_ok-push_leaf.ensures.leaves) (subst (AllZip (HasLeaf setting) (had ++ Some tally ∷ [])) (sym next) more),
      omega (arith, c.loop-text.invariant.1, c.in_ok-push_leaf.ensures.nodes, ap length c.in_ok-push_leaf.ensures.leaves, length-append had (Some tally ∷ [])),
    )
