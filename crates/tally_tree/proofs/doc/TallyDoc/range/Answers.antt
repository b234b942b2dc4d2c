use Rattle.std.proofs.Common.{◌∙◌, ap, length, arith}
use Rattle.std.proofs.lemmas.Result.{IfOk-weaker}
use Rattle.knit_base.specs.declared.setting.Setting.{Setting}
use Rattle.tally_tree.specs.Tallies.{counts_of_tally}
use Rattle.tally_tree.proofs.DocRanges.{HasParts, has_parts, parts_cost, parts_seen, parts_told, some_range, tree_count, value_in}
use Rattle.tally_tree.proofs.doc.TallyDoc.range.Given.{Over}
use Rattle.tally_tree.proofs.doc.TallyDoc.range.Goals as goal
use Rattle.tally_tree.proofs.doc.TallyDoc.range.Goals.{In_ok-parts}

pub parts_between-requires-clause-place : goal.parts_between-requires-clause-place
parts_between-requires-clause-place g c = omega (arith, c.requires.there, tree_count _ _ _ c.self.inside.tree.store c.self.invariant c.self.view_is)

pub returns-in_err-parts-clause-steps : goal.returns-in_err-parts-clause-steps
returns-in_err-parts-clause-steps g c = some_range _ _ _ c.self.inside.tree.store c.self.invariant c.self.view_is _ _ _

-- the parts of the range
parts_now : (g : Over) (c : In_ok-parts g) → HasParts c.args.self.now c.args.from c.args.to (value_in c.self.inside.tree.store) c.in_ok-parts.parts.items c.from-carriers.result
parts_now g c =
    let names = c.from-carriers.ensures ∙ c.len.ensures.len ∙ ap (λ (s : Setting). length s.declared) c.setting.ensures in
    has_parts _ _ _ c.self.inside.tree.store c.self.invariant c.self.view_is _ _ _ _ names c.in_ok-parts.ensures.stand c.in_ok-parts.ensures.few

pub sum_of-requires-clause-stand : goal.sum_of-requires-clause-stand
sum_of-requires-clause-stand g c =
    let h = parts_seen _ _ _ _ _ _ _ _ (parts_now g (goal.at.sum_of-requires-clause-stand g c).In_ok-parts) c.store.ensures c.deref.ensures.value in
    (h.leaves, h.texts, h.stand, h.tallies, h.few_lines)

pub returns-clause-tally : goal.returns-clause-tally
returns-clause-tally g c =
    let h = parts_seen _ _ _ _ _ _ _ _ (parts_now g (goal.at.returns-clause-tally g c).In_ok-parts) c.store.ensures c.deref.ensures.value in
    IfOk-weaker _ _ _ (λ tally told. parts_told _ _ _ _ _ _ h (counts_of_tally tally) told) c.sum_of.ensures.tally

pub returns-clause-steps : goal.returns-clause-steps
returns-clause-steps g c =
    let h = parts_seen _ _ _ _ _ _ _ _ (parts_now g (goal.at.returns-clause-steps g c).In_ok-parts) c.store.ensures c.deref.ensures.value in
    parts_cost _ _ _ _ _ _ h _ _ c.sum_of.ensures.steps
