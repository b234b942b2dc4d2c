use Rattle.std.proofs.lemmas.Grind.{common_steps}
use Rattle.std.proofs.Common.{arith, rules, ◌≡◌, [], ◌∷◌, ◌++◌, List, length, map, sym, ap, ◌∙◌, subst}
use Rattle.face_data.specs.declared.face.Cond.TheVariants.{SizeAtMost}
use Rattle.face_data.specs.Answers.ConditionAnswer.{asks}
use Rattle.face_data.specs.Composition.{answer_of_kept}
use Rattle.face_data.specs.Conditions.Ask.{size_at_most}
use Rattle.face_data.specs.Summaries.{AskedCondition}
use Rattle.face_data.specs.View.{asked_of_check}
use Rattle.block_summary.specs.NeedleChains.{AreAdded}
use Rattle.block_summary.specs.declared.chains.ConditionLink.{ConditionLink}
use Rattle.block_summary.proofs.FoundConditions.{last_named, size_found}
use Rattle.block_summary.proofs.KeptConditions.{size_kept}
use Rattle.block_summary.proofs.kept.KeptLineConditions.keep_size.Goals as goal

pub invariant_of-self-2 : goal.invariant_of-self-2
invariant_of-self-2 c =
    let inside = c.self.inside in
    let needles = c.args.needles.now in
    let begins : c.len.result ≡ length inside.names.items = grind (arith, common_steps) in
    let names : c.extend_from_slice.new.self.items ≡ inside.names.items ++ needles = search rules in
    let items : c.push_reserved.new.self.items ≡ inside.checks.items ++ record { fault = c.args.fault; cond = SizeAtMost (record { start = c.len.result; len = length needles }) c.args.most } ∷ [] = search rules in
    let silent : answer_of_kept (map (asked_of_check inside.names.items) inside.checks.items) (size_at_most needles c.args.most) ≡ asks (size_at_most needles c.args.most) =
    subst (λ (kept : List AskedCondition). answer_of_kept kept (size_at_most needles c.args.most) ≡ asks (size_at_most needles c.args.most)) (sym c.self.view_is) c.requires.silent in (
      (size_kept inside.names.items c.extend_from_slice.new.self.items inside.checks.items c.push_reserved.new.self.items inside.digest c.args.fault needles c.args.most c.len.result (length needles) names
          begins (λ i. length needles) items silent (c.self.invariant).0).kept,
      size_found inside.names.items needles c.extend_from_slice.new.self.items inside.checks.items c.push_reserved.new.self.items inside.chains.links c.add.new.self.links
          (record { fault = c.args.fault; cond = SizeAtMost (record { start = c.len.result; len = length needles }) c.args.most }) names items
          (last_named inside.names.items needles c.len.result c.args.most begins) (c.self.invariant).0.fit
          (subst (λ (ls : List ConditionLink). AreAdded needles (SizeAtMost (record { start = c.len.result; len = length needles }) c.args.most) ls c.add.new.self.links) c.reserve-2.ensures.links c.add.ensures)
          (c.self.invariant).1,
    )

pub returns-clause-ok : goal.returns-clause-ok
returns-clause-ok c =
    let inside = c.self.inside in
    let needles = c.args.needles.now in
    let begins : c.len.result ≡ length inside.names.items = grind (arith, common_steps) in
    let names : c.extend_from_slice.new.self.items ≡ inside.names.items ++ needles = search rules in
    let items : c.push_reserved.new.self.items ≡ inside.checks.items ++ record { fault = c.args.fault; cond = SizeAtMost (record { start = c.len.result; len = length needles }) c.args.most } ∷ [] = search rules in
    let silent : answer_of_kept (map (asked_of_check inside.names.items) inside.checks.items) (size_at_most needles c.args.most) ≡ asks (size_at_most needles c.args.most) =
    subst (λ (kept : List AskedCondition). answer_of_kept kept (size_at_most needles c.args.most) ≡ asks (size_at_most needles c.args.most)) (sym c.self.view_is) c.requires.silent in
    (size_kept inside.names.items c.extend_from_slice.new.self.items inside.checks.items c.push_reserved.new.self.items inside.digest c.args.fault needles c.args.most c.len.result (length needles) names
    begins (λ i. length needles) items silent (c.self.invariant).0).asked
    ∙ ap (λ (kept : List AskedCondition). kept ++ record { fault = c.args.fault; ask = size_at_most needles c.args.most } ∷ []) c.self.view_is
