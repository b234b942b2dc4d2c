use Rattle.std.proofs.Common.{rules, w16, ◌≡◌, ◌∷◌, None, Some, map, refl, subst, sym, ◌∙◌}
use Rattle.std.specs.List.{Contains}
use Rattle.std.proofs.lemmas.Int.{to_z-of_z}
use Rattle.std.proofs.lemmas.Result.{on_ok_weaker}
use Rattle.knit_base.specs.declared.yarns.CarrierNo.{CarrierNo}
use Rattle.face_data.specs.Conditions.Ask.{carrier_in}
use Rattle.face_data.specs.Lasts.{lasts_of_both}
use Rattle.carrier_rules.specs.Carriers.{carrier_last}
use Rattle.block_summary.specs.DraftKnowledge.{AreNearIn, HoldsAfter}
use Rattle.block_summary.proofs.NearSteps.{bare_still, carriers_still, knit_near_more}
use Rattle.block_summary.proofs.draft.Draft.knit_near.Goals as goal

pub knit-requires-clause-slider : goal.knit-requires-clause-slider
knit-requires-clause-slider c = bare_still c.args.self.now c.put_last_of_each.new.self _ c.args.n c.in_ok-put_last_of_each.ensures.lasts c.requires.slider

pub returns-clause-summary : goal.returns-clause-summary
returns-clause-summary c =
    on_ok_weaker c.knit.result
    (λ summary profile float dir x xs are limit near.
    let old = c.args.self.now in
    let mid = c.put_last_of_each.new.self in
    let number = to_z-of_z w16 c.args.n.at (search rules) in
    let put : mid ≡ record old { lasts = lasts_of_both old.lasts (map (carrier_last (Some c.args.n.at)) (x ∷ xs)) } =
    c.in_ok-put_last_of_each.ensures.lasts ∙ (λ i. record old { lasts = lasts_of_both old.lasts (map (carrier_last (Some (number i))) (are i)) }) in
    let known : (y : CarrierNo) → Contains (x ∷ xs) y → HoldsAfter old (carrier_in y) = λ y there. c.requires.known y (subst (λ cs. Contains cs y) (sym are) there) in
    knit_near_more profile float dir c.args.n x xs old mid c.knit.new.self c.put_last_of_each.ensures.through put limit known c.requires.slider
    (subst (λ cs. AreNearIn old (Some float) c.args.n cs) are near)
    (summary (record profile { float = None }) dir x xs refl (carriers_still old mid _ (x ∷ xs) put known)))
    c.knit.ensures.summary
