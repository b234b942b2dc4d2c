use Rattle.std.proofs.Common.{◌≡◌, ◌+◌, ◌∙◌, length, refl, sym, append-nil, arith}
use Rattle.std.proofs.lemmas.Grind.{common_steps}
use Rattle.carriage_model.proofs.CarriageRuns.{on_err-anyhow}
use Rattle.carriage_model.proofs.FactLists.{facts_kept_by_growth, fact_lists_pushed}
use Rattle.carriage_model.proofs.fact_list.Facts.push.Goals as goal

pub returns-in_err-extend_from_slice-2-clause-err : goal.returns-in_err-extend_from_slice-2-clause-err
returns-in_err-extend_from_slice-2-clause-err c =
    on_err-anyhow c.from_residual-in_err-extend_from_slice-2.result
    (facts_kept_by_growth c.self.inside.heads.items _ _ _ _ _ _ _ _ c.self.invariant c.self.view_is refl c.in_ok-extend_from_slice.ensures.items
    (c.in_err-extend_from_slice-2.ensures.items ∙ sym (append-nil c.self.inside.through.items))).are

pub returns-in_err-push-clause-err : goal.returns-in_err-push-clause-err
returns-in_err-push-clause-err c =
    on_err-anyhow c.from_residual-in_err-push.result
    (facts_kept_by_growth _ _ _ _ _ _ _ _ _ c.self.invariant c.self.view_is c.in_err-push.ensures.items c.in_ok-extend_from_slice.ensures.items c.in_ok-extend_from_slice-2.ensures.items).are

pub invariant_of-self-2 : goal.invariant_of-self-2
invariant_of-self-2 c =
    let yarns_start : c.in_ok-stretch_behind.field-0.start ≡ length c.self.inside.yarns.items = grind (arith, common_steps) in
    let yarns_end : c.in_ok-stretch_behind.field-0.end ≡ length c.self.inside.yarns.items + length c.args.yarns.now = grind (arith, common_steps) in
    let through_start : c.in_ok-stretch_behind-2.field-0.start ≡ length c.self.inside.through.items = grind (arith, common_steps) in
    let through_end : c.in_ok-stretch_behind-2.field-0.end ≡ length c.self.inside.through.items + length c.args.through.now = grind (arith, common_steps) in
    (fact_lists_pushed _ _ _ _ _ _ _ _ _ _ c.self.invariant c.self.view_is (omega (arith, c.requires)) yarns_start yarns_end through_start through_end
    c.in_ok-push.ensures.items c.in_ok-extend_from_slice.ensures.items c.in_ok-extend_from_slice-2.ensures.items).kept

pub returns-clause-ok : goal.returns-clause-ok
returns-clause-ok c =
    let yarns_start : c.in_ok-stretch_behind.field-0.start ≡ length c.self.inside.yarns.items = grind (arith, common_steps) in
    let yarns_end : c.in_ok-stretch_behind.field-0.end ≡ length c.self.inside.yarns.items + length c.args.yarns.now = grind (arith, common_steps) in
    let through_start : c.in_ok-stretch_behind-2.field-0.start ≡ length c.self.inside.through.items = grind (arith, common_steps) in
    let through_end : c.in_ok-stretch_behind-2.field-0.end ≡ length c.self.inside.through.items + length c.args.through.now = grind (arith, common_steps) in
    (fact_lists_pushed _ _ _ _ _ _ _ _ _ _ c.self.invariant c.self.view_is (omega (arith, c.requires)) yarns_start yarns_end through_start through_end
    c.in_ok-push.ensures.items c.in_ok-extend_from_slice.ensures.items c.in_ok-extend_from_slice-2.ensures.items).are
