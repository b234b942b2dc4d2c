-- What the code knows of the condition is what is known of it.
use Rattle.std.proofs.Common.{rules, w16, ℤ, ◌∙◌, ap, sym, subst, arith, length}
use Rattle.std.proofs.lemmas.Int.{to_z-of_z}
use Rattle.face_data.specs.Chains.{chain_at}
use Rattle.face_data.specs.Composition.{from_bearing, answer_of_kept}
use Rattle.face_data.specs.Conditions.Ask.{last_near}
use Rattle.face_data.specs.Lasts.{last_bearing}
use Rattle.face_data.specs.Segments.{names_through}
use Rattle.face_data.specs.View.{size_needles_of}
use Rattle.summary_compose.specs.Changes.{changes_in}
use Rattle.summary_compose.specs.Known.{IsPlainCond, StepIs}
use Rattle.summary_compose.proofs.Answers.{near_step, plain_step, sized_step}
use Rattle.summary_compose.proofs.Steps.{known_length}
use Rattle.summary_compose.proofs.asking.ask.Goals as goal

pub ask_sized-requires-clause-index_room : goal.ask_sized-requires-clause-index_room
ask_sized-requires-clause-index_room c =
    let size = known_length c.args.digest.now c.args.index.now.notes c.args.kept.now.checks c.requires.knows in
    let same = ap (λ ns. length (names_through (changes_in c.args.a.now) ns)) (ap (size_needles_of c.args.names.now) c.in-SizeAtMost.is ∙ sym c.names_at.ensures) in
    omega (arith, size, same, c.requires.index_room)

pub returns-in-SizeAtMost-clause-step : goal.returns-in-SizeAtMost-clause-step
returns-in-SizeAtMost-clause-step c =
    sized_step c.args.digest.now c.args.index.now.notes c.args.effect.now c.args.a.now.lasts.now (changes_in c.args.a.now) c.args.names.now c.names_at.result.now c.args.cond c.in-SizeAtMost.part c.in-SizeAtMost.most c.args.kept.now.checks c.ask_sized.new.kept.checks c.args.fault c.ask_sized.result
    c.requires.knows c.in-SizeAtMost.is c.names_at.ensures c.ask_sized.ensures.step

pub returns-in-RackIs-clause-step : goal.returns-in-RackIs-clause-step
returns-in-RackIs-clause-step c =
    plain_step c.args.digest.now (chain_at c.args.kept.now.checks) c.args.effect.now c.args.a.now.lasts.now (changes_in c.args.a.now) c.args.names.now c.args.cond c.args.kept.now.checks c.ask_plain.new.kept.checks c.args.fault c.ask_plain.result
    (subst IsPlainCond (sym c.in-RackIs.is) tt) c.ask_plain.ensures.step

pub returns-in-CarrierIn-clause-step : goal.returns-in-CarrierIn-clause-step
returns-in-CarrierIn-clause-step c =
    plain_step c.args.digest.now (chain_at c.args.kept.now.checks) c.args.effect.now c.args.a.now.lasts.now (changes_in c.args.a.now) c.args.names.now c.args.cond c.args.kept.now.checks c.ask_plain-in-CarrierIn.new.kept.checks c.args.fault c.ask_plain-in-CarrierIn.result
    (subst IsPlainCond (sym c.in-CarrierIn.is) tt) c.ask_plain-in-CarrierIn.ensures.step

pub returns-in-CarrierOut-clause-step : goal.returns-in-CarrierOut-clause-step
returns-in-CarrierOut-clause-step c =
    plain_step c.args.digest.now (chain_at c.args.kept.now.checks) c.args.effect.now c.args.a.now.lasts.now (changes_in c.args.a.now) c.args.names.now c.args.cond c.args.kept.now.checks c.ask_plain-in-CarrierOut.new.kept.checks c.args.fault c.ask_plain-in-CarrierOut.result
    (subst IsPlainCond (sym c.in-CarrierOut.is) tt) c.ask_plain-in-CarrierOut.ensures.step

pub returns-in-HookFree-clause-step : goal.returns-in-HookFree-clause-step
returns-in-HookFree-clause-step c =
    plain_step c.args.digest.now (chain_at c.args.kept.now.checks) c.args.effect.now c.args.a.now.lasts.now (changes_in c.args.a.now) c.args.names.now c.args.cond c.args.kept.now.checks c.ask_plain-in-HookFree.new.kept.checks c.args.fault c.ask_plain-in-HookFree.result
    (subst IsPlainCond (sym c.in-HookFree.is) tt) c.ask_plain-in-HookFree.ensures.step

pub returns-in-HookIs-clause-step : goal.returns-in-HookIs-clause-step
returns-in-HookIs-clause-step c =
    plain_step c.args.digest.now (chain_at c.args.kept.now.checks) c.args.effect.now c.args.a.now.lasts.now (changes_in c.args.a.now) c.args.names.now c.args.cond c.args.kept.now.checks c.ask_plain-in-HookIs.new.kept.checks c.args.fault c.ask_plain-in-HookIs.result
    (subst IsPlainCond (sym c.in-HookIs.is) tt) c.ask_plain-in-HookIs.ensures.step

pub returns-in-HookLacks-clause-step : goal.returns-in-HookLacks-clause-step
returns-in-HookLacks-clause-step c =
    plain_step c.args.digest.now (chain_at c.args.kept.now.checks) c.args.effect.now c.args.a.now.lasts.now (changes_in c.args.a.now) c.args.names.now c.args.cond c.args.kept.now.checks c.ask_plain-in-HookLacks.new.kept.checks c.args.fault c.ask_plain-in-HookLacks.result
    (subst IsPlainCond (sym c.in-HookLacks.is) tt) c.ask_plain-in-HookLacks.ensures.step

pub returns-in-LastNear-clause-step : goal.returns-in-LastNear-clause-step
returns-in-LastNear-clause-step c =
    near_step c.args.digest.now (chain_at c.args.kept.now.checks) c.args.effect.now c.args.a.now.lasts.now (changes_in c.args.a.now) c.args.names.now c.args.cond c.in-LastNear.c c.in-LastNear.at c.in-LastNear.float c.args.kept.now.checks c.ask_near.new.kept.checks c.args.fault c.ask_near.result
    c.in-LastNear.is
    (subst (λ (n : ℤ). StepIs (from_bearing (last_bearing c.args.a.now.lasts.now c.in-LastNear.c n c.in-LastNear.float) (answer_of_kept c.args.kept.now.checks (last_near c.in-LastNear.c n c.in-LastNear.float))) c.args.kept.now.checks c.args.fault c.ask_near.result c.ask_near.new.kept.checks)
    (to_z-of_z w16 c.in-LastNear.at (search rules)) c.ask_near.ensures.step)
