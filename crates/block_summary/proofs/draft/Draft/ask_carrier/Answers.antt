use Rattle.std.proofs.Common.{true, refl, sym, subst}
use Rattle.face_data.specs.Answers.{ConditionAnswer}
use Rattle.block_summary.specs.DraftKnowledge.{Took}
use Rattle.block_summary.proofs.draft.Draft.ask_carrier.Goals as goal

pub returns-then-knows_carrier : goal.returns-then-knows_carrier
returns-then-knows_carrier c =
    subst (λ (r : ConditionAnswer). Took r c.args.self.now c.args.self.now (record { line = c.args.self.now.lines; reason = c.args.reason }) true) (sym (c.knows_carrier.ensures c.if-knows_carrier.true)) (refl, refl)
