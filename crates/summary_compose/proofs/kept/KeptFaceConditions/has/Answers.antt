use Rattle.std.proofs.Common.{rules, w16, ◌≡◌, ℤ, Bool, List, sym, ap, ◌∙◌}
use Rattle.std.proofs.lemmas.Int.{to_z-of_z}
use Rattle.std.specs.List.{list_any}
use Rattle.face_data.specs.declared.bearing.Bearing.TheVariants.{Implied}
use Rattle.face_data.specs.declared.face.Check.{Check}
use Rattle.face_data.specs.Answers.ConditionAnswer.{asks}
use Rattle.face_data.specs.Bearings.{if_so}
use Rattle.face_data.specs.Composition.{from_bearing, answer_of_kept}
use Rattle.face_data.specs.Conditions.Ask.{last_near}
use Rattle.face_data.specs.Summaries.{AskedCondition}
use Rattle.summary_compose.specs.Known.{asks_near}
use Rattle.summary_compose.proofs.NearConditions.{settled_near}
use Rattle.summary_compose.proofs.kept.KeptFaceConditions.has.Goals as goal

pub returns : goal.returns
returns c =
    let checks : List Check = c.self.inside.checks.items in
    let test : ℤ → Check → Bool = λ n k. asks_near k.cond c.args.c n c.args.float in
    let found : c.has_near.result ≡ list_any (test c.args.at) checks =
    c.has_near.ensures ∙ ap (λ (n : ℤ). list_any (test n) c.deref.result.now) (to_z-of_z w16 c.args.at c.ranges.at) ∙ ap (list_any (test c.args.at)) c.deref.ensures.value in
    let view : c.args.self.now.checks ≡ _ = search rules in
    ap (λ (kept : List AskedCondition). answer_of_kept kept (last_near c.args.c c.args.at c.args.float)) view
    ∙ settled_near c.self.inside.names.items checks c.args.c c.args.at c.args.float
    ∙ ap (λ b. from_bearing (if_so b Implied) (asks (last_near c.args.c c.args.at c.args.float))) (sym found)
