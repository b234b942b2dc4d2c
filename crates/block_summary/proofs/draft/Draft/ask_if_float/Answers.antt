use Rattle.std.proofs.Common.{[], rules, sym, subst, IfOk, w16}
use Rattle.std.proofs.lemmas.Int.{to_z-of_z}
use Rattle.face_data.specs.declared.face.Cond.{Cond}
use Rattle.face_data.specs.Conditions.{ask_of}
use Rattle.face_data.specs.Conditions.Ask.{last_near}
use Rattle.carrier_rules.specs.Carriers.{is_on_last}
use Rattle.block_summary.specs.DraftKnowledge.{HasAsked, HasAskedIf}
use Rattle.block_summary.proofs.LineSteps.{not_on_last, passed_over}
use Rattle.block_summary.proofs.draft.Draft.ask_if_float.Goals as goal

pub returns-in-LastNear : goal.returns-in-LastNear
returns-in-LastNear c =
    subst (λ (x : Cond). IfOk c.ask_near.result (HasAskedIf (is_on_last x) c.args.self.now c.ask_near.new.self (record { line = c.args.self.now.lines; reason = c.args.reason }) (ask_of [] x))) (sym c.in-LastNear.is)
    (subst (λ at. IfOk c.ask_near.result (HasAsked c.args.self.now c.ask_near.new.self (record { line = c.args.self.now.lines; reason = c.args.reason }) (last_near c.in-LastNear.c at c.in-LastNear.float)))
    (to_z-of_z w16 c.in-LastNear.at (search rules)) c.ask_near.ensures)

pub returns-in_default : goal.returns-in_default
returns-in_default c = passed_over (is_on_last c.args.cond) c.args.self.now _ (ask_of [] c.args.cond) (not_on_last c.args.cond c.in_default.not-LastNear)
