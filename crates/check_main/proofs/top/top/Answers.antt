use Rattle.std.proofs.Common.{◌∙◌, ap, Err, refl}
use Rattle.std.proofs.lemmas.Result.{IfOk-weaker}
use Rattle.check_main.proofs.Calls.{called-refusal, if-err, none-within}
use Rattle.check_main.proofs.Complete.{ran-well}
use Rattle.check_main.specs.Top.{usage}
use Rattle.check_main.proofs.top.top.Goals as goal

pub returns-in-Ok : goal.returns-in-Ok
returns-in-Ok g c =
    let ran = c.carry_out.ensures _ c.in-Ok.ensures.ok in
    record { ran = ran; complete = λ command chosen input free. ran-well _ command chosen input _ _ _ _ ran free }

pub returns-in-Err-Usage : goal.returns-in-Err-Usage
returns-in-Err-Usage g c =
    let refused = c.plan_of.ensures.usage (c.in-Err-Usage.is ∙ ap Err c.in-Err-Usage.field-0-is) in
    let ran = c.end_with.ensures _ _
    (IfOk-weaker c.refusal-answer.result _ _ (λ answer is. called-refusal _ _ answer _ _ (usage refused (record { left = refl; faults = refl })) is) c.refusal-answer.ensures)
    (if-err c.refusal-answer.result _ (none-within _ (g.S.Source.left c.args.source.now) (g.S.Source.faults c.args.source.now))) in
    record { ran = ran; complete = λ command chosen input free. ran-well _ command chosen input _ _ _ _ ran free }

pub returns-in-Err-NoMemory : goal.returns-in-Err-NoMemory
returns-in-Err-NoMemory g c =
    let ran = c.end_with-in-Err-NoMemory.ensures _ _ tt (none-within _ (g.S.Source.left c.args.source.now) (g.S.Source.faults c.args.source.now)) in
    record { ran = ran; complete = λ command chosen input free. ran-well _ command chosen input _ _ _ _ ran free }
