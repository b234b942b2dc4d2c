use Rattle.std.proofs.Common.{refl, subst, sym}
use Rattle.script_reader.specs.Orders.{edit_with}
use Rattle.script_reader.specs.declared.order.TextEdit.{TextEdit}
use Rattle.script_reader.specs.declared.step.Step.TheVariants as step
use Rattle.edit_groups.specs.Alone.{IsAnsweredAt}
use Rattle.edit_groups.specs.declared.reply.GroupReply.TheVariants as group
use Rattle.edit_groups.proofs.AnsweredAlone.{add_refused, put_refused, with_learned}
use Rattle.edit_groups.proofs.alone.refuse_long.Goals as goal

pub returns-in-Put-clause-answered : goal.returns-in-Put-clause-answered
returns-in-Put-clause-answered c = λ opening known m text at counted.
    let s = c.args.session.now in let r = c.put_too_long.result in let told = c.put_too_long.ensures in
    subst (λ (e : TextEdit). IsAnsweredAt opening s.session.number m (step.One (edit_with e text)) (group.One r) known known (with_learned s s.session.learned)) (sym c.in-Put.is)
    (put_refused opening known m s s.session.learned at refl c.in-Put.name text r (told.asked m text at.remembers counted) told.untaught at.remembers)

pub returns-in-Add-clause-answered : goal.returns-in-Add-clause-answered
returns-in-Add-clause-answered c = λ opening known m text at counted.
    let s = c.args.session.now in let l = c.learn_missed.new.self in let r = c.add_too_long-reply.result in let told = c.add_too_long-reply.ensures in
    subst (λ (e : TextEdit). IsAnsweredAt opening s.session.number m (step.One (edit_with e text)) (group.One r) known known (with_learned s l)) (sym c.in-Add.is)
    (add_refused opening known m s l at c.learn_missed.ensures.head c.in-Add.place text r (told.asked m text at.remembers counted) told.untaught (c.learn_missed.ensures.learned m at.remembers))
