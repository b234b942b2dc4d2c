use Rattle.std.proofs.Common.{List, subst, sym}
use Rattle.std.specs.declared.option.Option.{Option}
use Rattle.script_reader.specs.Hearing.{Order}
use Rattle.script_reader.specs.Orders.{IsOnlyOrder}
use Rattle.script_reader.specs.declared.order.Order as declared
use Rattle.talk_desk.specs.Desks.{AreOrdersTaken, standing_told}
use Rattle.talk_desk.specs.Hosts.{opening_in}
use Rattle.talk_desk.proofs.Answered.{one-taken, one-told}
use Rattle.talk_desk.proofs.Said.{on-ok}
use Rattle.talk_desk.proofs.desk.answer_order.Goals as goal

pub returns-in-Some-clause-said : goal.returns-in-Some-clause-said
returns-in-Some-clause-said g c =
    let style = c.args.host.now.document.style in
    let opening = opening_in c.args.host.now.document in
    on-ok c.take.result
    (λ f earlier first told asked at is.
    let t = one-told _ asked (subst (λ (x : Option declared.Order). IsOnlyOrder x asked) c.in-Some.is is) in
    subst (λ (os : List Order). AreOrdersTaken style opening earlier first told os c.take.new.self c.args.out.now.items c.take.new.out.items) (sym t.1)
    (one-taken style opening earlier first told c.take.new.self c.args.out.now.items c.take.new.out.items t.0 (f (standing_told style opening earlier told) t.0 at t.2))) c.take.ensures.said
