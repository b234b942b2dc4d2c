use Rattle.talk_desk.specs.Hosts.{IsOrderTaken, opening_in}
use Rattle.talk_desk.proofs.GivenOrders.{as-ask, as-long, as-lost, as-refuse, as-tell, ask-lawful, long-lawful, lost-lawful, tell-lawful}
use Rattle.talk_desk.proofs.Said.{on-ok}
use Rattle.talk_desk.proofs.host.Host.take.Goals as goal

pub returns-in-Refuse-clause-said : goal.returns-in-Refuse-clause-said
returns-in-Refuse-clause-said g c =
    on-ok c.refuse.result
    (λ f s asked at stands.
    as-refuse c.args.order asked stands (λ o. IsOrderTaken (opening_in c.args.self.now.document) s o c.args.self.now.document.style c.refuse.new.self c.args.out.now.items c.refuse.new.out.items) _ _ c.in-Refuse.is (f s at)) c.refuse.ensures.said

pub returns-in-Ask-clause-said : goal.returns-in-Ask-clause-said
returns-in-Ask-clause-said g c =
    on-ok c.ask.result
    (λ f s asked at stands.
    as-ask c.args.order asked stands (λ o. IsOrderTaken (opening_in c.args.self.now.document) s o c.args.self.now.document.style c.ask.new.self c.args.out.now.items c.ask.new.out.items) _ _ c.in-Ask.is (f s at)) c.ask.ensures.said

pub returns-in-TooLong-clause-said : goal.returns-in-TooLong-clause-said
returns-in-TooLong-clause-said g c =
    on-ok c.refuse_long.result
    (λ f s asked at stands.
    as-long c.args.order asked stands (λ o. IsOrderTaken (opening_in c.args.self.now.document) s o c.args.self.now.document.style c.refuse_long.new.self c.args.out.now.items c.refuse_long.new.out.items) _ _ _ c.in-TooLong.is (λ text long. f s text at long)) c.refuse_long.ensures.said

pub returns-in-Lost-clause-said : goal.returns-in-Lost-clause-said
returns-in-Lost-clause-said g c =
    on-ok c.lose.result
    (λ f s asked at stands.
    as-lost c.args.order asked stands (λ o. IsOrderTaken (opening_in c.args.self.now.document) s o c.args.self.now.document.style c.lose.new.self c.args.out.now.items c.lose.new.out.items) _ _ c.in-Lost.is (λ lost adds. f s lost at adds)) c.lose.ensures.said

pub returns-in-Tell-clause-said : goal.returns-in-Tell-clause-said
returns-in-Tell-clause-said g c =
    on-ok c.tell.result
    (λ f s asked at stands.
    as-tell c.args.order asked stands (λ o. IsOrderTaken (opening_in c.args.self.now.document) s o c.args.self.now.document.style c.tell.new.self c.args.out.now.items c.tell.new.out.items) _ _ c.in-Tell.is (f s at)) c.tell.ensures.said

pub ask-requires-clause-low : goal.ask-requires-clause-low
ask-requires-clause-low g c κs within = let l = c.requires.lawful in (ask-lawful c.args.order l.0 l.1 l.2 _ _ c.in-Ask.is).0

pub ask-requires-clause-lawful : goal.ask-requires-clause-lawful
ask-requires-clause-lawful g c κs within = let l = c.requires.lawful in (ask-lawful c.args.order l.0 l.1 l.2 _ _ c.in-Ask.is).1

pub refuse_long-requires : goal.refuse_long-requires
refuse_long-requires g c =
    let l = c.requires.lawful in
    let a = long-lawful c.args.order l.0 l.1 l.2 _ _ _ c.in-TooLong.is in
    record { begun = c.requires.begun; low = a.0; long = a.1 }

pub lose-requires : goal.lose-requires
lose-requires g c =
    let l = c.requires.lawful in
    record { begun = c.requires.begun; low = lost-lawful c.args.order l.0 l.1 l.2 _ _ c.in-Lost.is }

pub tell-requires-clause-low : goal.tell-requires-clause-low
tell-requires-clause-low g c κs within = let l = c.requires.lawful in tell-lawful c.args.order l.0 l.1 l.2 _ _ c.in-Tell.is
