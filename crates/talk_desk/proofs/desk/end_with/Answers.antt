use Rattle.std.proofs.Common.{List, subst, sym}
use Rattle.std.specs.declared.option.Option.{Option}
use Rattle.edit_journal.specs.declared.opening.Opening.{Opening}
use Rattle.edit_groups.specs.Chunks.{entries_of_chunks}
use Rattle.script_reader.specs.Hearing.{Order}
use Rattle.script_reader.specs.Orders.{IsOnlyOrder}
use Rattle.script_reader.specs.declared.order.Order as declared
use Rattle.talk_desk.specs.Desks.{AreRefusals, IsAtItsEnd}
use Rattle.talk_desk.specs.Hosts.{known_in, opening_in}
use Rattle.talk_desk.specs.Styles.{IsFinalIn}
use Rattle.talk_desk.specs.declared.document.Style.{Style}
use Rattle.talk_desk.proofs.Answered.{end-one, one-told}
use Rattle.talk_desk.proofs.Said.{on-ok}
use Rattle.talk_desk.proofs.desk.end_with.Goals as goal

pub say_end-requires-clause-document : goal.say_end-requires-clause-document
say_end-requires-clause-document g c κs within =
    let b = c.requires.begun in
    let l = c.requires.lawful in
    let o = one-told _ l.0 (subst (λ (x : Option declared.Order). IsOnlyOrder x l.0) c.in-Some.is l.1) in
    (c.in_ok-take-in-Some.ensures.said b.0 o.0 b.1 o.2).at.document

pub returns-in_ok-take-in-Some : goal.returns-in_ok-take-in-Some
returns-in_ok-take-in-Some g c =
    let style = c.args.host.now.document.style in
    let opening = opening_in c.args.host.now.document in
    record {
      said = on-ok c.say_end.result
          (λ e s asked at is are.
          let o = one-told _ asked (subst (λ (x : Option declared.Order). IsOnlyOrder x asked) c.in-Some.is is) in
          let t = c.in_ok-take-in-Some.ensures.said s o.0 at o.2 in
          let judged = subst (λ (p : Style × Opening). IsFinalIn p.0.json p.1 (entries_of_chunks (known_in c.take.new.self.document)) e.0) (λ i. (c.take.ensures.style i, c.take.ensures.opening i)) e.2 in
          subst (λ (os : List Order). IsAtItsEnd style opening s os c.args.out.now.items c.say_end.new.out.items) (sym o.1)
          (end-one style opening s o.0 c.take.new.self c.args.out.now.items c.take.new.out.items c.say_end.new.out.items e.0 (subst AreRefusals o.1 are) t judged e.1)) c.say_end.ensures.said;
    }
