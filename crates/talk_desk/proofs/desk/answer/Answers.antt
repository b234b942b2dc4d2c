use Rattle.std.proofs.Common.{Bool, List, refl, subst, sym, ◌∷◌, ◌++◌, []}
use Rattle.edit_journal.specs.declared.opening.Opening.{Opening}
use Rattle.script_reader.specs.Hearing.{Order, Refuse}
use Rattle.script_reader.specs.Orders.{AreOrdersOfLine}
use Rattle.script_reader.specs.declared.fault.Cause.TheVariants.{BadLine}
use Rattle.talk_desk.specs.Conversation.{standing_after}
use Rattle.talk_desk.specs.Desks.{AreOrdersTaken, standing_told}
use Rattle.talk_desk.specs.Hosts.{IsAt, opening_in}
use Rattle.talk_desk.specs.declared.document.Style.{Style}
use Rattle.talk_desk.proofs.Answered.{broken-told, more-taken, stands-taken}
use Rattle.talk_desk.proofs.Said.{on-ok}
use Rattle.talk_desk.proofs.desk.answer.Goals as goal

pub answer_order-requires-clause-begun : goal.answer_order-requires-clause-begun
answer_order-requires-clause-begun g c κs within =
    let b = c.requires.begun in
    let t = c.in_ok-take.ensures.said b.0 (Refuse c.args.number BadLine) b.1 refl in
    let st = standing_after c.args.host.now.document.style.json c.args.host.now.document.style.head (opening_in c.args.host.now.document) b.0 (Refuse c.args.number BadLine) t.answer in
    (st, subst (λ (o : Opening). IsAt o c.take.new.self st) (sym c.take.ensures.opening) t.at)

pub returns-then-broken_off-clause-said : goal.returns-then-broken_off-clause-said
returns-then-broken_off-clause-said g c =
    let host = c.args.host.now in
    let style = host.document.style in
    let opening = opening_in host.document in
    on-ok c.answer_order.result
    (λ f earlier first told asked at is.
    let o = broken-told c.args.number c.args.heard.order asked (subst (λ (b : Bool). AreOrdersOfLine c.args.number b c.args.heard.order asked) c.if-broken_off.true is) in
    let t = c.in_ok-take.ensures.said (standing_told style opening earlier told) (Refuse c.args.number BadLine) at refl in
    let stands = stands-taken style opening earlier told c.take.new.self c.args.out.now.items c.take.new.out.items (Refuse c.args.number BadLine) t in
    let rest = f earlier first (told ++ (Refuse c.args.number BadLine, t.answer) ∷ []) o.0
    (subst (λ (p : Style × Opening). IsAt p.1 c.take.new.self (standing_told p.0 p.1 earlier (told ++ (Refuse c.args.number BadLine, t.answer) ∷ []))) (λ i. (sym c.take.ensures.style i, sym c.take.ensures.opening i)) stands) o.2 in
    subst (λ (os : List Order). AreOrdersTaken style opening earlier first told os c.answer_order.new.host c.args.out.now.items c.answer_order.new.out.items) (sym o.1)
    (more-taken style opening earlier first told c.take.new.self c.answer_order.new.host c.args.out.now.items c.take.new.out.items c.answer_order.new.out.items (Refuse c.args.number BadLine) o.0 t
    (subst (λ (p : Style × Opening). AreOrdersTaken p.0 p.1 earlier first (told ++ (Refuse c.args.number BadLine, t.answer) ∷ []) o.0 c.answer_order.new.host c.take.new.out.items c.answer_order.new.out.items)
    (λ i. (c.take.ensures.style i, c.take.ensures.opening i)) rest))) c.answer_order.ensures.said
