use Rattle.std.proofs.Common.{◌+◌, ℕ, [], List, length, map, ap, subst, sym}
use Rattle.knit_base.specs.Lines.{HasNoLineEnd, without_return}
use Rattle.script_reader.specs.Hearing.{Hearing, first_hearing, heard, hearing_behind, orders_from}
use Rattle.script_reader.specs.Listener.{Hears}
use Rattle.script_reader.specs.Orders.{AreOrders}
use Rattle.talk_loop.specs.InStep.{state_behind}
use Rattle.talk_desk.specs.Conversation.{asking}
use Rattle.talk_desk.specs.Hosts.{opening_in}
use Rattle.talk_desk.proofs.Answered.{answered-more, behind-more, lawful-orders, line-heard, returned-one}
use Rattle.talk_desk.proofs.Said.{on-ok}
use Rattle.talk_desk.proofs.desk.TalkDeskDesk.hear.Goals as goal

pub hear-heard-requires : goal.hear-heard-requires
hear-heard-requires g c = record { line = subst HasNoLineEnd (sym c.without_return.ensures) (returned-one c.args.line.now c.requires.one) }

pub answer-requires-clause-lawful : goal.answer-requires-clause-lawful
answer-requires-clause-lawful g c κs within =
    let b = c.requires.begun in
    let h : Hearing = hearing_behind first_hearing c.args.self.now.first (map without_return b.0) in
    let told = (c.hear-heard.ensures.heard h b.2.hears).1 in
    (_, subst (λ (l : List ℕ). AreOrders c.args.number c.hear-heard.result (heard h c.args.number l).0) c.without_return.ensures told, lawful-orders c.args.self.now.first c.args.number b.0 c.args.line.now)

pub returns-clause-answered : goal.returns-clause-answered
returns-clause-answered g c =
    on-ok c.answer.result
    (λ f lines as_ whole b counted kept.
    let host = c.args.self.now.host in
    let first = c.args.self.now.first in
    let earlier = c.args.self.now.began.value.chunks in
    let h : Hearing = hearing_behind first_hearing first (map without_return lines) in
    let hears = subst (λ (l : List ℕ). Hears c.hear-heard.new.self (heard h c.args.number l).1 × AreOrders c.args.number c.hear-heard.result (heard h c.args.number l).0) c.without_return.ensures (c.hear-heard.ensures.heard h b.hears) in
    let same = line-heard c.args.self.now.host c.answer.new.host c.args.self.now.listener c.hear-heard.new.self earlier c.args.self.now.first c.args.number lines as_ c.args.line.now whole c.args.out.now.items c.answer.new.out.items b counted kept c.answer.ensures.style c.answer.ensures.opening in
    let told = state_behind (asking host.document.style.json host.document.style.head (opening_in host.document) earlier first) [] (orders_from first_hearing first (map without_return lines)) as_ in
    let t = f earlier first told (heard h (first + length lines) (without_return whole)).0 b.at (subst (AreOrders c.args.number c.hear-heard.result) (ap (λ x. x.0) same) hears.1) in (
      t.answers,
      behind-more c.args.self.now.host c.answer.new.host c.args.self.now.listener c.hear-heard.new.self earlier c.args.self.now.first c.args.number lines as_ c.args.line.now whole c.args.out.now.items c.answer.new.out.items b counted kept c.answer.ensures.style c.answer.ensures.opening hears.0 t,
      answered-more c.args.self.now.host c.answer.new.host c.args.self.now.listener c.hear-heard.new.self earlier c.args.self.now.first c.args.number lines as_ c.args.line.now whole c.args.out.now.items c.answer.new.out.items b counted kept c.answer.ensures.style c.answer.ensures.opening t,
    )) c.answer.ensures.said
