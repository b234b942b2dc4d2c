use Rattle.std.proofs.Common.{◌++◌, ℕ, map, ap}
use Rattle.knit_base.specs.Lines.{without_return}
use Rattle.script_reader.specs.Hearing.{Hearing, first_hearing, hearing_behind, orders_at_end}
use Rattle.talk_desk.specs.Conversation.{refusals, standing_of}
use Rattle.talk_desk.specs.Hosts.{opening_in}
use Rattle.talk_desk.proofs.Answered.{end-refusals}
use Rattle.talk_desk.proofs.Said.{on-ok}
use Rattle.talk_desk.proofs.desk.TalkDeskDesk.end.Goals as goal

pub returns : goal.returns
returns g c =
    let host = c.args.self.now.host in
    record {
      last = on-ok c.end_with.result
          (λ f lines as_ b counted.
          let h : Hearing = hearing_behind first_hearing c.args.self.now.first (map without_return lines) in
          let e = f (standing_of host.document.style.json host.document.style.head (opening_in host.document) c.args.self.now.began.value.chunks c.args.self.now.first lines as_) (orders_at_end h c.args.number) b.at (c.end-order.ensures h b.hears) (end-refusals h c.args.number) in (
            refusals host.document.style.json host.document.style.head (opening_in host.document) (orders_at_end h c.args.number) ++ e.final,
            e.said,
            record {
              final = e.final;
              judged = e.judged;
              said = ap (λ (n : ℕ). refusals host.document.style.json host.document.style.head (opening_in host.document) (orders_at_end h n) ++ e.final) counted;
            },
          )) c.end_with.ensures.said;
    }
