use Rattle.std.proofs.Common.{◌≡◌, ◌∙◌, List, ap, rules, subst, sym}
use Rattle.edit_journal.specs.declared.opening.Opening.{Opening}
use Rattle.edit_groups.specs.Groups.{GroupView}
use Rattle.edit_groups.specs.declared.chunk.Chunk.{Chunk}
use Rattle.talk_desk.specs.Conversation.{standing_at_start}
use Rattle.talk_desk.specs.Hosts.{IsAt, known_in, opening_in}
use Rattle.talk_desk.specs.declared.document.Style.{Style}
use Rattle.talk_desk.proofs.desk.TalkDesk.new.Goals as goal

pub returns-clause-begun : goal.returns-clause-begun
returns-clause-begun g c =
    let at = c.requires.at in
    let was = c.args.host.document in
    let now = c.take_back.new.self in
    let style : now.style ≡ was.style = c.take_back.ensures.style ∙ c.lend-held.ensures.style in
    let opening : opening_in now ≡ opening_in was = c.take_back.ensures.opening ∙ c.lend-held.ensures.opening in
    let chunks : c.of-began.result.value.chunks ≡ known_in was = ap (λ (b : GroupView). b.chunks) (c.of-began.ensures ∙ c.book.ensures) ∙ c.lend-held.ensures.book.1 in
    record {
      hears = search rules;
      answered = tt;
      at = subst (λ (p : Style × Opening × List Chunk). IsAt p.1 (record { document = now; talkers = c.args.host.talkers }) (standing_at_start p.0.json p.0.head p.1 p.2))
          (λ i. (sym style i, sym opening i, sym chunks i))
          (record {
            document = c.take_back.ensures.document;
            began = opening;
            known = c.take_back.ensures.known ∙ c.lend-held.ensures.book.1;
            count = at.count;
            talkers = at.talkers;
          });
    }
