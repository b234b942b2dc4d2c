use Rattle.std.proofs.Common.{◌≡◌, ◌∙◌, List, ℕ, ◌++◌, ap, subst, sym}
use Rattle.edit_journal.specs.declared.opening.Opening.{Opening}
use Rattle.edit_groups.specs.declared.chunk.Chunk.{Chunk}
use Rattle.talk_desk.specs.Conversation.{standing_at_start}
use Rattle.talk_desk.specs.Hosts.{IsAt, known_in, opening_in}
use Rattle.talk_desk.specs.Styles.{IsOpenedIn}
use Rattle.talk_desk.specs.declared.document.Style.{Style}
use Rattle.live_talk.proofs.begin.begin_at.Goals as goal

pub returns : goal.returns
returns g c =
    let at = c.in_ok-host.ensures.at in
    let host = c.in_ok-host.host in
    let style = c.in_ok-host.ensures.style ∙ c.in_ok-document.ensures.style in
    let said = c.in_ok-say_opened_in.ensures.ok in
    let text : said.0 ≡ c.say_opened_in.new.out.items = sym (said.1 ∙ ap (λ (l : List ℕ). l ++ said.0) c.in_ok-said.ensures.items) in
    record {
      json_is = ap (λ (s : Style). s.json) style;
      head_is = ap (λ (s : Style). s.head) style;
      opens = at.began ∙ c.in_ok-document.ensures.opening;
      known = c.in_ok-host.ensures.known ∙ c.in_ok-document.ensures.known;
      at = subst (λ (p : Style × Opening × List Chunk). IsAt p.1 host (standing_at_start p.0.json p.0.head p.1 p.2))
          (λ i. (sym c.in_ok-host.ensures.style i, sym at.began i, sym c.in_ok-host.ensures.known i)) at;
      said = subst (IsOpenedIn c.args.style.json c.args.book.opening c.args.book.entries) text said.2;
    }
