-- An order was answered, and the sessions stand behind it.
use Rattle.std.proofs.Common.{◌≡◌, ◌∙◌, ℕ, ◌+◌, ◌<◌, List, ◌++◌, length, set, slice_get, Some, ap, subst, sym, arith}
use Rattle.std.proofs.lemmas.List.{length-set}
use Rattle.edit_journal.specs.declared.opening.Opening.{Opening}
use Rattle.script_reader.specs.Hearing.{Ask, Refuse, Tell}
use Rattle.script_reader.specs.declared.fault.Cause.{Cause}
use Rattle.script_reader.specs.declared.step.Step.{Step}
use Rattle.script_reader.specs.declared.talk_line.Question.{Question}
use Rattle.edit_book.specs.Session.{HasNames}
use Rattle.edit_groups.specs.Alone.{IsSessionAt}
use Rattle.edit_groups.specs.Chunks.{chunk_of, entries_of_chunks}
use Rattle.edit_groups.specs.Sessions.{group_core, step_memory}
use Rattle.edit_groups.specs.declared.chunk.Chunk.{Chunk}
use Rattle.turn_book.specs.Journal.{entry_list}
use Rattle.turn_book.specs.Walk.{IsReplyGiven}
use Rattle.talk_desk.specs.Conversation.{Given, Refused, Standing}
use Rattle.talk_desk.specs.Hosts.{IsAt, IsDocument, IsQuestionSaid, IsStepSaid, IsOrderTaken, IsTalker, known_in, opening_in}
use Rattle.talk_desk.specs.Styles.{bad_line_in, step_in}
use Rattle.talk_desk.specs.declared.document.Style.{Style}
use Rattle.talk_desk.specs.declared.host.Host.{Host}
use Rattle.talk_desk.specs.declared.steps.Talker.{Talker}
use Rattle.talk_desk.proofs.Talkers.{other-question, other-step, own-question, own-step, talkers-set}

-- a line was refused
pub refuse-taken : (opening : Opening) (style : Style) (s : Standing) (line : ℕ) (why : Cause) (host : Host) (before after : List ℕ) → IsAt opening host s
    → after ≡ before ++ bad_line_in style.json line why → IsOrderTaken opening s (Refuse line why) style host before after
refuse-taken opening style s line why host before after at said = record { answer = Refused; given = tt; at = at; said = said }

-- what is known of a session that is there
module _ (host : Host) (s : Standing) (n : ℕ) (u : Talker) (at : IsAt (opening_in host.document) host s) (there : slice_get host.talkers.items n ≡ Some u) where
  pub session-here : IsSessionAt (opening_in host.document) (known_in host.document) (s.point.memories n) u.session
  session-here = subst (λ (l : List Chunk). IsSessionAt (opening_in host.document) l (s.point.memories n) u.session) (sym at.known) (at.talkers n u there).session

  pub names-here : HasNames (opening_in host.document) (entries_of_chunks (known_in host.document)) u.session.session
  names-here = session-here.names

  pub number-here : u.session.session.number ≡ n
  number-here = (at.talkers n u there).number

module _ (opening : Opening) (style : Style) (s : Standing) (n : ℕ) (host after_host : Host) (u v : Talker) (at : IsAt opening host s) (low : n < 64) (there : slice_get host.talkers.items n ≡ Some u)
    (document : IsDocument after_host.document) (began : opening_in after_host.document ≡ opening) (talkers : after_host.talkers.items ≡ set host.talkers.items n v) (before after : List ℕ) where
  talker : IsTalker opening s n u
  talker = at.talkers n u there

  within : n < length host.talkers.items
  within = omega (arith, low, at.count)

  count : length after_host.talkers.items ≡ 64
  count = ap length talkers ∙ length-set host.talkers.items n v ∙ at.count

  -- a step was answered
  pub step-taken : (c : Step) → IsStepSaid style.json (s.point.memories n) c host.document after_host.document u v before after → IsOrderTaken opening s (Ask n c) style after_host before after
  step-taken c told =
      let h = told.heard in
      let number : u.session.session.number ≡ n = talker.number in
      let known : known_in after_host.document ≡ s.point.entries ++ entry_list (chunk_of n h.edits) = told.known ∙ (λ i. at.known i ++ entry_list (chunk_of (number i) h.edits)) in
      let stands : IsSessionAt opening (s.point.entries ++ entry_list (chunk_of n h.edits)) (step_memory (s.point.memories n) c h) v.session =
      subst (λ (p : Opening × List Chunk). IsSessionAt p.0 p.1 (step_memory (s.point.memories n) c h) v.session) (λ i. (at.began i, known i)) told.stands in
      record {
        answer = Given h;
        given = subst (λ (p : Opening × ℕ × List Chunk). IsReplyGiven (group_core p.0) p.1 p.2 (s.point.memories n) c h) (λ i. (at.began i, number i, at.known i)) told.given;
        at = record {
          document = document;
          began = began;
          known = known;
          count = count;
          talkers = λ i w is. talkers-set opening s _ n host.talkers.items v at.talkers (own-step style.json style.head opening s n c h u v talker told.number stands told.counted)
              (λ k x differ t. other-step style.json style.head opening s n c h k x differ t) within i w (subst (λ (l : List Talker). slice_get l i ≡ Some w) talkers is);
        };
        said = subst (λ (p : Opening × List Chunk × ℕ × ℕ). after ≡ before ++ step_in style.json p.0 (entries_of_chunks p.1) (record { session = p.2; number = p.3 + 1 }) h.reply)
            (λ i. (at.began i, known i, number i, talker.answered i)) told.said;
      }

  -- a question was answered
  pub question-taken : (q : Question) → known_in after_host.document ≡ known_in host.document → v.session ≡ u.session → v.answered ≡ u.answered + 1
      → IsQuestionSaid style (opening_in host.document) (entries_of_chunks (known_in host.document)) (s.point.memories n) (record { session = u.session.session.number; number = u.answered + 1 }) q before after
      → IsOrderTaken opening s (Tell n q) style after_host before after
  question-taken q known session counted told =
      let here : IsQuestionSaid style opening (entries_of_chunks s.point.entries) (s.point.memories n) (record { session = n; number = s.answered n + 1 }) q before after =
      subst (λ (p : Opening × List Chunk × ℕ × ℕ). IsQuestionSaid style p.0 (entries_of_chunks p.1) (s.point.memories n) (record { session = p.2; number = p.3 + 1 }) q before after)
      (λ i. (at.began i, at.known i, talker.number i, talker.answered i)) told in
      record {
        answer = here.answer;
        given = here.given;
        at = record {
          document = document;
          began = began;
          known = known ∙ at.known;
          count = count;
          talkers = λ i w is. talkers-set opening s _ n host.talkers.items v at.talkers (own-question style.json style.head opening s n q here.answer u v talker session counted)
              (λ k x differ t. other-question style.json style.head opening s n q here.answer k x differ t) within i w (subst (λ (l : List Talker). slice_get l i ≡ Some w) talkers is);
        };
        said = here.said;
      }
