use Rattle.std.proofs.Common.{◌≡◌, ◌+◌, ◌∙◌, [], ◌∷◌, List, ap, arith, length, length-append, refl, subst, sym}
use Rattle.edit_groups.specs.Chunks.{earlier_steps}
use Rattle.edit_groups.specs.declared.chunk.Chunk.{Chunk}
use Rattle.edit_groups.proofs.Undoable.{none_earlier}
use Rattle.edit_journal.specs.declared.edit.BlockAt.{BlockAt}
use Rattle.journal_file.proofs.FormSpellings.{numbered_length}
use Rattle.talk_desk.specs.Hosts.{AreFresh, IsFresh}
use Rattle.talk_desk.specs.declared.steps.Talker.{Talker}
use Rattle.talk_desk.proofs.Fresh.{fresh-more}
use Rattle.talk_desk.proofs.host.talkers.Goals as goal

pub sessions-preserved : goal.sessions-preserved
sessions-preserved c =
    let opening = c.args.book.now.opening in
    let earlier : List Chunk = earlier_steps c.args.book.now.entries in
    let next : Talker = record { session = c.in_ok-session.session; answered = 0 } in
    let blocks : length opening.texts ≡ c.len-blocks.result =
    sym (c.len-blocks.ensures ∙ ap (λ (b : List BlockAt). length b) c.in_ok-first.ensures ∙ numbered_length 0 opening.texts) in
    let names : opening.setting.declared ≡ c.names_at.result.now = sym c.names_at.ensures in
    let is : IsFresh opening earlier (0 + length c.sessions.talkers.items) next = record {
      number = c.in_ok-session.ensures.number ∙ omega (arith, c.sessions.invariant.all);
      session = c.in_ok-session.ensures.stands opening earlier blocks names (none_earlier _ c.args.book.now.entries);
      answered = refl;
    } in
    record {
      all = ap length c.in_ok-push.ensures.items ∙ length-append c.sessions.talkers.items (next ∷ []) ∙ omega (arith, c.sessions.invariant.all);
      fresh = subst (AreFresh opening earlier 0) (sym c.in_ok-push.ensures.items) (fresh-more opening earlier 0 c.sessions.talkers.items next c.sessions.invariant.fresh is);
    }
