use Rattle.std.proofs.Common.{rules, ap, sym, subst, ◌≡◌, ◌∙◌, ◌+◌, ◌++◌, ◌∷◌, [], List, take, length}
use Rattle.std.proofs.lemmas.List.{take_more, length-take}
use Rattle.script_reader.specs.declared.command.Command.{Command}
use Rattle.edit_sessions.specs.Talks.{IsTalkReady}
use Rattle.edit_sessions.specs.declared.talk.Talk.{Talk}
use Rattle.edit_book.proofs.NamesKept.{names_at_start}
use Rattle.turn_book.specs.Ready.{AreReady}
use Rattle.turn_book.proofs.Talked.{ready_more}
use Rattle.edit_sessions.proofs.run.begin.Goals as goal

pub loop-i-preserved : goal.loop-i-preserved
loop-i-preserved c = record {
  count = search rules;
  ready = λ opening blocks names.
      let i = c.loop-i.i in
      let scripts = c.args.scripts.now in
      let made : Talk = record { session = c.in_ok-session.session; replies = c.in_ok-replies.replies } in
      let number = c.in_ok-session.ensures.number in
      let one : IsTalkReady opening (c.args.first + length (take i scripts)) c.index-scripts-i.result made = record {
        number = search (rules, length-take);
        remembers = c.in_ok-session.ensures.remembers opening blocks;
        names = names_at_start opening c.in_ok-session.session (c.in_ok-session.ensures.remembers opening blocks) (names ∙ sym c.in_ok-session.ensures.names);
        empty = c.in_ok-replies.ensures.items;
        room = search rules;
      } in
      let more : take (i + 1) scripts ≡ take i scripts ++ c.index-scripts-i.result ∷ [] = take_more scripts i c.index-scripts-i.result c.loop-i-test.true ∙ ap (λ x. take i scripts ++ x ∷ []) (sym c.index-scripts-i.is) in
      subst (λ (p : List (List Command) × List Talk). AreReady (IsTalkReady opening) c.args.first p.0 p.1) (λ k. (sym more k, sym c.in_ok-push.ensures.items k))
      (ready_more (IsTalkReady opening) c.args.first (take i scripts) c.loop-i.talks.items c.index-scripts-i.result made (c.loop-i.invariant.ready opening blocks names) one);
}
