use Rattle.std.proofs.Common.{rules, ap, refl, sym, subst, ◌≡◌, ◌∙◌, ◌+◌, ◌++◌, ◌∷◌, [], List, take, length}
use Rattle.std.specs.List.{list_all}
use Rattle.std.proofs.lemmas.List.{take_more, length-take}
use Rattle.script_reader.specs.Groups.{is_lawful_step}
use Rattle.script_reader.specs.declared.step.Step.{Step}
use Rattle.edit_groups.specs.Talks.{IsGroupTalkReady}
use Rattle.edit_groups.specs.declared.talk.Talk.{Talk}
use Rattle.edit_groups.proofs.GroupAsked.{all_got}
use Rattle.turn_book.specs.Ready.{AreReady}
use Rattle.turn_book.proofs.Talked.{ready_more}
use Rattle.edit_groups.proofs.run.begin.Goals as goal

pub loop-i-preserved : goal.loop-i-preserved
loop-i-preserved c = record {
  count = search rules;
  ready = λ opening blocks names.
      let i = c.loop-i.i in
      let scripts = c.args.scripts.now in
      let made : Talk = record { session = c.in_ok-session.session; replies = c.in_ok-replies.replies } in
      let number = c.in_ok-session.ensures.number in
      let one : IsGroupTalkReady opening (c.args.first + length (take i scripts)) c.index-scripts-i.result made = record {
        number = search (rules, length-take);
        stands = c.in_ok-session.ensures.stands opening [] blocks names refl;
        empty = c.in_ok-replies.ensures.items;
        room = search rules;
        lawful = ap (list_all is_lawful_step) c.index-scripts-i.is ∙ all_got (list_all is_lawful_step) scripts i c.index-scripts-i.result c.requires.steps c.loop-i-test.true;
      } in
      let more : take (i + 1) scripts ≡ take i scripts ++ c.index-scripts-i.result ∷ [] = take_more scripts i c.index-scripts-i.result c.loop-i-test.true ∙ ap (λ x. take i scripts ++ x ∷ []) (sym c.index-scripts-i.is) in
      subst (λ (p : List (List Step) × List Talk). AreReady (IsGroupTalkReady opening) c.args.first p.0 p.1) (λ k. (sym more k, sym c.in_ok-push.ensures.items k))
      (ready_more (IsGroupTalkReady opening) c.args.first (take i scripts) c.loop-i.talks.items c.index-scripts-i.result made (c.loop-i.invariant.ready opening blocks names) one);
}
