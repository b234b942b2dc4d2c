use Rattle.std.proofs.Common.{◌≡◌, ◌+◌, ◌++◌, ◌∷◌, [], ◌∙◌, List, take, sym, ap, refl, subst, arith}
use Rattle.std.proofs.lemmas.List.{take_all, take_more}
use Rattle.script_reader.specs.declared.command.Command.{Command}
use Rattle.edit_book.specs.Session.{HasLearned}
use Rattle.edit_book.specs.declared.reply.Reply.TheVariants.{NoMemory}
use Rattle.edit_book.proofs.NamesKept.{head_kept}
use Rattle.edit_groups.specs.Sessions.{missed_memory}
use Rattle.edit_groups.proofs.Learning.{missed_push}
use Rattle.edit_groups.proofs.session.learn.learn_missed.Goals as goal

pub loop-command-init : goal.loop-command-init
loop-command-init c = record { learned = λ m had. had; head = refl }

pub loop-command-preserved : goal.loop-command-preserved
loop-command-preserved c =
    let i = c.loop-command.command-index in let cs = c.args.commands.now in let x = c.command-item.result in
    let more : take (i + 1) cs ≡ take i cs ++ x ∷ [] = take_more cs i x c.loop-command-test.true ∙ ap (λ (y : Command). take i cs ++ y ∷ []) (sym c.command-item.is) in
    record {
      learned = λ m had. subst (HasLearned c.learn.new.self) (sym (ap (missed_memory m) more ∙ missed_push m (take i cs) x)) (c.learn.ensures.learned (missed_memory m (take i cs)) (c.loop-command.invariant.learned m had));
      head = c.learn.ensures.head ∙ head_kept x NoMemory c.loop-command.learned.head tt ∙ c.loop-command.invariant.head;
    }

pub returns-clause-learned : goal.returns-clause-learned
returns-clause-learned c = λ m had.
    subst (λ (cs : List Command). HasLearned c.loop-command.learned (missed_memory m cs)) (take_all c.loop-command.command-index c.args.commands.now c.loop-command-test.false) (c.loop-command.invariant.learned m had)
