use Rattle.std.proofs.Common.{◌≡◌, ◌≤◌, ◌+◌, ◌++◌, ◌∷◌, [], ◌∙◌, List, length, map, take, length-append, sym, ap, refl, subst, arith}
use Rattle.std.proofs.lemmas.List.{map-append, take_all, take_more}
use Rattle.script_reader.specs.Groups.{is_edit}
use Rattle.script_reader.specs.declared.command.Command.{Command}
use Rattle.edit_book.specs.Memory.{asked_of_book}
use Rattle.edit_groups.specs.Groups.{AreFitEdits, edit_asked}
use Rattle.edit_groups.specs.declared.reply.GroupEdit.{GroupEdit}
use Rattle.edit_groups.proofs.GroupAsked.{all_got, fit_edits_more}
use Rattle.edit_groups.proofs.session.group.asked_edits.Goals as goal

pub loop-command-init : goal.loop-command-init
loop-command-init g c = record {
  count = ap length c.new-edits.ensures;
  fit = λ opening journal profile names. subst (AreFitEdits opening journal) (sym c.new-edits.ensures) tt;
  asked = λ m had. ap (map edit_asked) c.new-edits.ensures;
}

pub asked_edit-requires-clause-edit : goal.asked_edit-requires-clause-edit
asked_edit-requires-clause-edit g c =
    ap is_edit c.command-item.is ∙ all_got is_edit c.args.commands.now c.loop-command.command-index c.command-item.result c.requires.edits c.loop-command-test.true

pub push-requires : goal.push-requires
push-requires g c = let few = c.requires.few in let at = c.loop-command-test.true in let count = c.loop-command.invariant.count in omega (arith, few, at, count)

pub loop-command-preserved : goal.loop-command-preserved
loop-command-preserved g c =
    let i = c.loop-command.command-index in let cs = c.args.commands.now in let x = c.command-item.result in let e : GroupEdit = c.in_ok-asked_edit.field-0 in
    let more : take (i + 1) cs ≡ take i cs ++ x ∷ [] = take_more cs i x c.loop-command-test.true ∙ ap (λ (y : Command). take i cs ++ y ∷ []) (sym c.command-item.is) in
    let pushed : c.push.new.self ≡ c.loop-command.edits ++ e ∷ [] = c.in_ok-push.ensures.ok in
    record {
      count = ap length pushed ∙ length-append c.loop-command.edits (e ∷ []) ∙ ap (λ n. n + 1) c.loop-command.invariant.count;
      fit = λ opening journal profile names. subst (AreFitEdits opening journal) (sym pushed)
          (fit_edits_more opening journal c.loop-command.edits e (c.loop-command.invariant.fit opening journal profile names) (c.in_ok-asked_edit.ensures.fits opening journal profile names));
      asked = λ m had.
          ap (map edit_asked) pushed
          ∙ map-append edit_asked c.loop-command.edits (e ∷ [])
          ∙ ap (λ l. l ++ edit_asked e ∷ []) (c.loop-command.invariant.asked m had)
          ∙ ap (λ a. map (asked_of_book m) (take i cs) ++ a ∷ []) (c.in_ok-asked_edit.ensures.asked m had)
          ∙ sym (map-append (asked_of_book m) (take i cs) (x ∷ []))
          ∙ ap (map (asked_of_book m)) (sym more);
    }

pub returns-clause-count : goal.returns-clause-count
returns-clause-count g c = let count = c.loop-command.invariant.count in let past = c.loop-command-test.false in let within = c.loop-command.auto.command-index-end in omega (arith, count, past, within)

pub returns-clause-fit : goal.returns-clause-fit
returns-clause-fit g c = c.loop-command.invariant.fit

pub returns-clause-asked : goal.returns-clause-asked
returns-clause-asked g c = λ m had. c.loop-command.invariant.asked m had ∙ ap (map (asked_of_book m)) (take_all c.loop-command.command-index c.args.commands.now c.loop-command-test.false)
