use Rattle.std.proofs.Common.{◌≡◌, ◌+◌, ◌-◌, ◌^◌, ◌∷◌, ◌∙◌, ℕ, min, drop, length, sym, ap, subst, arith}
use Rattle.script_reader.specs.declared.command.Command.{Command}
use Rattle.edit_book.specs.Session.{HasStampRoom}
use Rattle.edit_groups.proofs.Learning.{drop_all, drop_got, learning_begins, learning_ends, learning_goes_on}
use Rattle.edit_groups.proofs.session.learn.learn_done.Goals as goal

pub loop-command-init : goal.loop-command-init
loop-command-init c = record {
  room = λ more is. subst (λ (n : ℕ). HasStampRoom n c.args.learned.now) (omega (arith, is)) c.requires.room;
  learning = λ m edits had taught. learning_begins m c.args.from c.args.ids c.args.brief c.args.commands.now edits c.args.learned.now had taught;
}

pub learn-requires : goal.learn-requires
learn-requires c = λ teaches. let r = c.loop-command.invariant.room (length c.args.commands.now - c.loop-command.command-index) (let within = c.loop-command-test.true in omega arith) in
    record { stamps = let few = r.stamps in let within = c.loop-command-test.true in omega arith; made = let few = r.made in let within = c.loop-command-test.true in omega arith }

pub loop-command-preserved : goal.loop-command-preserved
loop-command-preserved c =
    let i = c.loop-command.command-index in let cs = c.args.commands.now in let x = c.command-item.result in
    let rest : drop i cs ≡ x ∷ drop (i + 1) cs = drop_got cs i x c.loop-command-test.true ∙ ap (λ (y : Command). y ∷ drop (i + 1) cs) (sym c.command-item.is) in
    record {
      room = λ more is. c.learn.ensures.room more (c.loop-command.invariant.room (more + 1) (omega (arith, is)));
      learning = λ m edits had taught.
          learning_goes_on m c.args.from c.args.brief cs edits c.args.learned.now.head i c.loop-command.learned c.learn.new.self c.loop-command.version c.loop-command.next_id x c.taught_block-block.result
          c.saturating_add-version.result c.saturating_add-next_id.result (c.loop-command.invariant.learning m edits had taught) rest c.taught_block-block.ensures c.learn.ensures.learned c.learn.ensures.head
          c.saturating_add-version.ensures (c.saturating_add-next_id.ensures ∙ ap (λ (n : ℕ). min (c.loop-command.next_id + n) (2 ^ 32 - 1)) c.ids_drawn.ensures);
    }

pub returns-clause-learned : goal.returns-clause-learned
returns-clause-learned c = λ m edits had taught.
    learning_ends m c.args.from c.args.brief c.args.commands.now edits c.args.learned.now.head c.loop-command.command-index c.loop-command.learned c.loop-command.version c.loop-command.next_id
    (c.loop-command.invariant.learning m edits had taught) (drop_all c.args.commands.now c.loop-command.command-index c.loop-command-test.false)

pub returns-clause-head : goal.returns-clause-head
returns-clause-head c = λ m edits had taught. (c.loop-command.invariant.learning m edits had taught).head_is
