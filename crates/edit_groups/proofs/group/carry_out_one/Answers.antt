use Rattle.std.proofs.Common.{◌∙◌, ap, sym, subst, ℕ}
use Rattle.std.specs.Option.{option_to_list}
use Rattle.edit_journal.specs.declared.edit.Edit.{Edit}
use Rattle.edit_book.specs.Replies.{edit_of, request_of_command}
use Rattle.edit_groups.specs.Carried.{IsEditDone}
use Rattle.edit_groups.specs.Groups.{edit_asked}
use Rattle.edit_groups.specs.declared.reply.GroupEdit.{GroupEdit}
use Rattle.edit_groups.proofs.Ones.{only_edit}
use Rattle.edit_groups.proofs.group.carry_out_one.Goals as goal

pub returns-in-Some-clause-done : goal.returns-in-Some-clause-done
returns-in-Some-clause-done g c =
    let asked = c.in-Ok.ensures ∙ ap (λ (n : ℕ). option_to_list (edit_of (request_of_command c.in-Ready.command) n)) c.ids.ensures.ids in
    subst (λ (x : GroupEdit). IsEditDone c.args.book.now.opening c.args.number c.args.book.now.entries (edit_asked x) c.in-Some.edit c.act.new.self.entries) (sym c.in-Ready.is)
    (only_edit c.args.book.now c.act.new.self c.args.number c.in-Ready.command c.in-Accepted.version c.in-Accepted.block c.in-Accepted.brief c.in-Ok.edits c.in-Accepted.ensures.turn asked c.pop.new.self c.in-Some.edit c.in-Some.ensures.last)
