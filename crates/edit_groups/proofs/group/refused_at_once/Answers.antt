use Rattle.std.proofs.Common.{◌∙◌, ap, sym, Some}
use Rattle.edit_groups.specs.declared.reply.GroupEdit.{GroupEdit}
use Rattle.edit_groups.proofs.Refused.{first_fits, first_own, first_refused}
use Rattle.edit_groups.proofs.group.refused_at_once.Goals as goal

pub refusal-requires : goal.refusal-requires
refusal-requires c = first_fits c.args.book.now.opening c.args.book.now.entries c.args.edits.now c.in-Ready.command (ap (λ (e : GroupEdit). Some e) (sym c.in-Ready.is) ∙ c.in_ok-command.ensures) c.requires

pub returns-in-Ready : goal.returns-in-Ready
returns-in-Ready c =
    first_refused c.args.book.now.opening c.args.book.now.entries c.args.edits.now c.in-Ready.command c.refusal.result (ap (λ (e : GroupEdit). Some e) (sym c.in-Ready.is) ∙ c.in_ok-command.ensures) c.refusal.ensures

pub returns-in-Refused : goal.returns-in-Refused
returns-in-Refused c = first_own c.args.book.now.opening c.args.book.now.entries c.args.edits.now c.in-Refused.reply c.own_refusal.result (ap (λ (e : GroupEdit). Some e) (sym c.in-Refused.is) ∙ c.in_ok-command.ensures) c.own_refusal.ensures
