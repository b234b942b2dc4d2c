use Rattle.std.proofs.Common.{sym, ◌∙◌}
use Rattle.script_reader.proofs.Listeners.{edit_known, plain_known}
use Rattle.script_reader.proofs.listener.alone.alone.Goals as goal

pub returns-else-not-names_known-clause-moved : goal.returns-else-not-names_known-clause-moved
returns-else-not-names_known-clause-moved c = λ h none at counted.
    plain_known c.whole.result h c.args.number c.args.request.session c.args.request.asked c.in-Plain.command_line c.in-Plain.is
    (sym (c.names_known.ensures (h.adds c.args.request.session) counted) ∙ c.if-not-names_known.false) (c.whole.ensures.moved h c.args.number none at)

pub returns-else-not-names_known-2-clause-moved : goal.returns-else-not-names_known-2-clause-moved
returns-else-not-names_known-2-clause-moved c = λ h none at counted.
    edit_known c.awaited.result h c.args.number c.args.request.session c.in-Edit.count c.args.request.asked c.in-Edit.command_line c.in-Edit.is
    (sym (c.names_known-in-Edit.ensures (h.adds c.args.request.session) counted) ∙ c.if-not-names_known-2.false) (c.awaited.ensures.moved h c.args.number none at)
