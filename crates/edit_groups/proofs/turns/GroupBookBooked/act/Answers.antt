use Rattle.std.proofs.Common.{◌≡◌, ◌≤◌, ◌∙◌, List, length, ap, subst, sym, arith}
use Rattle.edit_journal.specs.declared.edit.Entry.{Entry}
use Rattle.edit_journal.specs.declared.opening.Opening.{Opening}
use Rattle.edit_journal.specs.Documents.{document_of}
use Rattle.edit_journal.specs.Entries.{entry_limit}
use Rattle.edit_groups.specs.Chunks.{entries_of_chunks}
use Rattle.edit_groups.specs.Groups.{GroupView}
use Rattle.edit_groups.proofs.Taken.{taken_right}
use Rattle.edit_groups.proofs.turns.GroupBookBooked.act.Goals as goal

pub returns-clause-turn : goal.returns-clause-turn
returns-clause-turn g c =
    let journal : c.self.inside.book.entries ≡ entries_of_chunks c.args.self.now.chunks = c.self.invariant.entries ∙ ap (λ (v : GroupView). entries_of_chunks v.chunks) c.self.view_is in
    let drawn : c.ids-ids.result ≡ (document_of c.args.self.now.opening (entries_of_chunks c.args.self.now.chunks)).drawn =
    c.ids-ids.ensures.ids ∙ ap (λ (p : Opening × List Entry). (document_of p.0 p.1).drawn) (λ i. (ap (λ (v : GroupView). v.opening) c.self.view_is i, journal i)) in
    taken_right c.args.self.now.opening c.args.self.now.chunks c.carry_out-reply.new.self.chunks c.args.number c.args.command (record { reply = c.carry_out-reply.result; step = c.count-step.result; ids = c.ids-ids.result })
    c.count-step.ensures drawn (subst (λ (j : List Entry). length j ≤ entry_limit) journal c.ids-ids.ensures.lawful.fits.entries_fit)
    (let f = c.ids-ids.ensures.lawful.fits in let few = f.entries_fit in let drawn = f.ids_fit in let ids = c.ids-ids.ensures.ids in omega (arith, few, drawn, ids)) c.carry_out-reply.ensures.taken
