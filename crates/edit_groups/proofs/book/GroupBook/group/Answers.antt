use Rattle.std.proofs.Common.{◌≡◌, ◌<◌, ◌++◌, ◌+◌, ◌∙◌, ℕ, List, IfSome, length, map, ap, subst, sym, arith}
use Rattle.std.proofs.lemmas.List.{length-map}
use Rattle.edit_journal.specs.declared.edit.Entry.{Entry}
use Rattle.edit_journal.specs.declared.opening.Opening.{Opening}
use Rattle.edit_groups.specs.Answers.{Group}
use Rattle.edit_groups.specs.Carried.{IsCarriedOut, IsFirstRefused, IsStopOf}
use Rattle.edit_groups.specs.Chunks.{entries_by, entries_of_chunks, undoable_in}
use Rattle.edit_groups.specs.Groups.{GroupView, IsStepTaken, IsUndoable, edit_asked}
use Rattle.edit_groups.specs.declared.reply.GroupReply.{GroupReply}
use Rattle.edit_groups.proofs.Groups.{group_undone, has_edits, taken_done, taken_first, taken_stopped}
use Rattle.edit_groups.proofs.book.GroupBook.group.Goals as goal
use Rattle.edit_groups.proofs.book.GroupBook.group.Goals.{In-Ok-carry_out}
use Rattle.edit_groups.proofs.book.GroupBook.group.Given.{Over}

-- what was carried out on the copy
carried : (g : Over) (c : In-Ok-carry_out g) → IsCarriedOut c.args.self.now.opening c.args.number c.self.inside.book.entries (map edit_asked c.args.edits) c.in-Ok-carry_out.edits c.carry_out.new.book.entries
carried g c = subst (λ (p : Opening × List Entry). IsCarriedOut p.0 c.args.number p.1 (map edit_asked c.args.edits) c.in-Ok-carry_out.edits c.carry_out.new.book.entries)
    (λ i. ((c.in-Ok.ensures.opening ∙ ap (λ (v : GroupView). v.opening) c.self.view_is) i, c.in-Ok.ensures.entries i)) c.in-Ok-carry_out.ensures.done

some : (g : Over) (c : In-Ok-carry_out g) → 0 < length (map edit_asked c.args.edits)
some g c = let many = length-map c.args.edits edit_asked in let asked = c.requires.some.0 in omega (arith, many, asked)

pub returns-in-Some-clause-taken : goal.returns-in-Some-clause-taken
returns-in-Some-clause-taken g c =
    taken_first c.args.self.now.opening c.args.self.now.chunks c.args.number c.self.inside.book.entries (c.self.invariant.entries ∙ ap (λ (v : GroupView). entries_of_chunks v.chunks) c.self.view_is) (map edit_asked c.args.edits) c.version-base.result c.in-Some.reply
    c.version-base.ensures.version (subst (λ (o : Opening). IsFirstRefused o c.self.inside.book.entries (map edit_asked c.args.edits) c.in-Some.reply) (ap (λ (v : GroupView). v.opening) c.self.view_is) c.in-Some.ensures)

pub take_over-requires-clause-some : goal.take_over-requires-clause-some
take_over-requires-clause-some g c = let c = (goal.at.take_over-requires-clause-some g c).In-Ok-carry_out in
    has_edits c.args.self.now.opening c.args.self.now.chunks c.args.number c.self.inside.book.entries (c.self.invariant.entries ∙ ap (λ (v : GroupView). entries_of_chunks v.chunks) c.self.view_is) (map edit_asked c.args.edits) c.in-Ok-carry_out.edits c.carry_out.new.book.entries
    (carried g c) (some g c)

pub take_over-requires-clause-undone : goal.take_over-requires-clause-undone
take_over-requires-clause-undone g c = let c = (goal.at.take_over-requires-clause-undone g c).In-Ok-carry_out in
    let same : c.self.inside.book.entries ≡ entries_of_chunks c.args.self.now.chunks = c.self.invariant.entries ∙ ap (λ (v : GroupView). entries_of_chunks v.chunks) c.self.view_is in
    subst (λ (j : List Entry). IfSome (undoable_in (length j + 1) c.in-Ok-carry_out.edits) (IsUndoable c.args.self.now.opening (j ++ entries_by c.args.number c.in-Ok-carry_out.edits))) same
    (group_undone c.args.self.now.opening c.args.self.now.chunks c.args.number c.self.inside.book.entries same (map edit_asked c.args.edits) c.in-Ok-carry_out.edits c.carry_out.new.book.entries (carried g c) (some g c))

pub returns-in-Ok-carry_out-clause-taken : goal.returns-in-Ok-carry_out-clause-taken
returns-in-Ok-carry_out-clause-taken g c = let d = (goal.at.returns-in-Ok-carry_out-clause-taken g c).In-Ok-carry_out in
    taken_done c.args.self.now.opening c.args.self.now.chunks c.args.number c.self.inside.book.entries (c.self.invariant.entries ∙ ap (λ (v : GroupView). entries_of_chunks v.chunks) c.self.view_is) (map edit_asked c.args.edits) c.in-Ok-carry_out.edits c.carry_out.new.book.entries
    (carried g d) (some g d) c.take_over.result c.take_over.new.self.chunks c.take_over.ensures.taken

pub returns-in-Err-clause-taken : goal.returns-in-Err-clause-taken
returns-in-Err-clause-taken g c =
    subst (λ (r : GroupReply). IsStepTaken c.args.self.now.opening c.args.self.now.chunks c.args.number (Group (map edit_asked c.args.edits)) r c.args.self.now.chunks) (sym c.stop_reply.ensures)
    (taken_stopped c.args.self.now.opening c.args.self.now.chunks c.args.number c.self.inside.book.entries (c.self.invariant.entries ∙ ap (λ (v : GroupView). entries_of_chunks v.chunks) c.self.view_is) (map edit_asked c.args.edits) c.version-base.result c.in-Err.stop
    c.version-base.ensures.version
    (subst (λ (p : Opening × List Entry). IsStopOf p.0 c.args.number p.1 (map edit_asked c.args.edits) c.in-Err.stop) (λ i. ((c.in-Ok.ensures.opening ∙ ap (λ (v : GroupView). v.opening) c.self.view_is) i, c.in-Ok.ensures.entries i)) c.in-Err.ensures.stopped))
