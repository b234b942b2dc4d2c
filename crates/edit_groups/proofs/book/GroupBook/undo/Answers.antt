use Rattle.std.proofs.Common.{◌≡◌, ◌≤◌, ◌+◌, Some, None, arith, subst}
use Rattle.edit_groups.specs.Chunks.{entries_of_chunks, undoable_of_session}
use Rattle.edit_groups.specs.Groups.{IsUndoing}
use Rattle.edit_groups.proofs.Undone.{taken_nothing, taken_undo}
use Rattle.edit_groups.proofs.book.GroupBook.undo.Goals as goal

pub returns-in-Ok-Some-clause-taken : goal.returns-in-Ok-Some-clause-taken
returns-in-Ok-Some-clause-taken g c =
    taken_undo c.args.self.now.opening c.args.self.now.chunks c.one.new.self.chunks c.args.number c.in-Ok-Some.command c.one.result
    (subst (IsUndoing c.args.self.now.opening (entries_of_chunks c.args.self.now.chunks) (undoable_of_session c.args.number c.args.self.now.chunks)) c.in-Ok-Some.field-0-is c.in-Ok-Some.ensures.undoes) c.one.ensures.taken

pub returns-in-Ok-None-clause-taken : goal.returns-in-Ok-None-clause-taken
returns-in-Ok-None-clause-taken g c =
    taken_nothing c.args.self.now.opening c.args.self.now.chunks c.args.number
    (subst (IsUndoing c.args.self.now.opening (entries_of_chunks c.args.self.now.chunks) (undoable_of_session c.args.number c.args.self.now.chunks)) c.in-Ok-None.field-0-is c.in-Ok-None.ensures.undoes)
