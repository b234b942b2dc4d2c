-- The opening of a shared book of groups.
use Rattle.std.specs.Prelude.{ℕ}
use Rattle.edit_journal.specs.declared.opening.Opening.{Opening}
use Rattle.edit_groups.specs.Groups.{GroupView}
use Rattle.edit_groups.specs.declared.chunk.Chunk.{Chunk}
use Rattle.edit_groups.specs.declared.reply.GroupCommand.{GroupCommand}
use Rattle.edit_groups.specs.declared.reply.Told.{Told}
use Rattle.turn_book.specs.Passes.{first_book}
use Rattle.turn_book.specs.declared.pass.Shared.{Shared}

abbrev pub group_book_opening : Shared GroupView GroupCommand Told Chunk Opening → Opening
group_book_opening shared = (first_book shared).opening

-- the session that made a step
abbrev pub session_of_chunk : Chunk → ℕ
session_of_chunk chunk = chunk.session
