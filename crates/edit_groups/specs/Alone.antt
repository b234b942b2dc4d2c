-- A session that has the book for itself: what it keeps between its steps, and what a step of it is answered.
use Rattle.std.specs.Prelude.{◌≡◌, ℕ, List, ◌++◌}
use Rattle.edit_journal.specs.declared.opening.Opening.{Opening}
use Rattle.script_reader.specs.declared.step.Step.{Step}
use Rattle.edit_book.specs.Memory.{Memory}
use Rattle.edit_book.specs.Session.{HasNames, Remembers}
use Rattle.edit_groups.specs.Chunks.{chunk_of, entries_of_chunks, is_put_undo, undoable_of_session}
use Rattle.edit_groups.specs.Sessions.{HeardReply, group_core, step_memory}
use Rattle.edit_groups.specs.declared.chunk.Chunk.{Chunk}
use Rattle.edit_groups.specs.declared.reply.GroupReply.{GroupReply}
use Rattle.edit_groups.specs.declared.session.GroupSession.{GroupSession}
use Rattle.turn_book.specs.Journal.{entry_list}
use Rattle.turn_book.specs.Walk.{IsReplyGiven}

-- the session knows whether an undo of its last step, among these, would put a text back
abbrev pub KnowsLastUndo : List Chunk → GroupSession → Type 0
KnowsLastUndo chunks s = s.last_put ≡ is_put_undo (undoable_of_session s.session.number chunks)

-- behind these accepted steps the session keeps what it remembers, the names of its stamp of the header, and whether an undo would put
-- a text back
pub record IsSessionAt (opening : Opening) (chunks : List Chunk) (m : Memory) (s : GroupSession) : Type 0 where
  pub remembers : Remembers s.session m
  pub names : HasNames opening (entries_of_chunks chunks) s.session
  pub last : KnowsLastUndo chunks s

-- Behind the steps `before` the step c of the session with this number is answered r: that is the answer which is due there, or want of
-- memory. Behind it the accepted steps are those before, and this one if it left edits; the session, which is t since, remembers the reply.
pub record IsAnsweredAt (opening : Opening) (session : ℕ) (m : Memory) (c : Step) (r : GroupReply) (before after : List Chunk) (t : GroupSession) : Type 0 where
  pub heard : HeardReply
  pub reply_is : r ≡ heard.reply
  pub given : IsReplyGiven (group_core opening) session before m c heard
  pub after_is : after ≡ before ++ entry_list (chunk_of session heard.edits)
  pub stands : IsSessionAt opening after (step_memory m c heard) t
