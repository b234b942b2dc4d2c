-- What one step of a session does. No public contract speaks of it.
use Rattle.std.specs.Prelude.{◌≡◌, ◌≢◌, ℕ, ◌+◌, ◌<◌, ◌^◌, Bool, true, false, List, [], ◌∷◌, ◌++◌, length, Option, None, Some, unwrap_or}
use Rattle.edit_journal.specs.declared.edit.Edit.{Edit}
use Rattle.edit_journal.specs.declared.edit.Edit.TheVariants as edit
use Rattle.edit_journal.specs.declared.edit.Entry.{Entry}
use Rattle.edit_journal.specs.declared.opening.Opening.{Opening}
use Rattle.edit_journal.specs.Entries.{head_id}
use Rattle.script_reader.specs.declared.command.Command.{Command}
use Rattle.script_reader.specs.declared.command.Command.TheVariants as command
use Rattle.script_reader.specs.declared.step.Step.{Step}
use Rattle.script_reader.specs.declared.step.Step.TheVariants as step
use Rattle.edit_book.specs.Memory.{Memory, head_told, block_id_of_name}
use Rattle.edit_book.specs.Session.{HasNames, Remembers}
use Rattle.edit_book.specs.Turns as book
use Rattle.edit_book.specs.declared.reply.BookCommand.{BookCommand}
use Rattle.edit_book.specs.declared.reply.Reply.{Reply}
use Rattle.edit_book.specs.declared.reply.Reply.TheVariants as reply
use Rattle.edit_groups.specs.Alone.{KnowsLastUndo}
use Rattle.edit_groups.specs.Chunks.{entries_of_chunks}
use Rattle.edit_groups.specs.Sessions.{HeardReply, group_core, put_memory, step_memory}
use Rattle.edit_groups.specs.declared.chunk.Chunk.{Chunk}
use Rattle.edit_groups.specs.declared.reply.GroupReply.{GroupReply}
use Rattle.edit_groups.specs.declared.reply.GroupReply.TheVariants as group
use Rattle.edit_groups.specs.declared.reply.Told.{Told}
use Rattle.edit_groups.specs.declared.session.GroupSession.{GroupSession}
use Rattle.turn_book.specs.declared.view.View.{View}
use Rattle.turn_book.specs.Journal.{Foreign, entry_list}
use Rattle.turn_book.specs.Taken.{IsCommandTaken}

-- the step of one entry
abbrev pub step_of : Option Entry → Option Chunk
step_of None = None
step_of (Some e) = Some (record { session = e.session; edits = e.edit ∷ []; earlier = false })

-- A turn of one command: it finds a journal that goes on with steps of others, and is right there as a turn of the book of these entries is; its entry is one step more.
pub record IsOneTurn (opening : Opening) (session : ℕ) (c : BookCommand) (r : Reply) (v w : View Opening Chunk) : Type 0 where
  pub more : List Chunk
  pub added : Option Entry
  pub foreign : Foreign (λ (k : Chunk). k.session) v.first v.past more
  pub right : book.IsRightReply opening (entries_of_chunks (v.seen ++ more)) session c r added
  pub seen : w.seen ≡ (v.seen ++ more) ++ entry_list (step_of added)
  pub first : w.first ≡ v.first
  pub past : w.past ≡ v.past

-- what a step of one command is answered
abbrev pub one_reply : Reply → GroupReply
one_reply reply.NoMemory = group.NoMemory
one_reply r = group.One r

-- one command was answered so
pub record IsOneHeard (opening : Opening) (session : ℕ) (m : Memory) (c : Command) (r : Reply) (v w : View Opening Chunk) : Type 0 where
  pub heard : HeardReply
  pub reply_is : one_reply r ≡ heard.reply
  pub taken : IsCommandTaken (group_core opening) session m (step.One c) heard v w

abbrev pub is_put_command : Command → Bool
is_put_command (command.Put name text) = true
is_put_command c = false

-- whether the session's last accepted step is a put, after this reply to a command
abbrev pub put_after : Command → Reply → Bool → Bool
put_after c (reply.Accepted version block brief) before = is_put_command c
put_after c r before = before

abbrev pub is_one_put : List Command → Bool
is_one_put [] = false
is_one_put (c ∷ []) = is_put_command c
is_one_put (c ∷ next ∷ more) = false

-- the edit is that of the command, with the block that its name means, or with the next id, and not with the header's
abbrev pub IsToldOf : Memory → ℕ → Command → Edit → Type 0
IsToldOf m next_id (command.Put name text) (edit.Put block seen lines) = (block_id_of_name m name ≡ Some block) × (block ≢ head_id)
IsToldOf m next_id (command.Add place text) (edit.Add anchor block lines) = (next_id ≡ block) × (block ≢ head_id)
IsToldOf m next_id (command.Cut name) (edit.Cut block seen) = Unit {0}
IsToldOf m next_id c e = ⊥

-- how many ids the command draws
abbrev pub ids_drawn : Command → ℕ
ids_drawn (command.Add place text) = 1
ids_drawn c = 0

-- the block of an edit that was done: the one that a put's name means, or the next id
abbrev pub taught_block : Memory → Command → ℕ → ℕ
taught_block m (command.Put name text) next_id = unwrap_or (block_id_of_name m name) 0
taught_block m c next_id = next_id

-- these are the edits of the commands of a group, where so many ids were drawn before them
abbrev pub AreEditsOfGroup : Memory → ℕ → List Command → List Edit → Type 0
AreEditsOfGroup m next_id [] [] = Unit {0}
AreEditsOfGroup m next_id (c ∷ cs) (e ∷ es) = IsToldOf m next_id c e × AreEditsOfGroup m (next_id + ids_drawn c) cs es
AreEditsOfGroup m next_id cs es = ⊥

-- and their numbers and ids are within the range of numbers
pub record IsTaught (m : Memory) (from ids : ℕ) (cs : List Command) (edits : List Edit) : Type 0 where
  pub told : AreEditsOfGroup m ids cs edits
  pub numbers : from + length cs < 2 ^ 32
  pub ids_fit : ids + length cs < 2 ^ 32

abbrev pub IsTaughtWhereDone : Memory → ℕ → List Command → GroupReply → List Edit → Type 0
IsTaughtWhereDone m ids cs (group.Done version from brief) edits = IsTaught m from ids cs edits
IsTaughtWhereDone m ids cs r edits = Unit {0}

-- a group was answered so
pub record IsGroupHeard (opening : Opening) (session : ℕ) (m : Memory) (cs : List Command) (told : Told) (v w : View Opening Chunk) : Type 0 where
  pub heard : HeardReply
  pub reply_is : told.reply ≡ heard.reply
  pub taken : IsCommandTaken (group_core opening) session m (step.Group cs) heard v w
  pub taught : IsTaughtWhereDone m told.ids cs heard.reply heard.edits

-- what is remembered after an undo, where it is known whether that was to put a text back
abbrev pub undone_memory : Memory → Bool → GroupReply → Memory
undone_memory m true r = put_memory m r
undone_memory m false r = m

-- and the stamp of the header then
abbrev pub put_head : GroupReply → ℕ → ℕ
put_head (group.One (reply.Accepted version block brief)) head = head_told (Some (block, version)) head
put_head r head = head

abbrev pub undone_head : Bool → GroupReply → ℕ → ℕ
undone_head true r head = put_head r head
undone_head false r head = head

-- the session remembers something, and the names that it keeps are those of its stamp of the header
pub record IsSessionKept (opening : Opening) (seen : List Chunk) (s : GroupSession) : Type 0 where
  pub memory : Memory
  pub remembers : Remembers s.session memory
  pub names : HasNames opening (entries_of_chunks seen) s.session

-- The session s has heard this reply to its step, and is t since. Where it knew whether an undo would put a text back, it remembers the reply, and knows the same of this step.
pub record IsStepDone (opening : Opening) (m : Memory) (c : Step) (r : GroupReply) (v w : View Opening Chunk) (s t : GroupSession) : Type 0 where
  pub heard : HeardReply
  pub reply_is : r ≡ heard.reply
  pub taken : IsCommandTaken (group_core opening) s.session.number m c heard v w
  pub kept : IsSessionKept opening w.seen t
  pub remembers : KnowsLastUndo v.seen s → Remembers t.session (step_memory m c heard)
  pub last : KnowsLastUndo v.seen s → KnowsLastUndo w.seen t
