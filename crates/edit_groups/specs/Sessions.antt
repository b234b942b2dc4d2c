-- What a session remembers between its steps, the answer to each, and a legal run of several sessions.
use Rattle.std.specs.Prelude.{◌≡◌, ℕ, ◌+◌, if◌then◌else◌, Bool, true, false, List, [], ◌∷◌, length, map, Option, Some, None, is_some}
use Rattle.carriage_model.specs.declared.verdict.Brief.{Brief}
use Rattle.edit_journal.specs.declared.edit.Edit.{Edit}
use Rattle.edit_journal.specs.declared.edit.Edit.TheVariants as edit
use Rattle.edit_journal.specs.declared.opening.Opening.{Opening}
use Rattle.edit_journal.specs.Entries.{head_id}
use Rattle.script_reader.specs.declared.command.Command.{Command}
use Rattle.script_reader.specs.declared.step.Step.{Step}
use Rattle.script_reader.specs.declared.step.Step.TheVariants as step
use Rattle.edit_book.specs.Memory.{Memory, asked_of_book, base_of, first_memory, memory_after, with_put}
use Rattle.edit_book.specs.declared.reply.Reply.{Reply}
use Rattle.edit_book.specs.declared.reply.Reply.TheVariants as reply
use Rattle.turn_book.specs.Core.{Core}
use Rattle.turn_book.specs.Legal as legal
use Rattle.edit_groups.specs.Answers.{AskedStep, One, Group, Undo, IsStep}
use Rattle.edit_groups.specs.Chunks.{chunk_of, entries_of_chunks, undoable_of_session}
use Rattle.edit_groups.specs.declared.chunk.Chunk.{Chunk}
use Rattle.edit_groups.specs.declared.reply.GroupReply.{GroupReply}
use Rattle.edit_groups.specs.declared.reply.GroupReply.TheVariants as group

-- what a step asks, with what the session remembers; each edit of a group with what it remembers before the group
abbrev pub step_asked : Memory → Step → AskedStep
step_asked m (step.One c) = One (asked_of_book m c)
step_asked m (step.Group cs) = Group (map (asked_of_book m) cs)
step_asked m step.Undo = Undo

-- a reply to a step, how many steps were accepted before it, and the edits that it left
pub record HeardReply : Type 0 where
  pub reply : GroupReply
  pub before : ℕ
  pub edits : List Edit

-- want of memory
abbrev pub short_reply : HeardReply
short_reply = record { reply = group.NoMemory; before = 0; edits = [] }

-- the reply was given at a version, and not by the session alone
abbrev pub is_given_at_version : GroupReply → Bool
is_given_at_version (group.One told) = is_some (base_of told)
is_given_at_version (group.Done version from brief) = true
is_given_at_version (group.Refused base at told) = true
is_given_at_version group.NoUndo = true
is_given_at_version group.NoMemory = false

-- how many steps the step adds to those that were accepted
abbrev pub steps_added : List Edit → ℕ
steps_added [] = 0
steps_added (e ∷ es) = 1

-- the answer to a session's step behind these accepted steps
pub record IsStepHeard (opening : Opening) (session : ℕ) (before : List Chunk) (m : Memory) (c : Step) (h : HeardReply) : Type 0 where
  pub answer : IsStep opening session (entries_of_chunks before) (undoable_of_session session before) (step_asked m c) h.reply h.edits
  pub given : is_given_at_version h.reply ≡ true → h.before ≡ length before

-- the block of an edit
abbrev pub block_in : Edit → ℕ
block_in (edit.Put block seen text) = block
block_in (edit.Add anchor block text) = block
block_in (edit.Cut block seen) = block
block_in (edit.Head seen names) = head_id

-- what is remembered of a group that was done with these edits, the first as the entry with this number: of each what it would be of the edit alone
abbrev pub done_memory : Memory → ℕ → Brief → List Command → List Edit → Memory
done_memory m number brief [] edits = m
done_memory m number brief (c ∷ cs) [] = m
done_memory m number brief (c ∷ cs) (e ∷ es) = done_memory (memory_after m c (reply.Accepted number (block_in e) brief)) (number + 1) brief cs es

-- of one that wasn't: its adds made no block
abbrev pub missed_memory : Memory → List Command → Memory
missed_memory m [] = m
missed_memory m (c ∷ cs) = missed_memory (memory_after m c reply.NoMemory) cs

abbrev pub group_memory : Memory → List Command → GroupReply → List Edit → Memory
group_memory m cs (group.Done version from brief) edits = done_memory m from brief cs edits
group_memory m cs r edits = missed_memory m cs

abbrev pub one_memory : Memory → Command → GroupReply → Memory
one_memory m c (group.One told) = memory_after m c told
one_memory m c r = memory_after m c reply.NoMemory

-- of an undo that put a text back, the block's stamp
abbrev pub put_memory : Memory → GroupReply → Memory
put_memory m (group.One (reply.Accepted version block brief)) = with_put block version m
put_memory m r = m

abbrev pub undo_memory : Memory → GroupReply → List Edit → Memory
undo_memory m r (edit.Put block seen text ∷ es) = put_memory m r
undo_memory m r edits = m

-- what the session remembers after a step
abbrev pub step_memory : Memory → Step → HeardReply → Memory
step_memory m (step.One c) h = one_memory m c h.reply
step_memory m (step.Group cs) h = group_memory m cs h.reply h.edits
step_memory m step.Undo h = undo_memory m h.reply h.edits

-- The book of groups of an opening, as histories of any book see it: its journal is that of the accepted steps.
abbrev pub group_core : Opening → Core Chunk Step HeardReply Memory
group_core opening = record {
  number_of = (λ c. c.session);
  answers = (λ session before m c h. IsStepHeard opening session before m c h);
  entry_of = (λ session m c h. chunk_of session h.edits);
  memory_after = step_memory;
  short = short_reply;
  version_of = (λ h. if is_given_at_version h.reply then Some (h.before + steps_added h.edits) else None);
  base_of = (λ h. if is_given_at_version h.reply then Some h.before else None);
}

-- The accepted steps and the replies are one legal run of these scripts: with the steps that were accepted before each reply, and the edits that each left, they are a legal history of steps.
pub record IsLegalRun (opening : Opening) (scripts : List (List Step)) (chunks : List Chunk) (replies : List (List GroupReply)) : Type 0 where
  pub heard : List (List HeardReply)
  pub replies_are : replies ≡ map (λ list. map (λ h. h.reply) list) heard
  pub legal : legal.IsLegalHistory (group_core opening) (first_memory opening) scripts chunks heard
