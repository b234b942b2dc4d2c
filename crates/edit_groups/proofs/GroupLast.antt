-- What a group leaves of the session's last step, and of what it remembers where the group wasn't done.
use Rattle.std.proofs.Common.{◌≡◌, ⊎_elim, ℕ, ◌+◌, ◌<◌, ◌≤◌, Bool, true, false, List, [], ◌∷◌, ◌++◌, length, map, Option, Result, sym, ap, ◌∙◌, refl, subst, arith}
use Rattle.carriage_model.specs.declared.verdict.Brief.{Brief}
use Rattle.edit_journal.specs.declared.edit.Edit.{Edit}
use Rattle.edit_journal.specs.declared.edit.Edit.TheVariants as edit
use Rattle.edit_journal.specs.declared.edit.Entry.{Entry}
use Rattle.edit_journal.specs.declared.opening.Opening.{Opening}
use Rattle.script_reader.specs.declared.command.Command.{Command}
use Rattle.script_reader.specs.declared.command.Command.TheVariants as command
use Rattle.script_reader.specs.declared.step.Step.TheVariants as step
use Rattle.edit_book.specs.Memory.{Memory, asked_of_book}
use Rattle.edit_book.specs.Replies.{Request}
use Rattle.edit_book.specs.declared.reply.Reply.{Reply}
use Rattle.turn_book.specs.declared.view.View.{View}
use Rattle.turn_book.specs.Taken.{IsCommandTaken}
use Rattle.edit_groups.specs.Answers.{IsGroupAnswered, done, refused}
use Rattle.edit_groups.specs.Chunks.{entries_of_chunks, is_put, is_put_undo, undoable_of_session}
use Rattle.edit_groups.specs.Sessions.{HeardReply, IsStepHeard, group_core, group_memory, missed_memory, short_reply}
use Rattle.edit_groups.specs.Turns.{AreEditsOfGroup, IsToldOf, ids_drawn, is_one_put, is_put_command}
use Rattle.edit_groups.specs.declared.chunk.Chunk.{Chunk}
use Rattle.edit_groups.specs.declared.reply.GroupReply.{GroupReply}
use Rattle.edit_groups.specs.declared.reply.GroupReply.TheVariants as group
use Rattle.edit_groups.proofs.LastPuts.{puts_behind, taken_puts}

-- the edit is a put where the command is one
told_put : (m : Memory) (next_id : ℕ) (c : Command) (e : Edit) → IsToldOf m next_id c e → is_put e ≡ is_put_command c
told_put m next_id (command.Put name text) (edit.Put id seen lines) told = refl
told_put m next_id (command.Add place text) (edit.Add anchor id lines) told = refl
told_put m next_id (command.Cut name) (edit.Cut id seen) told = refl
told_put m next_id (command.Put name text) (edit.Add anchor id lines) told = absurd told
told_put m next_id (command.Put name text) (edit.Cut id seen) told = absurd told
told_put m next_id (command.Put name text) (edit.Head seen given) told = absurd told
told_put m next_id (command.Add place text) (edit.Put id seen lines) told = absurd told
told_put m next_id (command.Add place text) (edit.Cut id seen) told = absurd told
told_put m next_id (command.Add place text) (edit.Head seen given) told = absurd told
told_put m next_id (command.Cut name) (edit.Put id seen lines) told = absurd told
told_put m next_id (command.Cut name) (edit.Add anchor id lines) told = absurd told
told_put m next_id (command.Cut name) (edit.Head seen given) told = absurd told
told_put m next_id (command.Look name) e told = absurd told
told_put m next_id (command.LoopAt line) e told = absurd told
told_put m next_id command.Verdict e told = absurd told
told_put m next_id command.LookHead e told = absurd told
told_put m next_id (command.PutHead given) e told = absurd told

told_puts : (m : Memory) (next_id : ℕ) (cs : List Command) (edits : List Edit) (before : Bool) → 0 < length cs → AreEditsOfGroup m next_id cs edits → puts_behind edits before ≡ is_one_put cs
told_puts m next_id [] edits before some told = absurd (omega arith)
told_puts m next_id (c ∷ cs) [] before some told = absurd told
told_puts m next_id (c ∷ []) (e ∷ []) before some told = told_put m next_id c e told.0
told_puts m next_id (c ∷ []) (e ∷ f ∷ es) before some told = absurd told.1
told_puts m next_id (c ∷ d ∷ cs) (e ∷ []) before some told = absurd told.1
told_puts m next_id (c ∷ d ∷ cs) (e ∷ f ∷ es) before some told = refl

-- of a group that was done
pub done_puts : (o : Opening) (n : ℕ) (m : Memory) (cs : List Command) (h : HeardReply) (ids : ℕ) (v w : View Opening Chunk) → v.first ≤ n → n < v.past → 0 < length cs → AreEditsOfGroup m ids cs h.edits → IsCommandTaken (group_core o) n m (step.Group cs) h v w
    → is_one_put cs ≡ is_put_undo (undoable_of_session n w.seen)
done_puts o n m cs h ids v w above below some told t = sym (taken_puts o n m (step.Group cs) h v w above below t ∙ told_puts m ids cs h.edits (is_put_undo (undoable_of_session n v.seen)) some told)

abbrev pub NotDone : GroupReply → Type 0
NotDone r = (version from : ℕ) (brief : Brief) → r ≡ group.Done version from brief → ⊥

-- of one that wasn't
quiet : (o : Opening) (n : ℕ) (journal : List Entry) (asks : List (Result Request Reply)) (r : GroupReply) (edits : List Edit) (before : Bool) → NotDone r → IsGroupAnswered o n journal asks r edits → puts_behind edits before ≡ before
quiet o n journal asks r edits before not (done entries brief accepted at) = absurd (not _ _ brief refl)
quiet o n journal asks r edits before not (refused front a back entries told are accepted answered none) = refl

pub missed_puts : (o : Opening) (n : ℕ) (m : Memory) (cs : List Command) (h : HeardReply) (v w : View Opening Chunk) → v.first ≤ n → n < v.past → NotDone h.reply → IsCommandTaken (group_core o) n m (step.Group cs) h v w → is_put_undo (undoable_of_session n v.seen) ≡ is_put_undo (undoable_of_session n w.seen)
missed_puts o n m cs h v w above below not t = sym (taken_puts o n m (step.Group cs) h v w above below t ∙ ⊎_elim
    (λ none. ap (λ (x : HeardReply). puts_behind x.edits (is_put_undo (undoable_of_session n v.seen))) none)
    (λ heard. quiet o n (entries_of_chunks (v.seen ++ t.more)) (map (asked_of_book m) cs) h.reply h.edits (is_put_undo (undoable_of_session n v.seen)) not heard.answer)
    t.given)

pub missed_learned : (m : Memory) (cs : List Command) (r : GroupReply) (edits : List Edit) → NotDone r → group_memory m cs r edits ≡ missed_memory m cs
missed_learned m cs (group.One told) edits not = refl
missed_learned m cs (group.Done version from brief) edits not = absurd (not version from brief refl)
missed_learned m cs (group.Refused base at told) edits not = refl
missed_learned m cs group.NoUndo edits not = refl
missed_learned m cs group.NoMemory edits not = refl
