-- A step that is taken is right.
use Rattle.std.proofs.Common.{◌≡◌, inl, inr, ⊎_elim, ℕ, ◌+◌, ◌≤◌, List, [], ◌∷◌, ◌++◌, length, Option, Some, None, IfSome, sym, ap, ◌∙◌, refl, append-nil}
use Rattle.edit_journal.specs.declared.edit.Edit.{Edit}
use Rattle.edit_journal.specs.declared.edit.Entry.{Entry}
use Rattle.edit_journal.specs.declared.opening.Opening.{Opening}
use Rattle.edit_journal.specs.Documents.{document_of}
use Rattle.edit_journal.specs.Entries.{entry_limit}
use Rattle.edit_book.specs.Replies.{block_limit}
use Rattle.turn_book.specs.Journal.{Appends, entry_list}
use Rattle.edit_groups.specs.Chunks.{chunk_of, entries_of_chunks}
use Rattle.edit_groups.specs.Groups.{IsRightGroupReply, IsStepTaken, asked_of_group_command}
use Rattle.edit_groups.specs.declared.chunk.Chunk.{Chunk}
use Rattle.edit_groups.specs.declared.reply.GroupCommand.{GroupCommand}
use Rattle.edit_groups.specs.declared.reply.Told.{Told}

own_chunk : (session : ℕ) (edits : List Edit) → IfSome (chunk_of session edits) (λ c. c.session ≡ session)
own_chunk session [] = tt
own_chunk session (e ∷ es) = refl

pub taken_right : (o : Opening) (chunks after : List Chunk) (session : ℕ) (c : GroupCommand) (told : Told) → told.step ≡ length chunks → told.ids ≡ (document_of o (entries_of_chunks chunks)).drawn → length (entries_of_chunks chunks) ≤ entry_limit → told.ids ≤ block_limit + entry_limit → IsStepTaken o chunks session (asked_of_group_command c) told.reply after
    → Appends (λ (k : Chunk). k.session) session (λ added. IsRightGroupReply o chunks session c told added) chunks after
taken_right o chunks after session c told step ids few ids_fit t = ⊎_elim
    (λ short. (None, short.1 ∙ sym (append-nil chunks), tt, record { step = step; ids = ids; entries_fit = few; ids_fit = ids_fit; answer = inl (short.0, refl) }))
    (λ due. (chunk_of session due.0, due.2, own_chunk session due.0, record { step = step; ids = ids; entries_fit = few; ids_fit = ids_fit; answer = inr (due.0, due.1, refl) }))
    t
