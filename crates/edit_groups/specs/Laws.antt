-- What a run leaves, and what an undo gives where nothing stands behind what it undoes.
use Rattle.std.specs.Prelude.{◌≡◌, ℕ, ◌+◌, List, [], ◌∷◌, ◌++◌, length, Some}
use Rattle.edit_journal.specs.declared.edit.Edit.{Edit}
use Rattle.edit_journal.specs.declared.edit.Entry.{Entry}
use Rattle.edit_journal.specs.declared.opening.Opening.{Opening}
use Rattle.edit_journal.specs.Documents.{Document, EditFits, after, body, document_of, document_opened}
use Rattle.edit_groups.specs.Answers.{IsUndo}
use Rattle.edit_groups.specs.Chunks.{entries_of_chunks}
use Rattle.edit_groups.specs.Sessions.{IsLegalRun}
use Rattle.edit_groups.specs.declared.chunk.Chunk.{Chunk}
use Rattle.edit_groups.specs.declared.reply.GroupReply.{GroupReply}
use Rattle.script_reader.specs.declared.step.Step.{Step}

-- each of these entries fits the document before it, where the first has this number
abbrev pub AreFitting : Document → ℕ → List Entry → Type 0
AreFitting d number [] = Unit {0}
AreFitting d number (e ∷ es) = EditFits d e.edit × AreFitting (after d number e.edit) (number + 1) es

-- the undo of a journal's last entry, where it is accepted, gives the body of the version before that entry
abbrev pub EachUndoGoesBack : Type 0
EachUndoGoesBack = (opening : Opening) (before : List Entry) (last : Entry) (r : GroupReply) (undo : Edit)
    → AreFitting (document_opened opening) 1 (before ++ last ∷ [])
    → IsUndo opening last.session (before ++ last ∷ []) (Some (record { number = length before + 1; edit = last.edit })) r (undo ∷ [])
    → body (document_of opening ((before ++ last ∷ []) ++ record { session = last.session; edit = undo } ∷ [])) ≡ body (document_of opening before)

-- of a legal run, the entries up to any of them fit, each the document before it
abbrev pub EachRunFits : Type 0
EachRunFits = (opening : Opening) (scripts : List (List Step)) (chunks : List Chunk) (replies : List (List GroupReply)) (front back : List Entry)
    → IsLegalRun opening scripts chunks replies → entries_of_chunks chunks ≡ front ++ back → AreFitting (document_opened opening) 1 front
