-- Accepted steps, and the journal that they make.
use Rattle.std.specs.Prelude.{ℕ, ◌+◌, ◌==◌, if◌then◌else◌, Bool, true, false, List, [], ◌∷◌, length, map, flat_map, Option, Some, None}
use Rattle.edit_journal.specs.declared.edit.Edit.{Edit}
use Rattle.edit_journal.specs.declared.edit.Edit.TheVariants as edit
use Rattle.edit_journal.specs.declared.edit.Entry.{Entry}
use Rattle.edit_groups.specs.declared.chunk.Chunk.{Chunk}

-- the entries that these edits of a session leave
abbrev pub entries_by : ℕ → List Edit → List Entry
entries_by session edits = map (λ e. record { session = session; edit = e }) edits

-- the journal of these steps: their edits in order
abbrev pub entries_of_chunks : List Chunk → List Entry
entries_of_chunks chunks = flat_map (λ c. entries_by c.session c.edits) chunks

-- the step that leaves these edits now, if there are some
abbrev pub chunk_of : ℕ → List Edit → Option Chunk
chunk_of session [] = None
chunk_of session (e ∷ es) = Some (record { session = session; edits = e ∷ es; earlier = false })

-- an entry that was there before, as a step
abbrev pub earlier_step : Entry → Chunk
earlier_step e = record { session = e.session; edits = e.edit ∷ []; earlier = true }

-- the steps of a journal that was there before
abbrev pub earlier_steps : List Entry → List Chunk
earlier_steps entries = map earlier_step entries

-- a put or an add that can be undone, and the number of its entry
pub record Undoable : Type 0 where
  pub number : ℕ
  pub edit : Edit

-- a put or an add, the entry with this number, can be undone
abbrev pub undoable_edit : ℕ → Edit → Option Undoable
undoable_edit number (edit.Put block seen text) = Some (record { number = number; edit = edit.Put block seen text })
undoable_edit number (edit.Add anchor block text) = Some (record { number = number; edit = edit.Add anchor block text })
undoable_edit number (edit.Cut block seen) = None
undoable_edit number (edit.Head seen names) = None

-- what can be undone of edits of which the first one's entry has this number: the edit, where it is one alone
abbrev pub undoable_in : ℕ → List Edit → Option Undoable
undoable_in number [] = None
undoable_in number (e ∷ []) = undoable_edit number e
undoable_in number (e ∷ next ∷ more) = None

-- what can be undone of a step, which of an earlier one is nothing
abbrev pub undoable_of : ℕ → Chunk → Option Undoable
undoable_of number c = if c.earlier then None else undoable_in number c.edits

-- what can be undone of the last of these steps that the session made, where the first entry of these steps has this number, or else what was found before
abbrev pub undoable_from : ℕ → ℕ → Option Undoable → List Chunk → Option Undoable
undoable_from session number found [] = found
undoable_from session number found (c ∷ cs) = undoable_from session (number + length c.edits) (if c.session == session then undoable_of number c else found) cs

-- what can be undone of the session's last step
abbrev pub undoable_of_session : ℕ → List Chunk → Option Undoable
undoable_of_session session chunks = undoable_from session 1 None chunks

-- the edit puts a text into a block
abbrev pub is_put : Edit → Bool
is_put (edit.Put block seen text) = true
is_put (edit.Add anchor block text) = false
is_put (edit.Cut block seen) = false
is_put (edit.Head seen names) = false

-- what would be undone is a put
abbrev pub is_put_undo : Option Undoable → Bool
is_put_undo None = false
is_put_undo (Some last) = is_put last.edit
