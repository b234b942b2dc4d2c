-- What fits these steps fits more of them.
use Rattle.std.proofs.Common.{ℕ, List, [], ◌∷◌, ◌++◌, sym, subst}
use Rattle.std.proofs.lemmas.Grind.{flat_map-append}
use Rattle.edit_journal.specs.declared.edit.Entry.{Entry}
use Rattle.edit_journal.specs.declared.opening.Opening.{Opening}
use Rattle.edit_book.specs.Fitting.{fits_longer as book_fits_longer}
use Rattle.edit_book.specs.Turns as book
use Rattle.edit_groups.specs.Chunks.{entries_by, entries_of_chunks}
use Rattle.edit_groups.specs.Groups.{AreFitEdits, IsFitGroupCommand}
use Rattle.edit_groups.specs.declared.chunk.Chunk.{Chunk}
use Rattle.edit_groups.specs.declared.reply.GroupCommand.{GroupCommand}
use Rattle.edit_groups.specs.declared.reply.GroupCommand.TheVariants as group
use Rattle.edit_groups.specs.declared.reply.GroupEdit.{GroupEdit}
use Rattle.edit_groups.specs.declared.reply.GroupEdit.TheVariants as group_edit

pub edits_longer : (o : Opening) (es more : List Entry) (edits : List GroupEdit) → AreFitEdits o es edits → AreFitEdits o (es ++ more) edits
edits_longer o es more [] f = tt
edits_longer o es more (group_edit.Ready c ∷ edits) f = ((f.0.0, book_fits_longer o es more c f.0.1), edits_longer o es more edits f.1)
edits_longer o es more (group_edit.Refused told ∷ edits) f = (tt, edits_longer o es more edits f.1)

pub fits_longer : (o : Opening) (before more : List Chunk) (c : GroupCommand) → IsFitGroupCommand o before c → IsFitGroupCommand o (before ++ more) c
fits_longer o before more (group.One c) f =
    subst (λ (j : List Entry). book.IsFitBookCommand o j c) (sym (flat_map-append (λ (k : Chunk). entries_by k.session k.edits) before more)) (book_fits_longer o (entries_of_chunks before) (entries_of_chunks more) c f)
fits_longer o before more (group.Group edits) f = (
  f.0,
  f.1,
  subst (λ (j : List Entry). AreFitEdits o j edits) (sym (flat_map-append (λ (k : Chunk). entries_by k.session k.edits) before more)) (edits_longer o (entries_of_chunks before) (entries_of_chunks more) edits f.2),
)
fits_longer o before more group.Undo f = tt
