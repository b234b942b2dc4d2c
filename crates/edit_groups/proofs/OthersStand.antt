-- A session behind a step of another one.
use Rattle.std.proofs.Common.{false, ◌≡◌, ◌≢◌, ℕ, List, [], ◌∷◌, ◌++◌, Some, sym, ap, ◌∙◌, subst, append-nil}
use Rattle.edit_journal.specs.declared.edit.Edit.{Edit}
use Rattle.edit_journal.specs.declared.edit.Entry.{Entry}
use Rattle.edit_journal.specs.declared.opening.Opening.{Opening}
use Rattle.edit_journal.specs.Documents.{names_given}
use Rattle.edit_journal.proofs.Known.{names_longer}
use Rattle.edit_book.specs.Memory.{Memory}
use Rattle.turn_book.specs.Journal.{entry_list}
use Rattle.edit_groups.specs.Alone.{IsSessionAt}
use Rattle.edit_groups.specs.Chunks.{chunk_of, entries_of_chunks, is_put_undo}
use Rattle.edit_groups.specs.declared.chunk.Chunk.{Chunk}
use Rattle.edit_groups.specs.declared.session.GroupSession.{GroupSession}
use Rattle.edit_groups.proofs.Undoable.{entries_append, undoable_other}

-- it stands as before
pub others_stand : (opening : Opening) (n : ℕ) (edits : List Edit) (chunks : List Chunk) (m : Memory) (s : GroupSession) → s.session.number ≢ n → IsSessionAt opening chunks m s → IsSessionAt opening (chunks ++ entry_list (chunk_of n edits)) m s
others_stand opening n [] chunks m s other at = subst (λ (l : List Chunk). IsSessionAt opening l m s) (sym (append-nil chunks)) at
others_stand opening n (e ∷ es) chunks m s other at = let c : Chunk = record { session = n; edits = e ∷ es; earlier = false } in record {
  remembers = at.remembers;
  names = subst (λ (j : List Entry). names_given opening j s.session.learned.head ≡ Some s.session.header.declared) (sym (entries_append chunks (c ∷ [])))
      (names_longer opening (entries_of_chunks chunks) (entries_of_chunks (c ∷ [])) s.session.learned.head s.session.header.declared at.names);
  last = at.last ∙ sym (ap is_put_undo (undoable_other s.session.number chunks c (λ same. other (sym same))));
}
