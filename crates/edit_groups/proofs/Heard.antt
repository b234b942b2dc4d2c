-- What holds of the names that a session keeps, after any step.
use Rattle.std.proofs.Common.{◌≡◌, ℕ, List, ◌++◌, Option, Some, sym, ap, ◌∙◌, subst}
use Rattle.edit_journal.specs.declared.edit.Entry.{Entry}
use Rattle.edit_journal.specs.declared.opening.Opening.{Opening}
use Rattle.edit_journal.specs.Documents.{names_given}
use Rattle.edit_journal.proofs.Known.{names_longer}
use Rattle.script_reader.specs.declared.step.Step.{Step}
use Rattle.edit_book.specs.Memory.{Memory}
use Rattle.turn_book.specs.declared.view.View.{View}
use Rattle.turn_book.specs.Journal.{entry_list}
use Rattle.turn_book.specs.Taken.{IsCommandTaken}
use Rattle.edit_groups.specs.Chunks.{entries_of_chunks}
use Rattle.edit_groups.specs.Sessions.{HeardReply, group_core}
use Rattle.edit_groups.specs.declared.chunk.Chunk.{Chunk}
use Rattle.edit_groups.proofs.Undoable.{entries_append}

-- what an entry gave it gave, whatever came behind it
pub names_along : (o : Opening) (n : ℕ) (m : Memory) (c : Step) (h : HeardReply) (v w : View Opening Chunk) (head : ℕ) (names : List (List ℕ)) → IsCommandTaken (group_core o) n m c h v w → names_given o (entries_of_chunks v.seen) head ≡ Some names → names_given o (entries_of_chunks w.seen) head ≡ Some names
names_along o n m c h v w head names t given =
    subst (λ (j : List Entry). names_given o j head ≡ Some names)
    (sym (ap entries_of_chunks t.seen ∙ entries_append (v.seen ++ t.more) (entry_list t.added) ∙ ap (λ (l : List Entry). l ++ entries_of_chunks (entry_list t.added)) (entries_append v.seen t.more)))
    (names_longer o (entries_of_chunks v.seen ++ entries_of_chunks t.more) (entries_of_chunks (entry_list t.added)) head names (names_longer o (entries_of_chunks v.seen) (entries_of_chunks t.more) head names given))
