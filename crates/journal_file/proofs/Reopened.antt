-- What a lawful saved text keeps, as an outline asks for it.
use Rattle.std.proofs.Common.{ℕ, List, [], subst}
use Rattle.std.proofs.lemmas.List.Elements.{All-nil}
use Rattle.knit_base.specs.declared.profile.Profile.{Profile}
use Rattle.edit_journal.specs.declared.edit.BlockAt.{BlockAt}
use Rattle.edit_journal.specs.declared.edit.Edit.{Edit}
use Rattle.edit_journal.specs.declared.edit.Edit.TheVariants as edit
use Rattle.edit_journal.specs.declared.edit.Entry.{Entry}
use Rattle.edit_book.specs.Outlines.{HasShortText, block_texts_of}
use Rattle.journal_file.specs.SavedParts.{IsWritable, IsSpelledEntry, KeepsBounds, numbered_from}

-- what an edit that has a spelling gives is short
pub short_given : (e : Edit) → IsWritable e → HasShortText e
short_given (edit.Put block seen text) is = is.2.few
short_given (edit.Add anchor block text) is = is.2.few
short_given (edit.Cut block seen) is = tt
short_given (edit.Head seen names) is = tt

-- an opening keeps the bounds that it keeps with a journal
pub opening_only : (head : List (List ℕ)) (profile : Profile) (blocks : List BlockAt) (entries : List Entry) → KeepsBounds head profile blocks entries → KeepsBounds head profile (numbered_from 0 (block_texts_of blocks)) []
opening_only head profile blocks entries keeps = subst (λ bs. KeepsBounds head profile bs []) keeps.numbered (record {
  limits = keeps.limits;
  whole = keeps.whole;
  head_few = keeps.head_few;
  head_lines = keeps.head_lines;
  numbered = keeps.numbered;
  blocks_few = keeps.blocks_few;
  lines_few = keeps.lines_few;
  texts = keeps.texts;
  written = All-nil IsSpelledEntry;
})
