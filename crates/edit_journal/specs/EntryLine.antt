-- The line that tells an entry, in reports and in saved texts.
use Rattle.std.specs.Prelude.{ℕ, List, ◌++◌, length, codes, decimal}
use Rattle.knit_base.specs.Names.{spaced_names}
use Rattle.knit_base.specs.Spelling.{labelled_number}
use Rattle.edit_journal.specs.declared.edit.Anchor.{Anchor}
use Rattle.edit_journal.specs.declared.edit.Anchor.TheVariants as anchor
use Rattle.edit_journal.specs.declared.edit.Edit.{Edit}
use Rattle.edit_journal.specs.declared.edit.Edit.TheVariants as edit
use Rattle.edit_journal.specs.declared.edit.Entry.{Entry}

-- where a new block stands
abbrev pub anchor_text : Anchor → List ℕ
anchor_text anchor.Start = codes "start"
anchor_text (anchor.After id) = decimal id

abbrev pub put_text : ℕ → ℕ → ℕ → List ℕ
put_text block seen lines = labelled_number (codes " put ") block ++ (labelled_number (codes " seen ") seen ++ labelled_number (codes " lines ") lines)

abbrev pub add_text : Anchor → ℕ → ℕ → List ℕ
add_text where_ block lines = codes " add " ++ (anchor_text where_ ++ (labelled_number (codes " block ") block ++ labelled_number (codes " lines ") lines))

abbrev pub cut_text : ℕ → ℕ → List ℕ
cut_text block seen = labelled_number (codes " cut ") block ++ labelled_number (codes " seen ") seen

abbrev pub head_text : ℕ → List (List ℕ) → List ℕ
head_text seen names = labelled_number (codes " put head seen ") seen ++ (codes " carriers" ++ spaced_names names)

-- an edit that was accepted; of a text the number of lines is told, of a header the names
abbrev pub edit_text : Edit → List ℕ
edit_text (edit.Put block seen text) = put_text block seen (length text)
edit_text (edit.Add where_ block text) = add_text where_ block (length text)
edit_text (edit.Cut block seen) = cut_text block seen
edit_text (edit.Head seen names) = head_text seen names

-- the line of an entry, without its number and without an end of line
abbrev pub entry_line : Entry → List ℕ
entry_line e = labelled_number (codes "session ") e.session ++ edit_text e.edit
