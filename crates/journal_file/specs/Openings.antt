-- What was read before the entries.
use Rattle.std.specs.Prelude.{ℕ, length, map}
use Rattle.journal_file.specs.declared.opening.SavedOpening.{SavedOpening}
use Rattle.journal_file.specs.SavedForms.{BlocksSaid, OpeningSaid, block_words}

-- of the first blocks, and of the count of entries
abbrev pub said_behind_head : SavedOpening → BlocksSaid × ℕ
said_behind_head opening = ((length opening.texts, map block_words opening.texts), opening.entries)

abbrev pub said_of : SavedOpening → OpeningSaid
said_of opening = ((tt, opening.profile), ((length opening.head, opening.head), said_behind_head opening))
