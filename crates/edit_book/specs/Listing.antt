-- The blocks as they stand in the file, and where a line of the file stands in them.
use Rattle.std.specs.Prelude.{ℕ, ◌+◌, ◌-◌, nat_lt, List, [], ◌∷◌, length, Option, Some, None, if◌then◌else◌}
use Rattle.edit_journal.specs.declared.opening.Opening.{Opening}
use Rattle.edit_journal.specs.Documents.{Block, Document}
use Rattle.edit_book.specs.declared.listed.BlockPlace.{BlockPlace}
use Rattle.edit_book.specs.declared.listed.LinePlace.{LinePlace}

-- blocks as they stand: each with its id, its stamp, the line at which it begins, or would, and how many lines it has; the first of them begins at this line
abbrev pub places_from : ℕ → List Block → List BlockPlace
places_from first [] = []
places_from first (b ∷ bs) = record { block = b.id; stamp = b.stamp; first = first; lines = length b.lines } ∷ places_from (first + length b.lines) bs

abbrev pub block_places : Opening → Document → List BlockPlace
block_places opening d = places_from opening.setting.first d.blocks

-- the block in which a line of the body stands, the first being 0, and which of the block's lines it is, from 1
abbrev pub place_within : List Block → ℕ → Option LinePlace
place_within [] offset = None
place_within (b ∷ bs) offset = if nat_lt offset (length b.lines) then Some (record { block = b.id; line = offset + 1 }) else place_within bs (offset - length b.lines)

-- the same of a line of the file; a line of the head stands in no block
abbrev pub line_place_of : Opening → Document → ℕ → Option LinePlace
line_place_of opening d line = if nat_lt line opening.setting.first then None else place_within d.blocks (line - opening.setting.first)
