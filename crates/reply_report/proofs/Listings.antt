-- How many places there are.
use Rattle.std.proofs.Common.{◌≡◌, ℕ, suc, ◌+◌, List, [], ◌∷◌, length, refl, ap}
use Rattle.edit_journal.specs.Documents.{Block}
use Rattle.edit_book.specs.Listing.{places_from}

-- one for each block
pub places-long : (first : ℕ) (blocks : List Block) → length (places_from first blocks) ≡ length blocks
places-long first [] = refl
places-long first (b ∷ bs) = ap suc (places-long (first + length b.lines) bs)
