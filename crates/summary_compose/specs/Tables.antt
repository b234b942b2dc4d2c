-- Tables of places by needle. What an entry says counts only where the list has the needle there.
use Rattle.std.specs.Prelude.{◌≡◌, ◌≢◌, ℕ, ◌<◌, ◌≤◌, ◌^◌, List, length, take, map, slice_index_or, vec_capacity, Bool, ◌&&◌, nat_le, if◌then◌else◌}
use Rattle.knit_base.specs.declared.needle.Needle.{Needle}
use Rattle.knit_base.specs.Needle.{same_needle}
use Rattle.face_data.specs.Spots.{spot_of}
use Rattle.summary_compose.specs.declared.index.NeedleLink.{NeedleLink}
use Rattle.summary_compose.specs.declared.places.Places.{Places}

-- if the needle is in the list, it stands at this place, and at none behind it
abbrev pub Leads : List Needle → Needle → ℕ → Type 0
Leads names n place = (k : ℕ) → k < length names → slice_index_or names k n ≡ n → (k ≤ place) × (place < length names) × (slice_index_or names place n ≡ n)

-- each entry of the table leads to its needle; those that aren't there are 0
abbrev pub IsTableOf : List ℕ → List Needle → Type 0
IsTableOf entries names = (n : Needle) → Leads names n (slice_index_or entries (spot_of n) 0)

-- a table as before, but with this number for the needle
pub record IsPlaceWritten (entries more : List ℕ) (n : Needle) (number : ℕ) : Type 0 where
  pub here : slice_index_or more (spot_of n) 0 ≡ number
  pub others : (spot : ℕ) → spot ≢ spot_of n → slice_index_or more spot 0 ≡ slice_index_or entries spot 0

-- the table has room for an entry for each needle
abbrev pub HasNeedlePlaces : Places → Type 0
HasNeedlePlaces places = 2 ^ 18 ≤ vec_capacity places.table.entries

-- the needles of links
abbrev pub link_needles : List NeedleLink → List Needle
link_needles links = map (λ (l : NeedleLink). l.needle) links

-- each link leads to its needle's place before it
abbrev pub TableChainsLeadBack : List NeedleLink → Type 0
TableChainsLeadBack links = (k : ℕ) (d : NeedleLink) → k < length links → Leads (link_needles (take k links)) (slice_index_or links k d).needle (slice_index_or links k d).next

-- one needle of a kept condition on sizes: how many needles that names, and how many loops it allows them together
pub record Note : Type 0 where
  pub needle : Needle
  pub len : ℕ
  pub most : ℕ

-- what a link notes
abbrev pub note_of : NeedleLink → Note
note_of l = record { needle = l.needle; len = l.len; most = l.most }

-- the note is of this needle, of a condition that names at least so many needles and allows at most so many loops
abbrev pub note_suits : Needle → ℕ → ℕ → Note → Bool
note_suits n len most note = same_needle note.needle n && (nat_le len note.len && nat_le note.most most)

-- for how many notes there is room: for none where the table has no room for each needle
abbrev pub note_room : ℕ → ℕ → ℕ
note_room entries links = if nat_le (2 ^ 18) entries then links else 0

-- what contracts see of an index: the notes in their order, and for how many there is room
pub record IndexView : Type 0 where
  pub notes : List Note
  pub room : ℕ
