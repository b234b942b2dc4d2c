-- Segments of a second block in terms of the state at the first block's entry.
use Rattle.std.specs.Prelude.{ℕ, ◌+◌, List, [], ◌∷◌, map}
use Rattle.std.specs.List.{flat_map}
use Rattle.face_data.specs.declared.face.Seg.{Seg}
use Rattle.face_data.specs.declared.face.Seg.TheVariants.{Entry, New}
use Rattle.face_data.specs.Segments.{Changed, segments_on}

-- a segment of the second block, where the first one makes these changes and has so many lines
abbrev pub seg_through : List Changed → ℕ → Seg → List Seg
seg_through changes lines (Entry n) = segments_on changes n
seg_through changes lines (New offset) = New (lines + offset) ∷ []

-- segments of the second block, one after the other
abbrev pub through : List Changed → ℕ → List Seg → List Seg
through changes lines segs = flat_map (seg_through changes lines) segs

-- a change of the second block
abbrev pub change_through : List Changed → ℕ → Changed → Changed
change_through changes lines c = (c.0, through changes lines c.1)

-- the second block's changes
abbrev pub changes_through : List Changed → ℕ → List Changed → List Changed
changes_through changes lines more = map (change_through changes lines) more
