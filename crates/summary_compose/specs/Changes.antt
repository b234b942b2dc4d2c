-- Changes whose segments stand in one list.
use Rattle.std.specs.Prelude.{◌≡◌, ℕ, ◌+◌, List, false, length, map, All}
use Rattle.std.specs.List.{sum_by}
use Rattle.knit_base.specs.declared.needle.Needle.{Needle}
use Rattle.knit_base.specs.Needle.{is_slider}
use Rattle.face_data.specs.declared.face.Change.{Change}
use Rattle.face_data.specs.declared.face.Seg.{Seg}
use Rattle.face_data.specs.declared.face.Seg.TheVariants.{Entry, New}
use Rattle.face_data.specs.Conditions.{part_of}
use Rattle.face_data.specs.declared.face.FaceView.{FaceView}
use Rattle.face_data.specs.Composition.{changes_merged}
use Rattle.face_data.specs.Segments.{Changed, OffsetFits}
use Rattle.face_data.specs.Through.{changes_through}
use Rattle.face_data.specs.View.{changed_of}

-- the needles of changes
abbrev pub changed_needles : List Change → List Needle
changed_needles changes = map (λ (c : Change). c.needle) changes

-- how many segments changes have together
abbrev pub segs_in : List Changed → ℕ
segs_in changes = sum_by (λ (c : Changed). length c.1) changes

-- the lines of the new loops in the segments of each change can be raised
abbrev pub HaveOffsets : ℕ → List Seg → List Change → Type 0
HaveOffsets lines segs changes = All (λ (c : Change). All (OffsetFits lines) (part_of segs c.part)) changes

-- a segment of a second face, the line of a new loop counted from the first line of the first face
abbrev pub raised_seg : ℕ → Seg → Seg
raised_seg lines (Entry n) = Entry n
raised_seg lines (New offset) = New (lines + offset)

-- the changes of a face with their segments written out
abbrev pub changes_in : FaceView → List Changed
changes_in face = map (changed_of face.segs.now) face.changes.now

-- no change is of a slider
abbrev pub SpareSliders : List Change → Type 0
SpareSliders changes = All (λ (c : Change). is_slider c.needle.bed ≡ false) changes

-- the changes of both faces, those of the second read through the first
abbrev pub merged_of : FaceView → FaceView → List Changed
merged_of a b = changes_merged (changes_in a) (changes_through (changes_in a) a.lines (changes_in b))

-- what contracts see of changes in the making: the changes, and for how many of them and of their segments there is room
pub record LaidView : Type 0 where
  pub changes : List Changed
  pub change_room : ℕ
  pub seg_room : ℕ
