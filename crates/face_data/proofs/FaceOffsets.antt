-- The lines of the new loops of a good face have numbers of 32 bits, where those of its lines have.
use Rattle.std.proofs.Common.{ℕ, ◌+◌, ◌<◌, ◌^◌, List, All, get_or, arith}
use Rattle.std.specs.List.{Contains}
use Rattle.std.proofs.lemmas.List.Elements.{Contains-get_or}
use Rattle.knit_base.specs.declared.needle.Needle.{Needle}
use Rattle.face_data.specs.declared.face.Change.{Change}
use Rattle.face_data.specs.declared.face.FaceView.{FaceView}
use Rattle.face_data.specs.declared.face.Seg.{Seg}
use Rattle.face_data.specs.declared.face.Seg.TheVariants.{Entry, New}
use Rattle.face_data.specs.Conditions.{part_of}
use Rattle.face_data.specs.Goodness.{ChangeFits, IsGood}
use Rattle.face_data.specs.Segments.{Changed, OffsetFits}
use Rattle.face_data.specs.View.{changed_of, summary_of}
use Rattle.face_data.proofs.Members.{contains_mapped}

offset_fits : (first lines : ℕ) (known : List Needle) (c : Changed) → ChangeFits lines known c → first + lines < 2 ^ 32 → (s : Seg) → Contains c.1 s → OffsetFits first s
offset_fits first lines known c fits sum (Entry n) there = tt
offset_fits first lines known c fits sum (New offset) there = omega (arith, fits.offsets offset there, sum)

-- those in the segments of each change
pub offsets_fit : (carriers limit : ℕ) (known : List Needle) (face : FaceView) (first : ℕ) → IsGood carriers limit known (summary_of face) → first + face.lines < 2 ^ 32 →
    All (λ (c : Change). All (OffsetFits first) (part_of face.segs.now c.part)) face.changes.now
offsets_fit carriers limit known face first g sum k d within j e below =
    let c : Changed = changed_of face.segs.now (get_or face.changes.now k d) in
    offset_fits first face.lines known c (g.fair.changes_fit c (contains_mapped (changed_of face.segs.now) face.changes.now k d within)) sum (get_or c.1 j e) (Contains-get_or c.1 j e below)
