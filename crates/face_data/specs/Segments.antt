-- What needles hold at the end of a block, in terms of what stood on the needles at its entry.
use Rattle.std.specs.Prelude.{◌≡◌, ℕ, ◌+◌, ◌<◌, ◌^◌, List, [], ◌∷◌, Option, unwrap_or}
use Rattle.std.specs.List.{flat_map, sum_by}
use Rattle.std.specs.Map.{lookup}
use Rattle.knit_base.specs.declared.needle.Needle.{Needle}
use Rattle.knit_base.specs.Needle.{same_needle}
use Rattle.carriage_model.specs.State.{State}
use Rattle.face_data.specs.declared.face.Seg.{Seg}
use Rattle.face_data.specs.declared.face.Seg.TheVariants.{Entry, New}

-- a needle, and the segments that it holds
abbrev pub Changed : Type 0
Changed = Needle × List Seg

-- the segments that the changes give the needle
abbrev pub change_at : List Changed → Needle → Option (List Seg)
change_at changes n = lookup (same_needle n) changes

-- these segments, or the needle's own entry
abbrev pub segs_or_own : Option (List Seg) → Needle → List Seg
segs_or_own segs n = unwrap_or segs (Entry n ∷ [])

-- what the needle holds: one that the changes don't name holds its own entry
abbrev pub segments_on : List Changed → Needle → List Seg
segments_on changes n = segs_or_own (change_at changes n) n

-- a segment read in the state at entry, where the block begins at line `first`
abbrev pub read_seg : State → ℕ → Seg → List ℕ
read_seg s first (Entry n) = s.stacks n
read_seg s first (New offset) = (first + offset) ∷ []

-- segments read in the state at entry, one after the other
abbrev pub read_segs : State → ℕ → List Seg → List ℕ
read_segs s first segs = flat_map (read_seg s first) segs

-- the line of a new loop has a number of 32 bits, where the block begins at line `first`
abbrev pub OffsetFits : ℕ → Seg → Type 0
OffsetFits first (Entry n) = Unit {0}
OffsetFits first (New offset) = first + offset < 2 ^ 32

-- the needle whose stack at entry a segment stands for
abbrev pub entry_needles_in : Seg → List Needle
entry_needles_in (Entry n) = n ∷ []
entry_needles_in (New offset) = []

-- how many new loops a segment stands for
abbrev pub new_in : Seg → ℕ
new_in (Entry n) = 0
new_in (New offset) = 1

-- the needles whose stacks at entry the segments stand for
abbrev pub entry_needles_of : List Seg → List Needle
entry_needles_of segs = flat_map entry_needles_in segs

-- how many new loops the segments stand for
abbrev pub new_of : List Seg → ℕ
new_of segs = sum_by new_in segs

-- the needles whose stacks at entry stand on these needles
abbrev pub names_through : List Changed → List Needle → List Needle
names_through changes names = flat_map (λ n. entry_needles_of (segments_on changes n)) names

-- how many new loops stand on these needles
abbrev pub new_through : List Changed → List Needle → ℕ
new_through changes names = sum_by (λ n. new_of (segments_on changes n)) names

-- the stacks are what the changes say, in a block that was entered in state s at line `first`
abbrev pub AreRead : List Changed → State → ℕ → (Needle → List ℕ) → Type 0
AreRead changes s first stacks = (n : Needle) → stacks n ≡ read_segs s first (segments_on changes n)
