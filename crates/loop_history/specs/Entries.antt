-- What needles hold where a block begins.
use Rattle.std.specs.Prelude.{◌≡◌, ℕ, List, [], unwrap_or}
use Rattle.std.specs.List.{Contains}
use Rattle.std.specs.Map.{lookup}
use Rattle.knit_base.specs.declared.needle.Needle.{Needle}
use Rattle.knit_base.specs.Needle.{same_needle}
use Rattle.carriage_model.specs.State.{State, empty_state}
use Rattle.face_data.specs.declared.face.Seg.{Seg}
use Rattle.face_data.specs.Segments.{entry_needles_of}

-- the loops that the list gives the needle, and none where it doesn't name it
abbrev pub loops_entered : List (Needle × List ℕ) → Needle → List ℕ
loops_entered entries n = unwrap_or (lookup (same_needle n) entries) []

-- a state in which the needles hold these loops
abbrev pub state_with_stacks : List (Needle × List ℕ) → State
state_with_stacks entries = record empty_state { stacks = loops_entered entries }

-- in the state the needles whose stacks the segments stand for hold these loops
abbrev pub AreEntriesOf : State → List (Needle × List ℕ) → List Seg → Type 0
AreEntriesOf s entries segs = (n : Needle) → Contains (entry_needles_of segs) n → s.stacks n ≡ loops_entered entries n
