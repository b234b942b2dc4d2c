-- Segments of a second block read through a first one.
use Rattle.std.proofs.Common.{◌≡◌, ℕ, ◌+◌, List, [], ◌∷◌, ◌++◌, refl, ap, ◌∙◌, add_assoc}
use Rattle.std.proofs.lemmas.List.Concat.{flat_map-append}
use Rattle.carriage_model.specs.State.{State}
use Rattle.face_data.specs.Segments.{Changed, segments_on, read_seg, read_segs}
use Rattle.face_data.specs.Through.{through}
use Rattle.knit_base.specs.declared.needle.Needle.{Needle}
use Rattle.face_data.specs.declared.face.Seg.{Seg}
use Rattle.face_data.specs.declared.face.Seg.TheVariants.{Entry, New}

-- the state with these stacks
abbrev pub with_stacks : State → (Needle → List ℕ) → State
with_stacks s f = record s { stacks = f }

-- reading after the first block is reading the composed segments at its entry
pub read-through : (s : State) (first lines : ℕ) (a : List Changed) (segs : List Seg) →
    read_segs s first (through a lines segs) ≡ read_segs (with_stacks s (λ n. read_segs s first (segments_on a n))) (first + lines) segs
read-through s first lines a [] = refl
read-through s first lines a (Entry n ∷ segs) =
    flat_map-append (read_seg s first) (segments_on a n) (through a lines segs)
    ∙ ap (λ r. read_segs s first (segments_on a n) ++ r) (read-through s first lines a segs)
read-through s first lines a (New offset ∷ segs) =
    rw (read-through s first lines a segs, add_assoc first lines offset)
