-- Segments read where it is known what the needles held.
use Rattle.std.proofs.Common.{◌≡◌, ℕ, List, [], ◌∷◌, ◌++◌, refl, sym, ap}
use Rattle.std.proofs.Math.Path.{ap₂}
use Rattle.knit_base.specs.declared.needle.Needle.{Needle}
use Rattle.carriage_model.specs.State.{State}
use Rattle.face_data.specs.declared.face.Seg.{Seg}
use Rattle.face_data.specs.declared.face.Seg.TheVariants.{Entry, New}
use Rattle.face_data.specs.Segments.{entry_needles_of, read_segs}
use Rattle.face_data.proofs.Members.{Contains-head, Contains-tail}
use Rattle.loop_history.specs.Entries.{AreEntriesOf, state_with_stacks}

-- they are the same in a state in which the needles hold this
pub read_segs-entered : (s : State) (first : ℕ) (entries : List (Needle × List ℕ)) (segs : List Seg) → AreEntriesOf s entries segs →
    read_segs (state_with_stacks entries) first segs ≡ read_segs s first segs
read_segs-entered s first entries [] held = refl
read_segs-entered s first entries (New offset ∷ segs) held = ap (λ lines. read_segs s first (New offset ∷ []) ++ lines) (read_segs-entered s first entries segs held)
read_segs-entered s first entries (Entry n ∷ segs) held =
    ap₂ (λ (here rest : List ℕ). here ++ rest) (sym (held n (Contains-head n (entry_needles_of segs))))
    (read_segs-entered s first entries segs (λ m there. held m (Contains-tail n (entry_needles_of segs) m there)))
